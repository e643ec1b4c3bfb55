pub mod CellReading
pub mod Lists
mod RowReading
pub mod Short
