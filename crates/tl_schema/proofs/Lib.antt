mod EntryOrder
pub mod Rows
mod ValueReading
