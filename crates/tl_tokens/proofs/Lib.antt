pub mod Choices
pub mod Lengths
mod Quotes
pub mod Pieces
mod Quoted
pub mod Rows
mod Spellings
