pub mod Insert
pub mod Law
pub mod Rows
