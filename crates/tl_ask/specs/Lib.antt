pub mod Asked
pub mod Columns
pub mod Given
pub mod Hears
pub mod Shown
pub mod Thin
