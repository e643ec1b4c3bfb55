mod Columns
mod Shown
mod Spelled
