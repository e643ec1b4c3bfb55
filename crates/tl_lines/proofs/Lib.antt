mod Blanks
mod Digits
mod Items
mod Lines
mod Ranges
