pub mod Directive
pub mod Fields
pub mod Form
pub mod Lines
pub mod Number
pub mod Range
