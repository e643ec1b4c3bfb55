pub mod Digits
mod EscapedOn
pub mod KeyOrder
pub mod KeyReading
pub mod Utf8
pub mod ValueOrder
