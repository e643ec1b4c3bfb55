pub mod Before
pub mod Front
pub mod Lexed
pub mod Spans
pub mod Word
