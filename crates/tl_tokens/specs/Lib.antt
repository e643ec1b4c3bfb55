pub mod Lexemes
pub mod Seen
pub mod Tables
pub mod Tokens
