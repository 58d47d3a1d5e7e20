pub mod Bytes
pub mod Numbers
pub mod Limits
pub mod Lexemes
pub mod Texts
