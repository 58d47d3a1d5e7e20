pub mod Lexeme
pub mod Skipping
pub mod Reading
pub mod Setting
pub mod Words
pub mod Fronts
