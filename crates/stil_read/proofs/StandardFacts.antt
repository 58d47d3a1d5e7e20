-- Known texts, whose results the definitions give.
pub mod Texts
