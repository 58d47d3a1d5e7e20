pub mod DatalogText
pub mod Printable
pub mod Counts
pub mod Summary
