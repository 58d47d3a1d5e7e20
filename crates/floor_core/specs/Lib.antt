pub mod Book
pub mod World
pub mod Interleavings
pub mod Filing
