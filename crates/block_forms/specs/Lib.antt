-- Read Heads first (what stands behind a keyword).
pub mod Heads
pub mod Keywords
pub mod Indices
pub mod Quotes
pub mod Named
