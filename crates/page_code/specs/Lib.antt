pub mod Changes
pub mod Spelling
pub mod Saved
pub mod Fields
pub mod Reading
pub mod Index
pub mod Accepted
pub mod Nest
