-- Read Table first (what is known of signals and groups), then Lookup (what it answers), Found (how an answer is held),
-- Lexed (how a group's text is read) and Memory (how the code holds it).
pub mod Table
pub mod Lookup
pub mod Found
pub mod Lexed
pub mod Memory
pub mod Marks
pub mod Begun
pub mod Graph
pub mod Located
pub mod Settled
pub mod Fault
