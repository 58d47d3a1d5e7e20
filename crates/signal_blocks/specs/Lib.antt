-- Signals blocks, and SignalGroups blocks.
pub mod Signals
pub mod Groups
