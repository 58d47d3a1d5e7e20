pub mod Bytes
pub mod Pieces
pub mod Tokens
pub mod Faults
pub mod Text
pub mod Step
pub mod Slow
pub mod SlowFaults
