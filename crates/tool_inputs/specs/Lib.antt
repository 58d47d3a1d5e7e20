-- Read Endings first (how a run ends), then Inputs (what is read, and why it isn't taken).
pub mod Status
pub mod Endings
pub mod Refusals
pub mod Inputs
pub mod Nets
pub mod Refused
pub mod FineInputs
