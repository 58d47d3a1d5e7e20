-- Read Data first (what is written in a text), then Meaning (what it stands for), then Faults (why it is refused).
pub mod Data
pub mod Meaning
pub mod Faults
