pub mod Signals
pub mod Moments
pub mod Step
pub mod Held
pub mod Lending
