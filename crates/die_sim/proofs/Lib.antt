mod StandardFacts
pub mod GateLemmas
pub mod MomentLemmas
pub mod OrderLemmas
pub mod PendingLemmas
pub mod WalkLemmas
pub mod TableLemmas
pub mod CellLemmas
pub mod ReaderLemmas
pub mod WaitingLemmas
pub mod StepLemmas
pub mod SettledLemmas
pub mod SettlingLemmas
pub mod SteppedLemmas
pub mod SocketLemmas
pub mod TapeLemmas
