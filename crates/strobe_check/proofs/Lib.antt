mod StandardFacts
pub mod ListLemmas
pub mod LookLemmas
pub mod RunLemmas
pub mod ExtentLemmas
pub mod FailLemmas
pub mod PlaceLemmas
pub mod CycleLemmas
pub mod SensedLemmas
pub mod WindowLemmas
pub mod HistoryLemmas
pub mod PassLemmas
pub mod UnderwayLemmas
pub mod AheadLemmas
pub mod AgreeLemmas
