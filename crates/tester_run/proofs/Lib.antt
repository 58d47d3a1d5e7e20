pub mod TurnLemmas
pub mod JobLemmas
pub mod LotLemmas
