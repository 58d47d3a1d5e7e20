pub mod StandardFacts
pub mod WorkingLemmas
pub mod ExecutiveLemmas
pub mod BurstLemmas
pub mod DefLemmas
