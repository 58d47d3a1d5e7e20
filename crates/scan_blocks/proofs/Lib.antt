pub mod StandardFacts
pub mod LimitLemmas
pub mod WorkingLemmas
pub mod CellLemmas
pub mod ChainLemmas
