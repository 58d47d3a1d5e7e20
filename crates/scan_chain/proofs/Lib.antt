pub mod CellLemmas
pub mod NumberLemmas
pub mod StandardFacts
pub mod WorkingLemmas
pub mod ShortLemmas
