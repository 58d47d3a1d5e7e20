pub mod ChoiceLemmas
pub mod DataLemmas
pub mod CellLemmas
