pub mod SheetLemmas
pub mod OrderLemmas
pub mod LineLemmas
pub mod FlatLemmas
mod StandardFacts
