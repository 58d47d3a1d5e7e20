mod StandardFacts
pub mod LineLemmas
pub mod SaidLemmas
pub mod TurnLemmas
pub mod LogLemmas
pub mod HeldLemmas
pub mod ReadLemmas
pub mod MergeLemmas
pub mod PrintedLemmas
pub mod NameLemmas
pub mod InTurnLemmas
pub mod PartLemmas
