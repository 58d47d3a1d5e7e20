pub mod MarkLemmas
pub mod PlayLemmas
pub mod TryLemmas
pub mod TextLemmas
pub mod BookLemmas
pub mod CycleLemmas
pub mod CodeLemmas
pub mod LawLemmas
