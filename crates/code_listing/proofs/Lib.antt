pub mod SequenceLemmas
pub mod LineLemmas
pub mod ListingLemmas
