pub mod EndLemmas
pub mod FileLemmas
pub mod InputLemmas
pub mod NetLemmas
pub mod FineLemmas
