pub mod FrontLemmas
pub mod SameLemmas
pub mod LawLemmas
pub mod LevelLemmas
pub mod WavesLemmas
pub mod FineLemmas
