pub mod OutsideLemmas
pub mod WaveLemmas
