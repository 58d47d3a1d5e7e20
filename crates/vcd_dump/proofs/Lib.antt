mod StandardFacts
pub mod PieceLemmas
pub mod ExecLemmas
pub mod CallsLemmas
pub mod TriedLemmas
pub mod TapeLemmas
pub mod FinishLemmas
pub mod WriteLemmas
pub mod GrowLemmas
pub mod SoundLemmas
pub mod SoundCalls
pub mod SoundTape
