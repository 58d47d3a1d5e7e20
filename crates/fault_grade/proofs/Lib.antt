mod StandardFacts
pub mod FirstLemmas
pub mod RunLemmas
pub mod ExecLemmas
pub mod SearchLemmas
pub mod DieLemmas
pub mod ImageLemmas
pub mod CutLemmas
