pub mod OneInputLemmas
pub mod HeldLemmas
