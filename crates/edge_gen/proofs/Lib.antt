mod StandardFacts
pub mod InstantLemmas
pub mod SortLemmas
pub mod DriveLemmas
pub mod GroupLemmas
pub mod SignalLemmas
pub mod MomentLemmas
pub mod HeldLemmas
pub mod InsideLemmas
