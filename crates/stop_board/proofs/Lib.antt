pub mod SumLemmas
pub mod RuleLemmas
pub mod WordLemmas
pub mod StepLemmas
pub mod MakingLemmas
pub mod ClosingLemmas
pub mod StandardFacts
