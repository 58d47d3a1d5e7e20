pub mod SumLemmas
pub mod RuleLemmas
pub mod MakingLemmas
pub mod StepLemmas
pub mod FilingLemmas
pub mod ClosingLemmas
pub mod ShareLemmas
pub mod StandardFacts
