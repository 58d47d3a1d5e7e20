pub mod RuleLemmas
pub mod PoolLemmas
pub mod PageLemmas
pub mod NextLemmas
pub mod CursorLemmas
pub mod StandardFacts
