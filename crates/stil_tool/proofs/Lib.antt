pub mod WordsLemmas
pub mod CompletenessLemmas
pub mod LotLemmas
pub mod DrillLemmas
pub mod FineLotLemmas
pub mod RunLemmas
pub mod GradeLemmas
pub mod DumpLemmas
pub mod AloneLemmas
pub mod QuietLemmas
pub mod OneTextLemmas
pub mod FineDrillLemmas
mod StandardFacts
