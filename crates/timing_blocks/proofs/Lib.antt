pub mod StandardFacts
mod TableLemmas
mod WaveformLemmas
mod ActLemmas
mod MadeLemmas
pub mod ChoiceLemmas
pub mod SelectorLemmas
pub mod TimingForms
pub mod TableNames
pub mod VariableForms
