pub mod StandardFacts
pub mod SignalForms
