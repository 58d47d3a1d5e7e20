pub mod StandardFacts
pub mod NameLemmas
pub mod KeptLemmas
pub mod LexedLemmas
pub mod OneTextLemmas
pub mod TextLemmas
