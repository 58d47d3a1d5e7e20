mod StandardFacts
pub mod NumberedLemmas
pub mod CountLemmas
pub mod LotLemmas
pub mod KnownLemmas
pub mod PrintableLemmas
