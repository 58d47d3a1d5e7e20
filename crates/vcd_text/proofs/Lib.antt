mod StandardFacts
pub mod DigitLemmas
pub mod SpellingLemmas
pub mod RiseLemmas
pub mod StandingLemmas
pub mod ReadingLemmas
pub mod FeedLemmas
pub mod FaultLemmas
pub mod TakingLemmas
pub mod EndLemmas
pub mod LawLemmas
