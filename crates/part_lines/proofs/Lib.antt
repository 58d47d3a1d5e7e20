pub mod LineLemmas
pub mod ReadingLemmas
pub mod FaultLemmas
pub mod PrintedLemmas
pub mod HasReadLemmas
pub mod WordLemmas
