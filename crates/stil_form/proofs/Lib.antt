pub mod ReadingLemmas
pub mod HeadLemmas
