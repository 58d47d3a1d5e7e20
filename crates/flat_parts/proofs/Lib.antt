pub mod NestLemmas
pub mod OrderLemmas
