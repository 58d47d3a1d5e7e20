pub mod AcceptedLemmas
pub mod AcceptedData
pub mod AcceptedBodies
pub mod DataLemmas
pub mod FormLemmas
pub mod BodyLemmas
pub mod StandardFacts
pub mod ToldLemmas
