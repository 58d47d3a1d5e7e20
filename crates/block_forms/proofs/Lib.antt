pub mod DeclaredLemmas
pub mod KeywordLemmas
pub mod FormLemmas
pub mod DeclaredForms
pub mod QuoteForms
pub mod AcceptedLemmas
pub mod StandardFacts
