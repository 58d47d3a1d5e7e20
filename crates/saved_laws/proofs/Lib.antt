pub mod Sights
pub mod FieldSights
pub mod PartSights
pub mod RowSights
pub mod ProgramSights
pub mod LawLemmas
pub mod SizeLemmas
