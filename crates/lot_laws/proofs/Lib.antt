mod StandardFacts
pub mod CodeLemmas
pub mod SiteLemmas
pub mod LotLemmas
pub mod SumLemmas
pub mod MovedRows
pub mod MovedLemmas
pub mod OtherSite
pub mod CallsAlike
pub mod GradeAlike
pub mod DumpAlike
