pub mod SiteLemmas
pub mod NeededLemmas
pub mod TextLemmas
pub mod RecordLemmas
pub mod CutLemmas
pub mod SaidLemmas
pub mod WrittenLemmas
pub mod CutJudging
pub mod CutPlan
pub mod RankLemmas
pub mod PartLemmas
pub mod CountLemmas
mod StandardFacts
