pub mod PieceLemmas
pub mod TreeLemmas
pub mod EachLemmas
pub mod LexemeLemmas
pub mod SettingLemmas
pub mod StandingLemmas
pub mod AssignmentLemmas
