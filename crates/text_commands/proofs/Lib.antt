pub mod ListedLemmas
pub mod FewLemmas
pub mod CommandLemmas
pub mod DoneLemmas
mod NumberLemmas
mod SaveLemmas
mod OrderSums
mod SizeLemmas
mod FlatSizeLemmas
mod FlatLemmas
mod StandardFacts
