mod StandardFacts
pub mod HitLemmas
pub mod RunLemmas
pub mod StationLemmas
pub mod TimeLemmas
pub mod TapeLemmas
pub mod MoveLemmas
pub mod PolledLemmas
pub mod ArrivalLemmas
pub mod SiteLemmas
pub mod PlanLemmas
pub mod BeforeLemmas
pub mod GoLemmas
pub mod StepsLemmas
pub mod ContactLemmas
pub mod SoFarLemmas
pub mod TouchdownLemmas
