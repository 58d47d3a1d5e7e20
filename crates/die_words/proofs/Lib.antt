pub mod WordLemmas
pub mod GateLemmas
pub mod LaneLemmas
pub mod FitLemmas
pub mod FlatLemmas
pub mod CaptureLemmas
pub mod FaultLemmas
pub mod DriveLemmas
pub mod BoardLemmas
mod StandardFacts
