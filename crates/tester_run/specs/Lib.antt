pub mod Work
pub mod Turn
pub mod Asking
pub mod Jobs
pub mod Lot
