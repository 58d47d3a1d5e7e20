-- Read Offline first (what the commands that need no tester answer), then Lot (what `lot` answers). Alone, Quiet and
-- OneText say what runs have in common.
pub mod Offline
pub mod Dump
pub mod Lot
pub mod Drill
pub mod Grade
pub mod Tester
pub mod Jobs
pub mod FineLot
pub mod Alone
pub mod Quiet
pub mod OneText
