pub mod Lane
pub mod Pairs
pub mod Fits
pub mod Flat
pub mod Capture
pub mod Lanes
pub mod Board
