-- Read Laws; Fits has when nothing is too large.
pub mod Fits
pub mod Laws
