-- Read Listing first (what is listed), then Text (what is printed of it), then Lines (what stands after a fault).
pub mod Listing
pub mod Text
pub mod Lines
pub mod Room
