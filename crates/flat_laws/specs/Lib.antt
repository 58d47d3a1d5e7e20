-- Read SameProgram first (when a text says a whole code) and Limits (when a flat text is within the limits), then Laws
-- (what holds of the flat text of a code).
pub mod SameProgram
pub mod Limits
pub mod Laws
