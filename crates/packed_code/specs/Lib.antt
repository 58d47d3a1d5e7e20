-- Read Meaning first (which cycles instructions stand for; Nesting, Whole, Count and Course go on with it), then
-- Program (what a code has), Conditions (what is so of every code), Packed (the bytes of an instruction) and Cycles.
pub mod Rows
pub mod Program
pub mod RowBytes
pub mod Conditions
pub mod Cycles
pub mod Packed
pub mod Walk
pub mod Meaning
pub mod Nesting
pub mod Whole
pub mod Count
pub mod Course
