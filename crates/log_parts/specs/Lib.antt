-- Read Tries first (the lines of a die's tries), then Log (what a datalog of named dies is), Slices (what is kept of
-- it), Merged (the datalog of all parts). Step and Dealt say what the code computes.
pub mod Tries
pub mod Log
pub mod Slices
pub mod Merged
pub mod Step
pub mod Dealt
