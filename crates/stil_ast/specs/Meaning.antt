-- What a text stands for. Statements with numbers in place of names, and what they do: State to Cycles; the flat tree
-- of a pattern, and how few instructions keep its loops: Flat, Flattening, Least. What names stand for: Signals to
-- Bursts. From what is written to executives and their cycles: Resolved, ExecutiveData, Executive. What follows from
-- all this: Laws.
pub mod State
pub mod Statements
pub mod Arguments
pub mod Dealing
pub mod Shift
pub mod Running
pub mod Cycles
pub mod Flat
pub mod Flattening
pub mod Least
pub mod Signals
pub mod GroupText
pub mod GroupReading
pub mod Members
pub mod Times
pub mod Variables
pub mod Tables
pub mod Chains
pub mod Bursts
pub mod Resolved
pub mod ExecutiveData
pub mod Executive
pub mod Laws
