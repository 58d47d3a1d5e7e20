-- Read Fault first (what a reader answers), then Data, References (assignments), Statements (each by its own tokens),
-- Body (statements with their blocks), and Refusal (what is told of a fault).
pub mod Fault
pub mod Data
pub mod References
pub mod Statements
pub mod Body
pub mod Refusal
pub mod Accepted
