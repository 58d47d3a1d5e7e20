-- The die of the tests, whose signals are its nets by their numbers.
pub mod Own
