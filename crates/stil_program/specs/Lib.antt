-- Read Program first (the first fault of a text, and the code of one without a fault). Working has what the code
-- computes on its way.
pub mod Program
pub mod Working
pub mod Runs
pub mod Places
pub mod TokenFaults
pub mod StatementFaults
pub mod Front
