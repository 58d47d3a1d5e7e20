-- Read FlatFault first: why nothing is written. What is written stands in flat_parts. Working has what the code
-- computes on its way.
pub mod FlatFault
pub mod Working
