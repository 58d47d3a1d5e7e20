-- Read Scopes first (what a pattern stands on), then Marks (signals that are marked) and Pairs (each signal with its
-- item of data), Refusing and Standings (faults and where they stand), Walks (what a step does), Placing and Referring
-- (an assignment), Stepping, Giving and Walking (what a step does or refuses), Recursing (a body with all that stands
-- in it), Passes (those of a Shift), Calling (a body that is named), Actions (a statement of each kind), and at last
-- Expanding, which the public call cites.
pub mod Lent
pub mod Scopes
pub mod Marks
pub mod Pairs
pub mod Refusing
pub mod Standings
pub mod Walks
pub mod Placing
pub mod Stepping
pub mod Giving
pub mod Walking
pub mod Referring
pub mod Recursing
pub mod Passes
pub mod Calling
pub mod Actions
pub mod Expanding
-- Read Runs first (characters as runs), then Lanes (what is left of each signal's argument).
pub mod Runs
pub mod Lanes
