-- Read Executives first (what is said of the executives of a text). Held has how the code holds them. Staged, Patterns,
-- Made, Joined, Booked, Carried and Gathered have what the code computes on its way.
pub mod Executives
pub mod Held
pub mod Staged
pub mod Made
pub mod Joined
pub mod Booked
pub mod Patterns
pub mod Carried
pub mod Gathered
