-- Read Walk first (what is met on the walk through a burst), then Numbers (blocks by their numbers), Marks (how a walk
-- marks bursts), Walks (what is known on each walk), Held (how the code holds patterns) and Answer (what is answered of
-- the patterns of an executive).
pub mod Walk
pub mod Numbers
pub mod Marks
pub mod Walks
pub mod Held
pub mod Answer
