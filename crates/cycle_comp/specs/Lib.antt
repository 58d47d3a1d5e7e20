-- Read Compiled first (the code of executives, and the fault where there is none), then OfText (of which executives).
-- Working has what the code computes on its way.
pub mod Compiled
pub mod OfText
pub mod Working
-- Read Entries first (what a cycle of the code runs for a vector), then Written (what is written of flat trees, and how
-- a fault is told). Counting has the number of vectors and Depth how
-- deep loops nest; Known, Writing and Passes have what the code computes on its
-- way.
pub mod Entries
pub mod Counting
pub mod Depth
pub mod Written
pub mod Known
pub mod Writing
pub mod Passes
