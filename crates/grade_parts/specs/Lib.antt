-- Read Part first (which faults a part of a grade has), then Log (what the text of a part may be), Turns (which faults
-- come one after another), Merged, and Printed (what the printed text of a grade says). Held and Step are what the code
-- holds and finds, and Reads what it answers.
pub mod Part
pub mod Log
pub mod Turns
pub mod Merged
pub mod Printed
pub mod Held
pub mod Step
pub mod Reads
