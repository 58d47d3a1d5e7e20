-- Why a text is refused, in the order in which faults are looked for: signals and groups; then for each executive its
-- names, its variables and tables, its chains and its patterns; then what it compiles to.
pub mod Found
pub mod SignalFaults
pub mod BurstFaults
pub mod TableFaults
pub mod AssignmentFaults
pub mod PatternFaults
pub mod ExecutiveFaults
pub mod CodeFaults
pub mod TextFaults
pub mod FrontFaults
pub mod CheckedLaws
