-- Known texts, whose cycles and refusals the definitions must give. Each is computed from the definitions alone.
pub mod Texts
pub mod Lines
pub mod Runs
pub mod Rows
pub mod Refusals
pub mod Choices
pub mod ScanText
pub mod Forms
pub mod Fronts
pub mod Shifts
pub mod Limits
pub mod Counts
pub mod Places
pub mod Groups
pub mod Inherited
pub mod Executives
pub mod Least
