pub mod Grade
pub mod Run
pub mod Search
