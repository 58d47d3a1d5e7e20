pub mod First
pub mod Checks
pub mod Judge
pub mod Board
pub mod Player
pub mod PlayerLaws
pub mod Run
