pub mod Taken
pub mod Recording
pub mod Play
pub mod Written
