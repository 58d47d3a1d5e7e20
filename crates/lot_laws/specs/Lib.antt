pub mod Alone
pub mod Moved
pub mod Uncut
