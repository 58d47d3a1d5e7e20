pub mod Pool
pub mod Rule
pub mod Steps
pub mod Memory
pub mod Cursor
pub mod Nexts
