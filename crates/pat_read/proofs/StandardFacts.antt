-- Known texts, whose results the definitions give.
pub mod Spelled
pub mod Items
pub mod Outlines
pub mod Assignments
pub mod Bodies
