-- What is written in a text: names and numbers, places, data, statements, and the words of faults.
pub mod Texts
pub mod Places
pub mod Items
pub mod AssignmentCuts
pub mod Assignments
pub mod Written
pub mod WrittenCode
pub mod Bodies
pub mod BodiesFall
pub mod KindName
pub mod Refusal
pub mod Forms
pub mod BlockForms
pub mod OneText
