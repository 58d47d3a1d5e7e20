-- What known texts are made of.
pub mod Signs
pub mod Lines
