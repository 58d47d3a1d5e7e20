-- Read Laws: a text that is what a code says is read as the code's blocks.
pub mod Laws
