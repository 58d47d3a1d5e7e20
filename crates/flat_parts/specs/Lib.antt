-- Read FlatText first (what is written; its tables and rows are numbered by Order), then FlatBlocks (the blocks that it
-- says). Nests has instructions by how their loops nest.
pub mod Order
pub mod FlatText
pub mod Nests
pub mod FlatBlocks
pub mod SameCycles
