-- Known texts, whose results the definitions give.
pub mod ExecutiveBlocks
pub mod BurstBlocks
pub mod BodyBlocks
