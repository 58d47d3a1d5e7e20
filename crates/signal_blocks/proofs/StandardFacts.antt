-- Known texts, whose results the definitions give.
pub mod SignalBlocks
pub mod GroupBlocks
