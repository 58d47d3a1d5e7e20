-- Known texts, whose results the definitions give.
pub mod SpecBlocks
pub mod SelectorBlocks
pub mod Waveforms
pub mod Timings
