-- Known texts, whose results the definitions give.
pub mod ScanBlocks
pub mod Cells
