-- Read the files of the blocks first, each of its own crate, then Top (statements at the top level) and Text.
pub mod Top
pub mod Reads
pub mod Text
pub mod Accepted
pub use Rattle.block_forms.specs.Heads
pub use Rattle.signal_blocks.specs.Signals
pub use Rattle.signal_blocks.specs.Groups
pub use Rattle.timing_blocks.specs.Variables
pub use Rattle.timing_blocks.specs.Selectors
pub use Rattle.timing_blocks.specs.Timings
pub use Rattle.scan_blocks.specs.Chains
pub use Rattle.pattern_blocks.specs.Executives
pub use Rattle.pattern_blocks.specs.Bursts
pub use Rattle.pattern_blocks.specs.Defs
