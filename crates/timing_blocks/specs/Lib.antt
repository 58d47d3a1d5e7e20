-- Read Variables first, then Selectors; Waveforms before Timings. Working is what the code computes.
pub mod Variables
pub mod Selectors
pub mod Waveforms
pub mod Timings
pub mod Working
pub use Rattle.block_forms.specs.Heads
