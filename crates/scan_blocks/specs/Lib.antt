-- Read Cells first, then Chains. Working says the cells token by token, as the code keeps them.
pub mod Cells
pub mod Chains
pub mod Working
pub use Rattle.block_forms.specs.Heads
