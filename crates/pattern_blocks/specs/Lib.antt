-- Executives, bursts, and bodies. Working has what the code keeps from statement to statement.
pub mod Executives
pub mod Bursts
pub mod Defs
pub mod Working
pub use Rattle.block_forms.specs.Heads
