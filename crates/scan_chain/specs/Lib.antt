-- Read Held first (how the code holds chains and data), then Cell (which cell a mark names), Fault (what is answered of
-- the chains of an executive) and Short (how long chains are). Working says the chains one behind another, as the code
-- keeps them.
pub mod Held
pub mod Cell
pub mod Fault
pub mod Short
pub mod Working
