-- Read Slots first (how a flat tree lies in memory) and Items (its steps one after another), then Lean (what nothing
-- is set twice means) and Kept (what a call leaves), then Laws.
pub mod Origins
pub mod FlatCode
pub mod Counts
pub mod Slots
pub mod SlotsFall
pub mod Items
pub mod Lean
pub mod Leaning
pub mod Kept
pub mod Laws
