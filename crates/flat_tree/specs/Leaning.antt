-- How a list is made lean in its place: first the bodies of its loops and saves, then its slots from their end.
use Rattle.std.specs.Prelude.{◌≡◌, ℕ, ◌<◌, ◌≤◌, Bool, true, false, List, ◌∷◌, length, replicate, slice_index_or, take, drop}
use Rattle.std.specs.List.{AllZip}
use Rattle.stil_ast.specs.Meaning.Flat.{Flat}
use Rattle.stil_ast.specs.Meaning.ExecutiveData.{IsSameFlat}
use Rattle.flat_tree.specs.Lean.{sets_table, sets_signal, IsLean, Ahead}
use Rattle.flat_tree.specs.Slots.{whole_front, slots_flat, wholes_in}
use Rattle.flat_tree.specs.declared.flat.Slot.{Slot}
use Rattle.flat_tree.specs.declared.flat.Whole.{Whole}

-- a vector, a loop or a save whose body has become lean and does what it did
pub record IsLeaned (signals : ℕ) (lean was : Whole) : Type 0 where
  pub same : (made wanted : Flat) → IsSameFlat made wanted → IsSameFlat (whole_front lean made) (whole_front was wanted)
  pub stays : (made : Flat) → IsLean signals made → IsLean signals (whole_front lean made)

-- a tree has been made in place of another one, and what it sets first is known
pub record IsMade (signals : ℕ) (ahead : Ahead) (made wanted : Flat) : Type 0 where
  pub same : IsSameFlat made wanted
  pub lean : IsLean signals made
  pub size : length ahead.signals ≡ signals
  pub at_table : ahead.table ≡ sets_table made
  pub at_signal : (signal : ℕ) → signal < signals → slice_index_or ahead.signals signal false ≡ sets_signal signal made

-- slots are kept of others, such that a tree is made in place of theirs, whatever stands at those that aren't
-- assignments
pub record AreMade (signals : ℕ) (ahead : Ahead) (kept slots : List Slot) : Type 0 where
  pub size : length ahead.signals ≡ signals
  pub fits : wholes_in kept ≡ wholes_in slots
  pub made : (lean was : List Whole) → AllZip (IsLeaned signals) lean was → wholes_in slots ≡ length was
      → IsMade signals ahead (slots_flat kept lean) (slots_flat slots was)

-- slots with another one in front, if it stays
abbrev pub slots_if : Bool → Slot → List Slot → List Slot
slots_if true slot slots = slot ∷ slots
slots_if false slot slots = slots

-- a slot stays or not: whatever slots had been kept of others, now some are kept of those with this one in front
abbrev pub Leans : Slot → Ahead → Ahead → Bool → Type 0
Leans slot before after stays =
    (signals : ℕ) (kept slots : List Slot) → AreMade signals before kept slots →
    AreMade signals after (slots_if stays slot kept) (slot ∷ slots)

-- nothing is set ahead of a vector, a loop or a save
abbrev pub none_ahead : Ahead → Ahead
none_ahead a = record { table = false; signals = replicate (length a.signals) false }

-- how far bodies have been made lean, from the last one: in front of a place they are as they were
pub record IsLeaning (original now : List Whole) (place signals : ℕ) (ahead : Ahead) : Type 0 where
  pub before : take place now ≡ take place original
  pub size : length now ≡ length original
  pub within : place ≤ length now
  pub count : length ahead.signals ≡ signals
  pub leaned : AllZip (IsLeaned signals) (drop place now) (drop place original)

-- how far slots have been gone through from their end: in front of a place they are as they were, and from another
-- place on stands what is kept of the rest
pub record IsKeeping (original now : List Slot) (place from signals : ℕ) (ahead : Ahead) : Type 0 where
  pub before : take place now ≡ take place original
  pub size : length now ≡ length original
  pub behind : place ≤ from
  pub within : from ≤ length now
  pub made : AreMade signals ahead (drop from now) (drop place original)
