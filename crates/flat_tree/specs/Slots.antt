-- How a flat tree lies in memory: in one list its steps, in the other what those of them are that aren't assignments.
use Rattle.std.specs.Prelude.{ℕ, ◌+◌, List, [], ◌∷◌}
use Rattle.stil_ast.specs.Meaning.Flat.{Flat, done, table, character, back, cycle, repeat, save}
use Rattle.flat_tree.specs.declared.flat.Slot.{Slot}
use Rattle.flat_tree.specs.declared.flat.Slot.TheVariants.{Table, Character, Back, Next}
use Rattle.flat_tree.specs.declared.flat.Whole.{Whole}
use Rattle.flat_tree.specs.declared.flat.Whole.TheVariants.{Cycle, Repeat, Save}

-- a vector, a loop or a save, and what stands behind it
abbrev pub whole_front : Whole → Flat → Flat
whole_front (Cycle mark place) rest = cycle mark place rest
whole_front (Repeat count body) rest = repeat count body.value rest
whole_front (Save putting body) rest = save putting body.value rest

-- vectors, loops and saves without assignments between them
abbrev pub wholes_flat : List Whole → Flat
wholes_flat [] = done
wholes_flat (whole ∷ wholes) = whole_front whole (wholes_flat wholes)

-- the step that stands at a slot, and what the wholes that are left give behind it
abbrev pub slot_front : Slot → List Whole → (List Whole → Flat) → Flat
slot_front (Table t) wholes behind = table t (behind wholes)
slot_front (Character c signal) wholes behind = character signal c (behind wholes)
slot_front (Back signal) wholes behind = back signal (behind wholes)
slot_front Next [] behind = behind []
slot_front Next (whole ∷ wholes) behind = whole_front whole (behind wholes)

-- the steps of slots, of which those that aren't assignments stand in a list of their own
abbrev pub slots_flat : List Slot → List Whole → Flat
slots_flat [] wholes = done
slots_flat (slot ∷ slots) wholes = slot_front slot wholes (slots_flat slots)

-- how many wholes a slot takes
abbrev pub next_count : Slot → ℕ
next_count (Table t) = 0
next_count (Character c signal) = 0
next_count (Back signal) = 0
next_count Next = 1

-- how many wholes slots take
abbrev pub wholes_in : List Slot → ℕ
wholes_in [] = 0
wholes_in (slot ∷ slots) = next_count slot + wholes_in slots
