-- Bodies that stand in a flat tree are smaller than it.
use Rattle.std.specs.Prelude.{◌≡◌, ◌≤◌, max, List, [], ◌∷◌, length}
use Rattle.std.proofs.Common.{arith}
use denote.Param.Weighed.{most}
use Rattle.stil_ast.specs.Meaning.Flat.{Flat}
use Rattle.flat_tree.specs.Counts.{body_count}
use Rattle.flat_tree.specs.Slots.{whole_front, slots_flat, wholes_in}
use Rattle.flat_tree.specs.declared.flat.Slot.{Slot}
use Rattle.flat_tree.specs.declared.flat.Slot.TheVariants.{Table, Character, Back, Next}
use Rattle.flat_tree.specs.declared.flat.Whole.{Whole}
use Rattle.flat_tree.specs.declared.flat.Whole.TheVariants.{Cycle, Repeat, Save}
use Rattle.flat_tree.specs.declared.flat.FlatList.TheDeep.{deep-Whole}

-- what a loop or a save has in it counts in the tree that it begins
pub deep_le-body_count : (whole : Whole) (rest : Flat)
    → max (deep-Whole whole) (body_count rest) ≤ body_count (whole_front whole rest)
deep_le-body_count (Cycle mark place) rest = omega arith
deep_le-body_count (Repeat count body) rest = omega arith
deep_le-body_count (Save putting body) rest = omega arith

-- the same of each of them, where a slot stands for each
pub most_le-count : (slots : List Slot) (wholes : List Whole) → wholes_in slots ≡ length wholes
    → most deep-Whole wholes ≤ body_count (slots_flat slots wholes)
most_le-count [] [] e = omega arith
most_le-count [] (whole ∷ wholes) e = absurd (omega (arith, e))
most_le-count (Table t ∷ slots) wholes e = most_le-count slots wholes (omega (arith, e))
most_le-count (Character c signal ∷ slots) wholes e = most_le-count slots wholes (omega (arith, e))
most_le-count (Back signal ∷ slots) wholes e = most_le-count slots wholes (omega (arith, e))
most_le-count (Next ∷ slots) [] e = absurd (omega (arith, e))
most_le-count (Next ∷ slots) (whole ∷ wholes) e =
    let rest = most_le-count slots wholes (omega (arith, e)) in
    omega (arith, deep_le-body_count whole (slots_flat slots wholes), rest)

-- a tree has more bodies in it than each of them has
pub most_le-body_count : (slots : List Slot) (wholes : List Whole) → wholes_in slots ≡ length wholes
    → max (most deep-Whole wholes) 0 ≤ body_count (slots_flat slots wholes)
most_le-body_count slots wholes e = omega (arith, most_le-count slots wholes e)
