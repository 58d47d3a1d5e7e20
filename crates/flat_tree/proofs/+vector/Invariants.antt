use Rattle.std.proofs.Common.{◌≡◌, ◌+◌, ◌*◌, drop}
use Rattle.stil_ast.specs.Meaning.Flat.{done}
use Rattle.flat_tree.specs.Counts.{body_count}
use Rattle.flat_tree.specs.Slots.{whole_front, wholes_flat}
use Rattle.flat_tree.specs.Kept.{has_vector}
use Rattle.flat_tree.proofs.+vector.Given as goal

abbrev pub decreases-flat::FlatList::has_vector : goal.decreases-flat::FlatList::has_vector
decreases-flat::FlatList::has_vector l = 3 * body_count l.self.now + 2

abbrev pub decreases-calling::any_vector : goal.decreases-calling::any_vector
decreases-calling::any_vector l = 3 * body_count (wholes_flat l.wholes.now) + 1

abbrev pub decreases-calling::whole_has_vector : goal.decreases-calling::whole_has_vector
decreases-calling::whole_has_vector l = 3 * body_count (whole_front l.whole.now done)

abbrev pub invariant-calling::any_vector-loop-whole : goal.invariant-calling::any_vector-loop-whole
invariant-calling::any_vector-loop-whole l =
    has_vector (wholes_flat (drop l.whole-index l.wholes)) ≡ has_vector (wholes_flat l.wholes)
