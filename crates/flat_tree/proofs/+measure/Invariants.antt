use Rattle.std.proofs.Common.{◌≡◌, ◌+◌, ◌*◌, ◌≤◌, min, drop}
use Rattle.text_bytes.specs.Limits.{most_measure}
use Rattle.stil_ast.specs.Meaning.Flat.{done, measure}
use Rattle.flat_tree.specs.Counts.{body_count}
use Rattle.flat_tree.specs.Slots.{whole_front, wholes_flat}
use Rattle.flat_tree.proofs.+measure.Given as goal

abbrev pub decreases-flat::FlatList::measure : goal.decreases-flat::FlatList::measure
decreases-flat::FlatList::measure l = 3 * body_count l.self.now + 2

abbrev pub decreases-measure::wholes_measure : goal.decreases-measure::wholes_measure
decreases-measure::wholes_measure l = 3 * body_count (wholes_flat l.wholes.now) + 1

abbrev pub decreases-measure::whole_measure : goal.decreases-measure::whole_measure
decreases-measure::whole_measure l = 3 * body_count (whole_front l.whole.now done)

abbrev pub invariant-measure::wholes_measure-loop-whole :
    goal.invariant-measure::wholes_measure-loop-whole
invariant-measure::wholes_measure-loop-whole l =
    (min (l.total + measure (wholes_flat (drop l.whole-index l.wholes))) (most_measure + 1)
    ≡ min (measure (wholes_flat l.wholes)) (most_measure + 1))
    × (l.total ≤ most_measure + 1)
