use Rattle.std.proofs.Common.{◌≡◌, ◌≤◌, length, drop, map}
use Rattle.packed_code.specs.Meaning.{body_counts}
use Rattle.packed_code.specs.Count.{capped}
use Rattle.packed_code.proofs.counting.cycles.Given as goal

abbrev pub invariant-loop-at : goal.invariant-loop-at
invariant-loop-at l = (l.at ≤ length l.code) × (l.sums ≡ map capped (body_counts (drop l.at l.code)))

abbrev pub decreases-loop-at : goal.decreases-loop-at
decreases-loop-at l = l.at
