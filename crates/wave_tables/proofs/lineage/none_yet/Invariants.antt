use Rattle.std.proofs.Common.{◌≡◌, replicate, None}
use Rattle.wave_tables.proofs.lineage.none_yet.Given as goal

abbrev pub invariant-loop-place : goal.invariant-loop-place
invariant-loop-place l = l.wholes.items ≡ replicate l._place None
