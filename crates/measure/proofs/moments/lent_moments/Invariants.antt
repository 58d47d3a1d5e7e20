use Rattle.std.proofs.Common.{◌≡◌, map}
use Rattle.std.specs.List.{All}
use Rattle.edge_gen.specs.Moments.{moments_of}
use Rattle.measure.proofs.moments.lent_moments.Given as goal

abbrev pub invariant-loop-call : goal.invariant-loop-call
invariant-loop-call l = All (λ m. m ≡ moments_of l.table l.row l.skews 0) (map (λ e. e.1) l.held.entries)
