use Rattle.std.proofs.Common.{◌≡◌, drop}
use Rattle.std.specs.List.{find}
use Rattle.lot_plan.specs.Readings.{ends_so}
use Rattle.lot_plan.proofs.bound_plan.bin_in.Given as goal

abbrev pub invariant-loop-bin : goal.invariant-loop-bin
invariant-loop-bin l = find (λ b. ends_so l.verdict b.ending) (drop l.bin-index l.bins) ≡ find
    (λ b. ends_so l.verdict b.ending) l.bins
