use Rattle.std.proofs.Common.{◌≡◌, ◌++◌, false, filter, drop}
use Rattle.std.specs.Prelude.{slice_index_or}
use Rattle.signal_groups.proofs.members.kept.Given as goal

abbrev pub invariant-loop-signal : goal.invariant-loop-signal
invariant-loop-signal l =
    l.kept.items ++ filter (λ m. slice_index_or l.fn.marks m false) (drop l.signal-index l.members)
    ≡ filter (λ m. slice_index_or l.fn.marks m false) l.members
