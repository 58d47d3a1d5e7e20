use Rattle.std.proofs.Common.{◌≡◌, ◌+◌, ◌-◌, ◌^◌, length, take}
use Rattle.std.specs.Prelude.{min, sum_by}
use Rattle.tester_types.specs.declared.wave.Table.{Table}
use Rattle.burst_exec.proofs.staging.waves_behind.Given as goal

abbrev pub invariant-loop-table : goal.invariant-loop-table
invariant-loop-table l =
    l.count ≡ min (l.before + sum_by (λ (t : Table). length t.waves) (take l.table l.tables)) (2 ^ 32 - 1)
