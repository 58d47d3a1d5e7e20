-- Cycles that are played one after another have their moments one after another: from the start of the first up to the
-- end of the last.
use Rattle.std.proofs.Common.{ℕ, ◌<◌, ◌≤◌, List, [], ◌∷◌, length, arith}
use Rattle.std.specs.List.{AllByRecursion}
use Rattle.tester_types.specs.declared.cycle.Cycle.{Cycle}
use Rattle.site_meaning.specs.Playing.{Stand, Going, FitStand, played_cycle, after_cycle}
use Rattle.site_meaning.specs.Trials.{played, after_cycles}
use Rattle.site_meaning.proofs.InstantLemmas.{cycle_from, cycle_before, TakesTime}
use Rattle.site_meaning.proofs.ReachedLemmas.{AllAt-weaker, Before, From, Before-later}

-- time doesn't go back
pub time-after_cycles : (stand : Stand) (going : Going) (cycles : List Cycle)
    → going.time ≤ (after_cycles stand going cycles).time
unfolding after_cycles
time-after_cycles stand going [] = omega arith
time-after_cycles stand going (cycle ∷ cycles) =
    let later = time-after_cycles stand (after_cycle stand going cycle) cycles in
    omega (arith, later)

pub played-from : (stand : Stand) (exec : ℕ) (going : Going) (cycles : List Cycle)
    → From going.time (played stand exec going cycles)
unfolding played
played-from stand exec going [] = tt
played-from stand exec going (cycle ∷ cycles) =
    let next = after_cycle stand going cycle in (
      cycle_from stand exec going cycle,
      AllAt-weaker (λ (n : ℕ). next.time ≤ n) (λ (n : ℕ). going.time ≤ n) (λ n h. omega (arith, h)) (played stand exec next cycles)
          (played-from stand exec next cycles),
    )

pub played-before : (stand : Stand) (exec : ℕ) (going : Going) (cycles : List Cycle) → FitStand stand
    → Before (after_cycles stand going cycles).time (played stand exec going cycles)
unfolding played after_cycles
played-before stand exec going [] fit = tt
played-before stand exec going (cycle ∷ cycles) fit =
    let next = after_cycle stand going cycle in
    let first = Before-later next.time (after_cycles stand next cycles).time (time-after_cycles stand next cycles)
    (played_cycle stand exec going cycle ∷ []) (cycle_before stand exec going cycle fit, tt) in
    (first.0, played-before stand exec next cycles fit)

-- a cycle takes time
pub time-after_some : (stand : Stand) (going : Going) (cycles : List Cycle) → 0 < length cycles
    → AllByRecursion (TakesTime stand) cycles → going.time < (after_cycles stand going cycles).time
unfolding after_cycles
time-after_some stand going [] some all = absurd (omega arith)
time-after_some stand going (cycle ∷ cycles) some all =
    let later = time-after_cycles stand (after_cycle stand going cycle) cycles in
    let takes = all.0 in
    omega (arith, later, takes)
