-- Moments that are held for the cycles of a program, by the numbers of their tables and rows.
use Rattle.std.specs.Prelude.{◌≡◌, ℕ, ℤ, List}
use Rattle.std.specs.List.{AllByRecursion}
use Rattle.tester_types.specs.declared.cycle.Moment.{Moment}
use Rattle.packed_code.specs.Program.{Program}
use Rattle.cycle_run.specs.Step.{schedule_of}

-- those that are held are those of their numbers
abbrev pub HoldsMoments : Program → List ℤ → List ((ℕ × ℕ) × List Moment) → Type 0
HoldsMoments code skews held = AllByRecursion (λ entry. entry.1 ≡ schedule_of code skews entry.0) held
