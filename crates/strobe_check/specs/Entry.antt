-- One moment of a cycle as a checker is shown it.
use Rattle.std.specs.Prelude.{ℕ, ◌==◌, List, map, filter, slice_index_or}
use Rattle.tester_types.specs.declared.wave.Look.{Look}
use Rattle.tester_types.specs.declared.level.Level.{Level}
use Rattle.tester_types.specs.declared.level.Level.TheVariants.{X}
use Rattle.tester_types.specs.declared.cycle.Moment.{Moment}
use Rattle.tester_types.specs.declared.record.Fail.{Fail}

-- the moment, with the numbers of its executive and its cycle, the cycle's mark, and the levels of all signals after
-- the moment's drives
pub record Entry : Type 0 where
  pub exec : ℕ
  pub cycle : ℕ
  pub mark : ℕ
  pub moment : Moment
  pub levels : List Level

-- the looks at a signal in a moment, in written order
abbrev pub looks_at : ℕ → Moment → List Look
looks_at signal moment = map (λ look. look.1) (filter (λ look. look.0 == signal) moment.looks)

-- the level of a signal
abbrev pub level_of : ℕ → Entry → Level
level_of signal entry = slice_index_or entry.levels signal X

-- the fail of a look at a signal that comes at an entry
abbrev pub fail_at : ℕ → Look → Entry → Fail
fail_at signal look entry = record {
  exec = entry.exec;
  cycle = entry.cycle;
  at = entry.moment.at;
  signal = signal;
  want = look;
  seen = level_of signal entry;
  mark = entry.mark;
}
