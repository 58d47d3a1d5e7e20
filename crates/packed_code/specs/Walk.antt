-- What a walk over a code still gives.
use Rattle.std.specs.Prelude.{◌≡◌, ℕ, ◌+◌, ◌*◌, ◌<◌, ◌≤◌, true, List, length}
use Rattle.std.specs.List.{AllByRecursion}
use Rattle.text_bytes.specs.Limits.{longest_period, most_cycles}
use Rattle.tester_types.specs.declared.cycle.Cycle.{Cycle}
use Rattle.packed_code.specs.declared.instr.Entry.{Entry}
use Rattle.packed_code.specs.Course.{coming, IsOn}
use Rattle.packed_code.specs.declared.walker.Walk.{Walk}
use Rattle.packed_code.specs.Program.{Program}
use Rattle.packed_code.specs.Conditions.{has_waves, waves_of, characters_of}
use Rattle.packed_code.specs.Cycles.{exec_of, timed}

-- the entries that are still to come
abbrev pub entries_left : Program → Walk → List Entry
entries_left code walk = coming (exec_of code walk.exec).instrs walk.course

-- the cycles that are still to come
abbrev pub cycles_left : Program → Walk → List Cycle
cycles_left code walk = timed code.tables walk.start (entries_left code walk)

-- a table and a row of the code, each character of which has a wave in the table
pub record IsOf (code : Program) (number place : ℕ) : Type 0 where
  pub table : number < length code.tables
  pub row : place < length code.rows
  pub waves : has_waves (waves_of code.tables number) 0 (characters_of code.rows place) ≡ true

-- a walk was begun over this code
pub record IsOver (code : Program) (walk : Walk) : Type 0 where
  pub exec : walk.exec < length code.execs
  pub on : IsOn (exec_of code walk.exec).instrs walk.course
  pub room : walk.start + longest_period * length (entries_left code walk) ≤ longest_period * most_cycles
  pub named : AllByRecursion (λ entry. IsOf code entry.table entry.row) (entries_left code walk)
