-- What a cursor still gives: the cycles that a walk over the code gives from the same place on.
use Rattle.std.specs.Prelude.{◌≡◌, ℕ, ◌<◌, List, IfSome, Option, length}
use Rattle.tester_types.specs.declared.cycle.Cycle.{Cycle}
use Rattle.packed_code.specs.declared.instr.Instr.{Instr}
use Rattle.packed_code.specs.Course.{IsOn}
use Rattle.packed_code.specs.declared.walker.Walk.{Walk}
use Rattle.packed_code.specs.Program.{Program}
use Rattle.packed_code.specs.Conditions.{IsProgram}
use Rattle.packed_code.specs.Cycles.{exec_of, first_page}
use Rattle.packed_code.specs.Walk.{IsOver, cycles_left}
use Rattle.pattern_mem.specs.Pool.{page_at}
use Rattle.pattern_mem.specs.declared.cursor.Cursor.{Cursor}

-- the instructions of an executive of a code
abbrev pub instrs_of : Program → ℕ → List Instr
instrs_of code exec = (exec_of code exec).instrs

-- the walk that stands where a cursor stands
abbrev pub walk_of : Cursor → Walk
walk_of cursor = record { exec = cursor.exec; start = cursor.start; course = cursor.course }

-- the cycles that a cursor still gives
abbrev pub cycles_to_come : Program → Cursor → List Cycle
cycles_to_come code cursor = cycles_left code (walk_of cursor)

-- what a window shows, if it has a page, is the code's page of its number
abbrev pub ShowsPage : Program → Option (ℕ × List Instr) → Type 0
ShowsPage code window = IfSome window (λ page. page.1 ≡ page_at code page.0)

-- a cursor stands in the instructions of its executive, and knows the first page of these
pub record IsPlaced (code : Program) (cursor : Cursor) : Type 0 where
  pub program : IsProgram code
  pub exec : cursor.exec < length code.execs
  pub on : IsOn (instrs_of code cursor.exec) cursor.course
  pub first : cursor.first ≡ first_page code cursor.exec
  pub window : ShowsPage code cursor.window

-- a cursor was begun over this code
pub record IsCursorOf (code : Program) (cursor : Cursor) : Type 0 where
  pub over : IsOver code (walk_of cursor)
  pub placed : IsPlaced code cursor

-- a cursor stands where another does, but for its course and its window
pub record IsSameBut (old new : Cursor) : Type 0 where
  pub exec : new.exec ≡ old.exec
  pub start : new.start ≡ old.start
