-- Where a text stands that is read line by line, and how one line more is found.
use Rattle.std.specs.Prelude.{◌≡◌, ℕ, ◌+◌, true, List, ◌++◌}
use Rattle.part_lines.specs.Lines.{ended, is_one_line, lines_in}
use Rattle.part_lines.specs.LineFault.{IsLineFault}
use Rattle.part_lines.specs.declared.fault.LineFault.{LineFault}
use Rattle.part_lines.specs.declared.fault.LineFault.TheVariants.{NoMemory, Line}

-- the lines that were read, and what is left
pub record Reading : Type 0 where
  pub front : List ℕ
  pub rest : List ℕ

-- the first line of what is left is this one
pub record IsNext (rest line : List ℕ) : Type 0 where
  pub one : is_one_line line ≡ true
  pub later : List ℕ
  pub is : rest ≡ ended line ++ later

-- Behind these bytes, a text of the first kind goes on as one of the second kind, and each of the second kind may stand
-- there.
pub record GoesOn (Whole Rest : List ℕ → Type 0) (front : List ℕ) : Type 0 where
  pub whole : (back : List ℕ) → Rest back → Whole (front ++ back)
  pub only : (back : List ℕ) → Whole (front ++ back) → Rest back

-- these bytes were read
pub record HasRead (before now : Reading) (text : List ℕ) : Type 0 where
  pub rest : before.rest ≡ text ++ now.rest
  pub front : now.front ≡ before.front ++ text

-- what is left is no text of this kind, and its fault is in this line of the whole text
pub record IsFaultFrom (Whole : List ℕ → Type 0) (at : Reading) (line : ℕ) : Type 0 where
  pub number : ℕ
  pub is : line ≡ lines_in at.front + number
  pub fault : IsLineFault Whole at.rest number

-- want of memory, or the fault of what is left
abbrev pub FaultFrom : (List ℕ → Type 0) → Reading → LineFault → Type 0
FaultFrom Whole at NoMemory = Unit {0}
FaultFrom Whole at (Line line) = IsFaultFrom Whole at line
