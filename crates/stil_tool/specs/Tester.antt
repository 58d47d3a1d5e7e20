-- What the public call of the program answers, and why.
use Rattle.std.specs.Prelude.{◌≡◌, ℕ, ◌⊎◌, List, Option}
use Rattle.tester_types.specs.Outside.{Files}
use Rattle.die_sim.specs.Socket.{Told}
use Rattle.tool_inputs.specs.declared.status.Status.{Status}
use Rattle.stil_tool.specs.Offline.{Wants}
use Rattle.stil_tool.specs.Lot.{AreLot, Floor, LotWants}
use Rattle.stil_tool.specs.Drill.{AreDrill, DrillWants}
use Rattle.stil_tool.specs.Grade.{AreGrade, GradeWants}

-- the words are those of a command that needs a tester
abbrev pub NeedTester : List (List ℕ) → Type 0
NeedTester words =
    ((program : List ℕ) × (plan : List ℕ) × AreLot words program plan) ⊎ ((number : ℕ) × AreDrill words number)
    ⊎ ((program : List ℕ) × (plan : List ℕ) × AreGrade words program plan)

-- What must be so of words for a status, with what is written then: those of `lot`, of `drill`, of `grade`, or of a
-- command that needs no tester. A grade leaves the floor as it was.
pub data TesterWants {S : Type 0} (tells : S → Told) (words : List (List ℕ)) (told : Option Files) (before now : ℕ)
    (old new : Floor S) (status : Status) (text : List ℕ) : Type 0 where
  of_lot : (program plan : List ℕ) → AreLot words program plan
      → LotWants tells told before now old new program plan status text
      → TesterWants tells words told before now old new status text
  of_drill : (number : ℕ) → AreDrill words number → DrillWants tells number old new status text
      → TesterWants tells words told before now old new status text
  of_grade : (program plan : List ℕ) → AreGrade words program plan
      → GradeWants told before now program plan status text → new ≡ old
      → TesterWants tells words told before now old new status text
  of_other : (NeedTester words → ⊥) → Wants words told before now status text
      → TesterWants tells words told before now old new status text
