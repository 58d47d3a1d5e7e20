-- What `parts` and `part` answer.
use Rattle.std.specs.Prelude.{◌≡◌, ℕ, List, ◌++◌, Option, codes, decimal}
use Rattle.tester_types.specs.Outside.{Files}
use Rattle.plan_rows.specs.declared.row.Row.{Row}
use Rattle.tool_inputs.specs.declared.status.Status.{Status}
use Rattle.tool_inputs.specs.declared.status.Status.TheVariants.{Done}
use Rattle.tool_inputs.specs.declared.refusal.Refusal.{Refusal}
use Rattle.tool_inputs.specs.Endings.{IsFile}
use Rattle.tool_inputs.specs.Inputs.{IsPlanFile, IsPlanRefused}
use Rattle.tool_inputs.specs.Refusals.{status_of, line_of}
use Rattle.plan_parts.specs.Cut.{AreNeeded}
use Rattle.plan_parts.specs.PartText.{IsPartText}

-- a number on a line
abbrev pub number_line : ℕ → List ℕ
number_line number = decimal number ++ codes "\n"

-- the plan isn't read
pub record IsUnplanned (told : Option Files) (before now : ℕ) (plan : List ℕ) (status : Status) (text : List ℕ) : Type 0
  where
    pub refused : Refusal
    pub cause : IsPlanRefused told before now plan refused
    pub answer : status ≡ status_of refused
    pub line : text ≡ line_of refused

-- what must be so for a status of `parts`, with what is written then
pub data PartsWants (told : Option Files) (before now : ℕ) (plan : List ℕ) (status : Status) (text : List ℕ) : Type 0
  where
    are_needed : status ≡ Done → (rows : List Row) → IsPlanFile told plan rows → (parts : ℕ) → AreNeeded rows parts
        → text ≡ number_line parts → PartsWants told before now plan status text
    is_refused : IsUnplanned told before now plan status text → PartsWants told before now plan status text

-- what must be so for a status of `part`, with what is written then
pub data CutWants (told : Option Files) (before now : ℕ) (plan : List ℕ) (parts part : ℕ) (status : Status)
    (text : List ℕ) : Type 0 where
  is_cut : status ≡ Done → (bytes : List ℕ) → IsFile told plan bytes → (rows : List Row)
      → IsPartText parts part bytes rows text → CutWants told before now plan parts part status text
  is_refused : IsUnplanned told before now plan status text → CutWants told before now plan parts part status text
