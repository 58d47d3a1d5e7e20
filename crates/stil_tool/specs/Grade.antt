-- What `grade` answers, and why.
use Rattle.std.specs.Prelude.{◌≡◌, ℕ, ◌<◌, List, [], ◌∷◌, codes, Option, None}
use Rattle.tester_types.specs.Outside.{HasRisen, Files}
use Rattle.plan_rows.specs.Rows.{sites_of}
use Rattle.lot_plan.specs.Bound.{Bound}
use Rattle.lot_plan.specs.Refusal.{refusal}
use Rattle.site_meaning.specs.Part.{circuit_in}
use Rattle.fault_grade.specs.Grade.{first_part, grade_of}
use Rattle.grade_listing.specs.GradeText.{grade_text}
use Rattle.tool_inputs.specs.declared.status.Status.{Status}
use Rattle.tool_inputs.specs.declared.status.Status.TheVariants.{Done, OutOfMemory}
use Rattle.tool_inputs.specs.declared.refusal.Refusal.{Refusal}
use Rattle.tool_inputs.specs.Endings.{memory_line}
use Rattle.tool_inputs.specs.Refusals.{status_of, line_of}
use Rattle.tool_inputs.specs.Inputs.{Inputs, AreInputs, bound_of, IsGradeRefused}
use Rattle.tool_inputs.specs.FineInputs.{AreFine}

-- the words `grade PROGRAM PLAN`
abbrev pub AreGrade : List (List ℕ) → List ℕ → List ℕ → Type 0
AreGrade words program plan = words ≡ codes "grade" ∷ program ∷ plan ∷ []

-- what is written of a grade: that of the first die record's die, over the names of its nets
abbrev pub graded_text : Bound → List ℕ
graded_text bound = grade_text (circuit_in (first_part bound) 0).net.names (grade_of bound)

-- what must be so for a status of a bound grade, with what is written then
abbrev pub GradeRunWants : Bound → Status → List ℕ → Type 0
GradeRunWants bound Done text = text ≡ graded_text bound
GradeRunWants bound OutOfMemory text = text ≡ memory_line
GradeRunWants bound _ text = ⊥

-- what must be so for a status of `grade`, with what is written then
pub data GradeWants (told : Option Files) (before now : ℕ) (program plan : List ℕ) (status : Status) (text : List ℕ) :
    Type 0 where
  is_graded : status ≡ Done → (inputs : Inputs) → AreInputs told program plan inputs
      → refusal (bound_of inputs) ≡ None → 0 < sites_of inputs.rows → text ≡ graded_text (bound_of inputs)
      → GradeWants told before now program plan status text
  is_refused : (r : Refusal) → IsGradeRefused told before now program plan r → status ≡ status_of r → text ≡ line_of r
      → GradeWants told before now program plan status text

-- the words are those of a grade whose files are fine and whose plan has a die, and no count rose
pub record IsFineGrade (words : List (List ℕ)) (told : Option Files) (before now faults faults' : ℕ) : Type 0 where
  pub program : List ℕ
  pub plan : List ℕ
  pub are : AreGrade words program plan
  pub files : AreFine told before now program plan
  pub die : 0 < sites_of files.rows
  pub puts : HasRisen faults faults' → ⊥
