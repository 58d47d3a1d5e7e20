-- What `grade` and `merge-grade` answer.
use Rattle.std.specs.Prelude.{◌≡◌, ℕ, ◌<◌, Bool, true, false, List, [], ◌∷◌, ◌++◌, Option, None, length, slice_index_or}
use Rattle.tester_types.specs.Outside.{Files}
use Rattle.plan_rows.specs.Rows.{sites_of}
use Rattle.lot_plan.specs.Bound.{Bound}
use Rattle.lot_plan.specs.Refusal.{refusal}
use Rattle.site_meaning.specs.Part.{circuit_in}
use Rattle.fault_grade.specs.Grade.{first_part}
use Rattle.grade_listing.specs.GradeText.{grade_text}
use Rattle.tool_inputs.specs.declared.status.Status.{Status}
use Rattle.tool_inputs.specs.declared.status.Status.TheVariants.{Done, OutOfMemory}
use Rattle.tool_inputs.specs.declared.refusal.Refusal.{Refusal}
use Rattle.tool_inputs.specs.Endings.{memory_line}
use Rattle.tool_inputs.specs.Inputs.{Inputs, AreInputs, bound_of, IsGradeRefused}
use Rattle.tool_inputs.specs.Refusals as refusals
use Rattle.part_lines.specs.LineFault.{IsLineFault}
use Rattle.grade_parts.specs.Part.{part_grade}
use Rattle.grade_parts.specs.Log.{GradeLog, Stuck, IsLog}
use Rattle.grade_parts.specs.Turns.{IsPartOf, AreTold, good_of}
use Rattle.grade_parts.specs.Merged.{AgreeWith, AreParts, merged_text}
use Rattle.lot_parts.specs.declared.outcome.Outcome.{Outcome}
use Rattle.lot_parts.specs.declared.outcome.Outcome.TheVariants.{Ended}
use Rattle.lot_parts.specs.declared.refusal.PartRefusal.{PartRefusal}
use Rattle.lot_parts.specs.declared.refusal.PartRefusal.TheVariants as refusal
use Rattle.lot_parts.specs.Refusals.{outcome_of, line_of}
use Rattle.lot_parts.specs.Files.{ArePartFiles, AreUnloaded}

-- ---- grade

-- what is written of a part of a grade
abbrev pub part_text : Bound → ℕ → ℕ → List ℕ
part_text bound parts part =
    grade_text (circuit_in (first_part bound) 0).net.names (part_grade bound parts part)

-- what must be so for a status of a bound grade, with what is written then
abbrev pub GradeRunWants : Bound → ℕ → ℕ → Status → List ℕ → Type 0
GradeRunWants bound parts part Done text = text ≡ part_text bound parts part
GradeRunWants bound parts part OutOfMemory text = text ≡ memory_line
GradeRunWants bound parts part _ text = ⊥

-- what must be so for a status of `grade`, with what is written then
pub data GradeWants (told : Option Files) (before now : ℕ) (program plan : List ℕ) (parts part : ℕ) (status : Status)
    (text : List ℕ) : Type 0 where
  is_graded : status ≡ Done → (inputs : Inputs) → AreInputs told program plan inputs
      → refusal (bound_of inputs) ≡ None → 0 < sites_of inputs.rows → text ≡ part_text (bound_of inputs) parts part
      → GradeWants told before now program plan parts part status text
  is_refused : (r : Refusal) → IsGradeRefused told before now program plan r → status ≡ refusals.status_of r
      → text ≡ refusals.line_of r → GradeWants told before now program plan parts part status text

-- ---- merge-grade

-- these texts are those of grades, which say this
abbrev pub AreLogTexts : List (List ℕ) → List GradeLog → Type 0
AreLogTexts [] [] = Unit {0}
AreLogTexts [] (log ∷ logs) = ⊥
AreLogTexts (text ∷ texts) [] = ⊥
AreLogTexts (text ∷ texts) (log ∷ logs) = IsLog text log × AreLogTexts texts logs

-- all say of the good die what the first says
abbrev pub Agree : List GradeLog → Type 0
Agree [] = Unit {0}
Agree (first ∷ logs) = AgreeWith first.good logs

-- whether no text is left
abbrev pub are_none : List (List ℕ) → Bool
are_none [] = true
are_none (text ∷ texts) = false

-- A text isn't that of the next part behind those before it, which are parts of a grade: the file's name, and the first
-- line up to which none begins so. Behind the last part no net lacks its fault at 1.
pub record IsNoLog (files texts : List (List ℕ)) (file : List ℕ) (line : ℕ) : Type 0 where
  pub front : List (List ℕ)
  pub text : List ℕ
  pub later : List (List ℕ)
  pub texts_are : texts ≡ front ++ text ∷ later
  pub file_is : file ≡ slice_index_or files (length front) []
  pub logs : List GradeLog
  pub before : AreLogTexts front logs
  pub agree : Agree logs
  pub told : List Stuck
  pub in_turn : AreTold logs told
  pub fault : IsLineFault (IsPartOf (good_of logs) told (are_none later)) text line

-- why the texts of these files aren't taken: one of them isn't, or there is no memory
pub data IsTextRefused (files texts : List (List ℕ)) (r : PartRefusal) : Type 0 where
  no_memory : outcome_of r ≡ Ended OutOfMemory → IsTextRefused files texts r
  of_text : (file : List ℕ) (line : ℕ) → IsNoLog files texts file line → r ≡ refusal.Part file line
      → IsTextRefused files texts r

-- why grades aren't merged, in the order in which it is met: a file isn't loaded, or one of the texts isn't taken
pub data IsMergeRefused (told : Option Files) (before now : ℕ) (files : List (List ℕ)) (r : PartRefusal) : Type 0 where
  of_files : (why : Refusal) → AreUnloaded told before now files why → r ≡ refusal.Of why
      → IsMergeRefused told before now files r
  of_text : (texts : List (List ℕ)) → ArePartFiles told files texts → IsTextRefused files texts r
      → IsMergeRefused told before now files r

-- what must be so for an outcome of `merge-grade`, with what is written then
pub data MergeWants (told : Option Files) (before now : ℕ) (files : List (List ℕ)) (outcome : Outcome) (text : List ℕ) :
    Type 0 where
  are_merged : outcome ≡ Ended Done → (texts : List (List ℕ)) → ArePartFiles told files texts
      → (log : GradeLog) (logs : List GradeLog) → AreLogTexts texts (log ∷ logs) → AreParts (log ∷ logs)
      → text ≡ merged_text log logs → MergeWants told before now files outcome text
  is_refused : (r : PartRefusal) → IsMergeRefused told before now files r → outcome ≡ outcome_of r → text ≡ line_of r
      → MergeWants told before now files outcome text
