-- Runs of the parts of a grade, each on files of its own, and what their texts are merged to.
use Rattle.std.specs.Prelude.{◌≡◌, ℕ, ◌<◌, Some, List, ◌∷◌, length, map, slice_get}
use Rattle.tester_types.specs.Outside.{Files}
use Rattle.tool_inputs.specs.declared.status.Status.TheVariants.{Done}
use Rattle.tool_inputs.specs.Inputs.{Inputs, AreInputs, bound_of}
use Rattle.stil_tool.specs.Grade.{graded_text}
use Rattle.stil_tool.specs.OneText.{AreSameFiles, GradeRun}
use Rattle.grade_parts.specs.Log.{GradeLog}
use Rattle.grade_parts.specs.Merged.{AreParts, merged_text}
use Rattle.lot_parts.specs.declared.outcome.Outcome.TheVariants.{Ended}
use Rattle.lot_parts.specs.Files.{ArePartFiles}
use Rattle.lot_parts.specs.Grades.{GradeWants, AreLogTexts, MergeWants}

-- what a run of `grade` of `lots` read and wrote: its files, the names of its program and its plan there, the counts of
-- faults of its shelf, and its text
pub record PartRun : Type 0 where
  pub files : Files
  pub program : List ℕ
  pub plan : List ℕ
  pub before : ℕ
  pub now : ℕ
  pub text : List ℕ

-- it is the run of a part of so many, was done, and its files say by their bytes what these say
pub record IsRunOfGrade (files : Files) (program plan : List ℕ) (parts part : ℕ) (run : PartRun) : Type 0 where
  pub same : AreSameFiles files run.files program plan run.program run.plan
  pub is : GradeWants (Some run.files) run.before run.now run.program run.plan parts part Done run.text

-- these runs are those of all parts, in order
pub record AreRunsOfGrade (files : Files) (program plan : List ℕ) (runs : List PartRun) : Type 0 where
  pub some : 0 < length runs
  pub each : (part : ℕ) (run : PartRun) → slice_get runs part ≡ Some run
      → IsRunOfGrade files program plan (length runs) part run

-- the texts of runs
abbrev pub texts_of : List PartRun → List (List ℕ)
texts_of runs = map (λ (run : PartRun). run.text) runs

-- The texts of the runs of all parts are those of the parts of one grade, so they are taken.
abbrev pub GradesAreRead : Type 0
GradesAreRead =
    (files : Files) (program plan : List ℕ) (inputs : Inputs) (runs : List PartRun)
    → AreInputs (Some files) program plan inputs → AreRunsOfGrade files program plan runs
    → (first : GradeLog) × (later : List GradeLog) × AreLogTexts (texts_of runs) (first ∷ later)
    × AreParts (first ∷ later)

-- What the texts of the runs of all parts say is merged to the grade of what the files say.
abbrev pub RunsOfGradeParts : Type 0
RunsOfGradeParts =
    (files : Files) (program plan : List ℕ) (inputs : Inputs) (runs : List PartRun)
    → AreInputs (Some files) program plan inputs → AreRunsOfGrade files program plan runs
    → (first : GradeLog) (later : List GradeLog) → AreLogTexts (texts_of runs) (first ∷ later)
    → merged_text first later ≡ graded_text (bound_of inputs)

-- So it is what a run of `grade` of `stil` prints on these bytes.
abbrev pub RunsOfGradeAreOne : Type 0
RunsOfGradeAreOne =
    (whole : GradeRun) (runs : List PartRun) → AreRunsOfGrade whole.files whole.program whole.plan runs
    → (first : GradeLog) (later : List GradeLog) → AreLogTexts (texts_of runs) (first ∷ later)
    → merged_text first later ≡ whole.text

-- `merge-grade` of `lots` was done on files with the texts of these runs, and wrote this text.
pub record MergesGrades (runs : List PartRun) (text : List ℕ) : Type 0 where
  pub told : Files
  pub before : ℕ
  pub now : ℕ
  pub names : List (List ℕ)
  pub texts : ArePartFiles (Some told) names (texts_of runs)
  pub is : MergeWants (Some told) before now names (Ended Done) text

-- So what `merge-grade` writes of runs of all parts is what a run of `grade` of `stil` prints on the same bytes.
abbrev pub MergeGradeWritesGrade : Type 0
MergeGradeWritesGrade =
    (whole : GradeRun) (runs : List PartRun) → AreRunsOfGrade whole.files whole.program whole.plan runs
    → (text : List ℕ) → MergesGrades runs text → text ≡ whole.text
