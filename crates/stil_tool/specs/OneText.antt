-- Runs of `grade` and of `dump` that ended with their text: what they print is one function of the bytes of their
-- files.
use Rattle.std.specs.Prelude.{◌≡◌, ℕ, Some, List}
use Rattle.tester_types.specs.Outside.{Files, file_of}
use Rattle.plan_rows.specs.declared.row.Row.{Row}
use Rattle.tool_inputs.specs.declared.status.Status.TheVariants.{Done}
use Rattle.tool_inputs.specs.Inputs.{IsPlanFile}
use Rattle.lot_laws.specs.Alone.{IsOneProgram, AreOneNets}
use Rattle.stil_tool.specs.Grade.{GradeWants}
use Rattle.stil_tool.specs.Dump.{DumpWants}

-- Files say the same by their bytes: one program, one plan, and one netlist for each die of the plan. A program may be
-- a text in the one and a saved program of its code in the other.
pub record AreSameFiles (files others : Files) (program plan program' plan' : List ℕ) : Type 0 where
  pub one_program : IsOneProgram files others program program'
  pub one_plan : file_of files plan ≡ file_of others plan'
  pub nets : (rows : List Row) → IsPlanFile (Some files) plan rows → (site : ℕ) → AreOneNets files others rows site

-- a run of `grade` with these files that was done, with its text
pub record GradeRun : Type 0 where
  pub files : Files
  pub program : List ℕ
  pub plan : List ℕ
  pub before : ℕ
  pub now : ℕ
  pub text : List ℕ
  pub is : GradeWants (Some files) before now program plan Done text

-- a run of `dump` with these files and of this site that was done, with its text
pub record DumpRun (site : ℕ) : Type 0 where
  pub files : Files
  pub program : List ℕ
  pub plan : List ℕ
  pub before : ℕ
  pub now : ℕ
  pub text : List ℕ
  pub is : DumpWants (Some files) before now program plan site Done text

-- Two runs of `grade` on the same bytes print the same text, whatever code and circuits each has.
abbrev pub OneGradeText : Type 0
OneGradeText =
    (run other : GradeRun) → AreSameFiles run.files other.files run.program run.plan other.program other.plan
    → run.text ≡ other.text

-- So do two runs of `dump` of one site.
abbrev pub OneDumpText : Type 0
OneDumpText =
    (site : ℕ) (run other : DumpRun site)
    → AreSameFiles run.files other.files run.program run.plan other.program other.plan → run.text ≡ other.text
