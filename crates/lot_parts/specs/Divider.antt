-- What the public call of the program answers, and why.
use Rattle.std.specs.Prelude.{◌≡◌, ℕ, List, Option}
use Rattle.tester_types.specs.Outside.{Files}
use Rattle.tool_inputs.specs.declared.status.Status.{Status}
use Rattle.tool_inputs.specs.declared.status.Status.TheVariants.{Usage}
use Rattle.lot_parts.specs.declared.outcome.Outcome.{Outcome}
use Rattle.lot_parts.specs.declared.outcome.Outcome.TheVariants.{Ended}
use Rattle.lot_parts.specs.Words.{AreParts, AreCut, AreMerge, AreGrade, AreMergeGrade, AreNone}
use Rattle.lot_parts.specs.Endings.{usage_line}
use Rattle.lot_parts.specs.Parts.{PartsWants, CutWants}
use Rattle.lot_parts.specs.Merging as merging
use Rattle.lot_parts.specs.Grades as grades

-- What must be so of words for an outcome, with what is written then: those of one of the commands, or of none.
pub data DividerWants (words : List (List ℕ)) (told : Option Files) (before now : ℕ) (outcome : Outcome)
    (text : List ℕ) : Type 0 where
  no_form : AreNone words → outcome ≡ Ended Usage → text ≡ usage_line → DividerWants words told before now outcome text
  of_parts : (plan : List ℕ) → AreParts words plan → (status : Status) → outcome ≡ Ended status
      → PartsWants told before now plan status text → DividerWants words told before now outcome text
  of_cut : (plan : List ℕ) (parts part : ℕ) → AreCut words plan parts part → (status : Status) → outcome ≡ Ended status
      → CutWants told before now plan parts part status text → DividerWants words told before now outcome text
  of_merge : (plan : List ℕ) (files : List (List ℕ)) → AreMerge words plan files
      → merging.MergeWants told before now plan files outcome text → DividerWants words told before now outcome text
  of_grade : (program plan : List ℕ) (parts part : ℕ) → AreGrade words program plan parts part → (status : Status)
      → outcome ≡ Ended status → grades.GradeWants told before now program plan parts part status text
      → DividerWants words told before now outcome text
  of_merge_grade : (files : List (List ℕ)) → AreMergeGrade words files
      → grades.MergeWants told before now files outcome text → DividerWants words told before now outcome text
