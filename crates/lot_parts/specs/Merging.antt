-- What `merge` answers.
use Rattle.std.specs.Prelude.{◌≡◌, ℕ, List, [], ◌∷◌, ◌++◌, ◌+◌, Option, length, slice_index_or}
use Rattle.tester_types.specs.Outside.{Files}
use Rattle.plan_rows.specs.declared.row.Row.{Row}
use Rattle.tool_inputs.specs.declared.status.Status.TheVariants.{Done, OutOfMemory}
use Rattle.tool_inputs.specs.declared.refusal.Refusal.{Refusal}
use Rattle.tool_inputs.specs.Inputs.{IsPlanFile, IsPlanRefused}
use Rattle.part_lines.specs.LineFault.{IsLineFault}
use Rattle.log_parts.specs.Log.{DieLog, IsLog, IsLogOf}
use Rattle.log_parts.specs.Slices.{SlicedLog, IsSliced}
use Rattle.log_parts.specs.Merged.{names_in, merged_text}
use Rattle.lot_parts.specs.declared.outcome.Outcome.{Outcome}
use Rattle.lot_parts.specs.declared.outcome.Outcome.TheVariants.{Ended}
use Rattle.lot_parts.specs.declared.refusal.PartRefusal.{PartRefusal}
use Rattle.lot_parts.specs.declared.refusal.PartRefusal.TheVariants as refusal
use Rattle.lot_parts.specs.Refusals.{outcome_of, line_of}
use Rattle.lot_parts.specs.Files.{ArePartFiles, AreUnloaded}

-- these texts, the first of which is that of this part, are datalogs of their parts, which say this
abbrev pub AreLogTexts : List Row → ℕ → ℕ → List (List ℕ) → List (List (List DieLog)) → Type 0
AreLogTexts rows parts part [] [] = Unit {0}
AreLogTexts rows parts part [] (log ∷ logs) = ⊥
AreLogTexts rows parts part (text ∷ texts) [] = ⊥
AreLogTexts rows parts part (text ∷ texts) (log ∷ logs) =
    IsLog (names_in parts part rows) text log × AreLogTexts rows parts (part + 1) texts logs

-- of these texts, the first of which is that of this part, this was kept
abbrev pub AreSliced : List Row → ℕ → ℕ → List (List ℕ) → List SlicedLog → Type 0
AreSliced rows parts part [] [] = Unit {0}
AreSliced rows parts part [] (log ∷ logs) = ⊥
AreSliced rows parts part (text ∷ texts) [] = ⊥
AreSliced rows parts part (text ∷ texts) (log ∷ logs) =
    IsSliced (names_in parts part rows) text log × AreSliced rows parts (part + 1) texts logs

-- A text is no datalog of its part, and those before it are: the file's name, and the first line up to which none
-- begins so.
pub record IsNoLog (rows : List Row) (files texts : List (List ℕ)) (file : List ℕ) (line : ℕ) : Type 0 where
  pub front : List (List ℕ)
  pub text : List ℕ
  pub later : List (List ℕ)
  pub texts_are : texts ≡ front ++ text ∷ later
  pub file_is : file ≡ slice_index_or files (length front) []
  pub logs : List (List (List DieLog))
  pub before : AreLogTexts rows (length files) 0 front logs
  pub fault : IsLineFault (IsLogOf (names_in (length files) (length front) rows)) text line

-- why the texts of these files aren't taken: one of them is no datalog of its part, or there is no memory
pub data IsTextRefused (rows : List Row) (files texts : List (List ℕ)) (r : PartRefusal) : Type 0 where
  no_memory : outcome_of r ≡ Ended OutOfMemory → IsTextRefused rows files texts r
  of_text : (file : List ℕ) (line : ℕ) → IsNoLog rows files texts file line → r ≡ refusal.Part file line
      → IsTextRefused rows files texts r

-- Why datalogs aren't merged, in the order in which it is met: the plan is refused, a file isn't loaded, or one of the
-- texts is no datalog of its part. Want of memory may come at any time.
pub data IsMergeRefused (told : Option Files) (before now : ℕ) (plan : List ℕ) (files : List (List ℕ)) (r : PartRefusal)
    : Type 0 where
  no_memory : outcome_of r ≡ Ended OutOfMemory → IsMergeRefused told before now plan files r
  of_plan : (why : Refusal) → IsPlanRefused told before now plan why → r ≡ refusal.Of why
      → IsMergeRefused told before now plan files r
  of_files : (rows : List Row) → IsPlanFile told plan rows → (why : Refusal) → AreUnloaded told before now files why
      → r ≡ refusal.Of why → IsMergeRefused told before now plan files r
  of_text : (rows : List Row) → IsPlanFile told plan rows → (texts : List (List ℕ)) → ArePartFiles told files texts
      → IsTextRefused rows files texts r → IsMergeRefused told before now plan files r

-- what must be so for an outcome of `merge`, with what is written then
pub data MergeWants (told : Option Files) (before now : ℕ) (plan : List ℕ) (files : List (List ℕ)) (outcome : Outcome)
    (text : List ℕ) : Type 0 where
  are_merged : outcome ≡ Ended Done → (rows : List Row) → IsPlanFile told plan rows
      → (texts : List (List ℕ)) → ArePartFiles told files texts → (logs : List (List (List DieLog)))
      → AreLogTexts rows (length files) 0 texts logs → text ≡ merged_text rows logs
      → MergeWants told before now plan files outcome text
  is_refused : (r : PartRefusal) → IsMergeRefused told before now plan files r → outcome ≡ outcome_of r
      → text ≡ line_of r → MergeWants told before now plan files outcome text
