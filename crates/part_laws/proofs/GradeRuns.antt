-- The texts of runs of the parts of a grade are read, and merge to the grade of the same bytes: `grades_are_read`,
-- `runs_of_grade_parts`, `runs_of_grade_are_one`, `merge_grade_writes_grade`.
use Rattle.std.proofs.Common.{◌≡◌, ℕ, zero, suc, ◌+◌, ◌*◌, ◌<◌, List, [], ◌∷◌, length, map, Some, refl, sym, ap, ◌∙◌, subst, arith}
use Rattle.std.specs.Prelude.{slice_get}
use Rattle.std.specs.List.{range_with_len}
use Rattle.std.proofs.lemmas.List.{length-map}
use Rattle.std.proofs.lemmas.List.FromFn.{length-map-range_with_len, get_or-map-range_with_len}
use Rattle.text_bytes.proofs.ListLemmas.{slice_get-there}
use Rattle.tester_types.specs.Outside.{Files}
use Rattle.bench_net.specs.Circuit.{Circuit}
use Rattle.plan_rows.specs.declared.row.Row.{Row}
use Rattle.plan_rows.specs.Rows.{sites_of}
use Rattle.lot_plan.specs.Bound.{Bound}
use Rattle.site_meaning.specs.Part.{circuit_in}
use Rattle.site_meaning.proofs.PartLemmas.{circuit_in-part_of}
use Rattle.fault_grade.specs.Grade.{nets_in, first_site, first_part, grade_of}
use Rattle.fault_grade.specs.Run.{cut_at, run_of}
use Rattle.fault_grade.specs.declared.graded.Grade.{Grade}
use Rattle.fault_grade.proofs.DieLemmas.{first-die}
use Rattle.grade_listing.specs.GradeText.{grade_text}
use Rattle.tool_inputs.specs.declared.status.Status.TheVariants.{Done}
use Rattle.tool_inputs.specs.Inputs.{Inputs, AreInputs, bound_of}
use Rattle.lot_laws.proofs.SiteLemmas.{die_net}
use Rattle.lot_laws.proofs.LotLemmas.{same_places, rows_are}
use Rattle.lot_laws.proofs.GradeAlike.{good_alike, names_alike, nets_alike, run_alike, first_parts, first_there}
use Rattle.stil_tool.specs.OneText.{GradeRun}
use Rattle.stil_tool.proofs.OneTextLemmas.{never_done, graded_so}
use Rattle.grade_parts.specs.Part.{part_grade}
use Rattle.grade_parts.specs.Printed.{AreOneLine, AreNames, said_by, AreLogs, part_texts}
use Rattle.grade_parts.specs.Log.{GradeLog}
use Rattle.grade_parts.specs.Merged.{AreParts, merged_text}
use Rattle.grade_parts.proofs.NameLemmas.{net_names_are}
use Rattle.grade_parts.proofs.PartLemmas.{merged_is_whole, parts_are_taken}
use Rattle.grade_parts.proofs.PrintedLemmas.{text_is_said}
use Rattle.lot_parts.specs.declared.outcome.Outcome.TheVariants.{Ended}
use Rattle.lot_parts.specs.Files.{ArePartFiles}
use Rattle.lot_parts.specs.Grades.{part_text, GradeWants, AreLogTexts, MergeWants}
use Rattle.lot_parts.specs.Grades.MergeWants.{are_merged, is_refused as not_merged}
use Rattle.lot_parts.specs.Grades.GradeWants.{is_graded, is_refused}
use Rattle.part_laws.specs.Grades.{PartRun, AreRunsOfGrade, texts_of, GradesAreRead, RunsOfGradeParts, RunsOfGradeAreOne, MergeGradeWritesGrade}
use Rattle.part_laws.proofs.Joined.{got_at}
use Rattle.part_laws.proofs.MergeWritten.{files_one, never_merged}

-- ---- the run of a part

-- what it says, and its text
record IsPartOf (run : PartRun) (parts part : ℕ) : Type 0 where
  pub inputs : Inputs
  pub are : AreInputs (Some run.files) run.program run.plan inputs
  pub die : 0 < sites_of inputs.rows
  pub written : run.text ≡ part_text (bound_of inputs) parts part

part_so : (run : PartRun) (parts part : ℕ)
    → GradeWants (Some run.files) run.before run.now run.program run.plan parts part Done run.text → IsPartOf run parts part
part_so run parts part (is_graded done inputs are accepted die written) =
    record { inputs = inputs; are = are; die = die; written = written }
part_so run parts part (is_refused r cause answer line) = absurd (never_done r answer)

-- ---- the texts of all runs

-- the names of the first die's nets
abbrev names_of : Bound → List (List ℕ)
names_of plan = (circuit_in (first_part plan) 0).net.names

module _ (files : Files) (program plan : List ℕ) (inputs : Inputs) (are : AreInputs (Some files) program plan inputs)
    (runs : List PartRun) (given : AreRunsOfGrade files program plan runs) where
  abbrev bound : Bound
  bound = bound_of inputs

  -- the text of a part, by what the files say
  own_text : ℕ → List ℕ
  own_text part = part_text bound (length runs) part

  module _ (part : ℕ) (run : PartRun) (got : slice_get runs part ≡ Some run) where
    -- what its run says
    abbrev own : IsPartOf run (length runs) part
    own = part_so run (length runs) part (given.each part run got).is

    abbrev other : Bound
    other = bound_of own.inputs

    -- it has the same rows
    same_rows : inputs.rows ≡ own.inputs.rows
    same_rows =
        let same = (given.each part run got).same in
        rows_are files run.files program plan run.program run.plan inputs own.inputs are own.are same.one_program same.one_plan
        (same.nets inputs.rows are.rows)

    -- so there is a die
    some_sites : 0 < sites_of inputs.rows
    some_sites = subst (λ (rows : List Row). 0 < sites_of rows) (sym same_rows) own.die

    -- and it writes the same text of the part
    same_text : run.text ≡ own_text part
    unfolding own_text part_grade
    same_text =
        let same = (given.each part run got).same in
        let alike = first_parts files run.files program plan run.program run.plan inputs own.inputs are own.are same.one_program same.one_plan
        (same.nets inputs.rows are.rows) in
        let there = first_there bound some_sites in
        let good = good_alike (first_part bound) (first_part other) alike there in
        let run_is : (part_grade bound (length runs) part).faults ≡ (part_grade other (length runs) part).faults =
        run_alike (first_part bound) (first_part other) alike there (cut_at (2 * nets_in (first_part bound)) (length runs) part)
        (cut_at (2 * nets_in (first_part bound)) (length runs) (part + 1))
        ∙ ap (λ (n : ℕ). run_of (first_part other) (cut_at (2 * n) (length runs) part) (cut_at (2 * n) (length runs) (part + 1)))
        (nets_alike (first_part bound) (first_part other) alike there) in
        let grade_is : part_grade bound (length runs) part ≡ part_grade other (length runs) part =
        (λ i. record { good = good i; faults = run_is i }) in
        own.written
        ∙ ap (λ (g : Grade). grade_text (names_of other) g) (sym grade_is)
        ∙ ap (λ (names : List (List ℕ)). grade_text names (part_grade bound (length runs) part))
        (sym (names_alike (first_part bound) (first_part other) alike there))

  -- the first run
  first_run : (run : PartRun) × (slice_get runs 0 ≡ Some run)
  first_run = slice_get-there runs 0 given.some

  some_die : 0 < sites_of inputs.rows
  some_die = some_sites 0 first_run.0 first_run.1

  -- the texts are those of all parts
  texts_are : texts_of runs ≡ part_texts (names_of bound) bound (length runs)
  unfolding own_text
  texts_are =
      same_places [] (texts_of runs) (map own_text (range_with_len 0 (length runs)))
      (length-map runs (λ (run : PartRun). run.text) ∙ sym (length-map-range_with_len own_text 0 (length runs)))
      (λ k within.
      let less : k < length runs = omega (arith, within, length-map runs (λ (run : PartRun). run.text)) in
      let found = slice_get-there runs k less in
      got_at (λ (run : PartRun). run.text) runs k found.0 [] found.1
      ∙ same_text k found.0 found.1
      ∙ sym (get_or-map-range_with_len own_text 0 (length runs) k k [] less (omega arith)))

  -- the names of its nets have no line feed, are printed as themselves and stand once
  are_names : AreNames (names_of bound)
  are_names =
      let planned = first-die bound some_die in
      let net = die_net files program plan inputs are (first_site bound) 0 planned in
      subst (λ (c : Circuit). AreNames c.net.names) (sym (circuit_in-part_of bound (first_site bound) 0 planned))
      (net_names_are net.bytes _ net.net)

  one_line : AreOneLine (names_of bound)
  one_line = are_names.one

  -- ---- they are read

  -- what the text of a part says
  abbrev own_log : ℕ → GradeLog
  own_log part = said_by (names_of bound) (part_grade bound (length runs) part)

  own_logs : (parts : List ℕ) → AreLogTexts (map own_text parts) (map own_log parts)
  unfolding own_text
  own_logs [] = tt
  own_logs (part ∷ parts) =
      (text_is_said (names_of bound) (part_grade bound (length runs) part) one_line, own_logs parts)

  -- what texts say, in the words of the law on one bound plan
  are_logs : (texts : List (List ℕ)) (logs : List GradeLog) → AreLogTexts texts logs → AreLogs texts logs
  are_logs [] [] say = tt
  are_logs [] (log ∷ logs) say = absurd say
  are_logs (text ∷ texts) [] say = absurd say
  are_logs (text ∷ texts) (log ∷ logs) say = (say.0, are_logs texts logs say.1)

  all_read : (first : GradeLog) × (later : List GradeLog) × AreLogTexts (texts_of runs) (first ∷ later)
      × AreParts (first ∷ later)
  unfolding own_text
  all_read = by (length runs) refl given.some
    where
      by : (count : ℕ) → count ≡ length runs → 0 < count
          → (first : GradeLog) × (later : List GradeLog) × AreLogTexts (texts_of runs) (first ∷ later)
          × AreParts (first ∷ later)
      by zero is some = absurd (omega (arith, some))
      by (suc more) is some =
          let logs = own_log 0 ∷ map own_log (range_with_len 1 more) in
          let say : AreLogTexts (texts_of runs) logs =
          subst (λ (texts : List (List ℕ)). AreLogTexts texts logs)
          (ap (λ (n : ℕ). map own_text (range_with_len 0 n)) is ∙ sym texts_are)
          (own_logs (range_with_len 0 (suc more))) in (
            own_log 0,
            map own_log (range_with_len 1 more),
            say,
            parts_are_taken (names_of bound) bound (length runs) logs are_names refl (omega (arith, given.some))
                (subst (λ (texts : List (List ℕ)). AreLogs texts logs) texts_are (are_logs (texts_of runs) logs say)),
          )

  -- ---- they are merged

  merged : (first : GradeLog) (later : List GradeLog) → AreLogTexts (texts_of runs) (first ∷ later)
      → merged_text first later ≡ grade_text (names_of bound) (grade_of bound)
  merged first later say =
      merged_is_whole (names_of bound) bound (length runs) first later one_line (omega (arith, given.some))
      (subst (λ (texts : List (List ℕ)). AreLogs texts (first ∷ later)) texts_are (are_logs (texts_of runs) (first ∷ later) say))

-- ---- the laws

pub grades_are_read : GradesAreRead
grades_are_read files program plan inputs runs are given = all_read files program plan inputs are runs given

pub runs_of_grade_parts : RunsOfGradeParts
runs_of_grade_parts files program plan inputs runs are given first later say =
    merged files program plan inputs are runs given first later say

pub runs_of_grade_are_one : RunsOfGradeAreOne
runs_of_grade_are_one whole runs given first later say =
    let a = graded_so whole.files whole.before whole.now whole.program whole.plan whole.text whole.is in
    runs_of_grade_parts whole.files whole.program whole.plan a.inputs runs a.are given first later say ∙ sym a.written

-- what `merge-grade` writes
written_so : (whole : GradeRun) (runs : List PartRun) → AreRunsOfGrade whole.files whole.program whole.plan runs
    → (told : Files) (before now : ℕ) (names : List (List ℕ)) (text : List ℕ)
    → ArePartFiles (Some told) names (texts_of runs) → MergeWants (Some told) before now names (Ended Done) text
    → text ≡ whole.text
written_so whole runs given told before now names text have (not_merged r cause answer line) =
    absurd (never_merged r answer)
written_so whole runs given told before now names text have (are_merged done texts read first later say agree written) =
    written
    ∙ runs_of_grade_are_one whole runs given first later
    (subst (λ (l : List (List ℕ)). AreLogTexts l (first ∷ later)) (files_one told names texts (texts_of runs) read have) say)

pub merge_grade_writes_grade : MergeGradeWritesGrade
merge_grade_writes_grade whole runs given text is =
    written_so whole runs given is.told is.before is.now is.names text is.texts is.is
