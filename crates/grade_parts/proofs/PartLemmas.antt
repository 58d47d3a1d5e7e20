-- The parts of a grade, one after another, are the whole grade.
use Rattle.std.proofs.Common.{◌≡◌, ℕ, zero, suc, ◌+◌, ◌*◌, ◌≤◌, List, [], ◌∷◌, ◌++◌, map, length, refl, sym, ap, subst, ◌∙◌, arith, append_assoc}
use Rattle.std.specs.List.{flat_map, range_with_len}
use Rattle.std.proofs.lemmas.List.{append-nil, map-append}
use Rattle.lot_plan.specs.Bound.{Bound}
use Rattle.site_meaning.specs.Part.{Part}
use Rattle.fault_grade.specs.Grade.{first, first_part, nets_in, graded, faults_in, grade_of}
use Rattle.fault_grade.specs.Run.{cut_at, run_of}
use Rattle.fault_grade.specs.declared.graded.Graded.{Graded}
use Rattle.fault_grade.proofs.RunLemmas.{joined-none, joined-next, joined-all, run-all}
use Rattle.grade_listing.specs.GradeText.{grade_text}
use Rattle.grade_parts.specs.Part.{part_grade}
use Rattle.grade_parts.specs.Log.{GradeLog, log_text}
use Rattle.grade_parts.specs.Turns.{AreInTurn, all_lines}
use Rattle.grade_parts.specs.Merged.{AgreeWith, AreParts, merged, merged_text}
use Rattle.grade_parts.specs.Printed.{AreOneLine, AreNames, said_fault, said_by, part_texts, AreLogs}
use Rattle.grade_parts.proofs.LogLemmas.{one_log}
use Rattle.grade_parts.proofs.PrintedLemmas.{text_is_said}
use Rattle.grade_parts.proofs.InTurnLemmas.{turn_all}

-- ---- the faults of all parts

-- the faults of one of them
abbrev part_run : Part → ℕ → ℕ → List Graded
part_run part parts k = run_of part (cut_at (2 * nets_in part) parts k) (cut_at (2 * nets_in part) parts (k + 1))

-- those of some, behind those before
runs_up : (part : Part) (parts : ℕ) → 1 ≤ parts → (n from : ℕ) (before : List Graded)
    → before ≡ run_of part 0 (cut_at (2 * nets_in part) parts from)
    → before ++ flat_map (part_run part parts) (range_with_len from n) ≡ run_of part 0 (cut_at (2 * nets_in part) parts (from + n))
runs_up part parts some zero from before is =
    let none : from ≡ from + 0 = omega arith in
    append-nil before ∙ is ∙ ap (λ (k : ℕ). run_of part 0 (cut_at (2 * nets_in part) parts k)) none
runs_up part parts some (suc n) from before is =
    let more = part_run part parts from in
    let next : (from + 1) + n ≡ from + suc n = omega arith in
    sym (append_assoc before more (flat_map (part_run part parts) (range_with_len (from + 1) n)))
    ∙ runs_up part parts some n (from + 1) (before ++ more) (joined-next part parts from before more some is refl)
    ∙ ap (λ (k : ℕ). run_of part 0 (cut_at (2 * nets_in part) parts k)) next

-- those of all parts are all faults
runs_all : (part : Part) (parts : ℕ) → 1 ≤ parts
    → flat_map (part_run part parts) (range_with_len 0 parts) ≡ run_of part 0 (2 * nets_in part)
runs_all part parts some =
    let all : 0 + parts ≡ parts = omega arith in
    joined-all part parts (flat_map (part_run part parts) (range_with_len 0 parts)) some
    (runs_up part parts some parts 0 [] (joined-none part parts)
    ∙ ap (λ (k : ℕ). run_of part 0 (cut_at (2 * nets_in part) parts k)) all)

-- ---- the logs of all parts

-- a part by its lines
abbrev said_part : List (List ℕ) → Bound → ℕ → ℕ → GradeLog
said_part names plan parts k = said_by names (part_grade plan parts k)

-- logs of texts are what these say
logs_are : (names : List (List ℕ)) (plan : Bound) (parts : ℕ) → AreOneLine names → (ks : List ℕ) (logs : List GradeLog)
    → AreLogs (map (λ k. grade_text names (part_grade plan parts k)) ks) logs → logs ≡ map (said_part names plan parts) ks
logs_are names plan parts plain [] [] are = refl
logs_are names plan parts plain [] (log ∷ logs) are = absurd are
logs_are names plan parts plain (k ∷ ks) [] are = absurd are
logs_are names plan parts plain (k ∷ ks) (log ∷ logs) are =
    let text = grade_text names (part_grade plan parts k) in
    let same = one_log text log (said_part names plan parts k) are.0 (text_is_said names (part_grade plan parts k) plain) in
    λ i. same i ∷ logs_are names plan parts plain ks logs are.1 i

-- their lines are those of their faults
lines_are : (names : List (List ℕ)) (plan : Bound) (parts : ℕ) (ks : List ℕ)
    → flat_map (λ (log : GradeLog). log.faults) (map (said_part names plan parts) ks)
    ≡ map (said_fault names) (flat_map (part_run (first_part plan) parts) ks)
unfolding part_grade
lines_are names plan parts [] = refl
lines_are names plan parts (k ∷ ks) =
    let run = part_run (first_part plan) parts k in
    ap (λ (l : List (List ℕ)). map (said_fault names) run ++ l) (lines_are names plan parts ks)
    ∙ sym (map-append (said_fault names) run (flat_map (part_run (first_part plan) parts) ks))

-- each part has the good die
good_is : (names : List (List ℕ)) (plan : Bound) (parts k : ℕ)
    → (said_part names plan parts k).good ≡ (said_by names (grade_of plan)).good
unfolding part_grade
good_is names plan parts k = refl

-- the first log's
first_is : (names : List (List ℕ)) (plan : Bound) (parts : ℕ) (first : GradeLog) (later : List GradeLog) → 1 ≤ parts
    → first ∷ later ≡ map (said_part names plan parts) (range_with_len 0 parts) → first ≡ said_part names plan parts 0
first_is names plan zero first later some e = absurd (omega (arith, some))
first_is names plan (suc n) first later some e = cc

-- merged, the parts are the whole
pub merged_is_whole : (names : List (List ℕ)) (plan : Bound) (parts : ℕ) (first : GradeLog) (later : List GradeLog)
    → AreOneLine names → 1 ≤ parts → AreLogs (part_texts names plan parts) (first ∷ later)
    → merged_text first later ≡ grade_text names (grade_of plan)
merged_is_whole names plan parts first later plain some are =
    let part = first_part plan in
    let e = logs_are names plan parts plain (range_with_len 0 parts) (first ∷ later) are in
    let good : first.good ≡ (said_by names (grade_of plan)).good =
    ap (λ (log : GradeLog). log.good) (first_is names plan parts first later some e) ∙ good_is names plan parts 0 in
    let faults : flat_map (λ (log : GradeLog). log.faults) (first ∷ later) ≡ (said_by names (grade_of plan)).faults =
    ap (flat_map (λ (log : GradeLog). log.faults)) e ∙ lines_are names plan parts (range_with_len 0 parts)
    ∙ ap (map (said_fault names)) (runs_all part parts some ∙ run-all part) in
    let whole : merged first later ≡ said_by names (grade_of plan) = λ i. record { good = good i; faults = faults i } in
    ap log_text whole ∙ sym (text_is_said names (grade_of plan) plain).is

-- the lines of all parts are those of the whole grade
lines_all : (names : List (List ℕ)) (plan : Bound) (parts : ℕ) (logs : List GradeLog) → AreOneLine names → 1 ≤ parts
    → AreLogs (part_texts names plan parts) logs → all_lines logs ≡ map (said_fault names) (map (graded (first_part plan)) (faults_in (first_part plan)))
lines_all names plan parts logs plain some are =
    ap all_lines (logs_are names plan parts plain (range_with_len 0 parts) logs are)
    ∙ lines_are names plan parts (range_with_len 0 parts)
    ∙ ap (map (said_fault names)) (runs_all (first_part plan) parts some ∙ run-all (first_part plan))

-- what each part says of the good die
agree_all : (names : List (List ℕ)) (plan : Bound) (parts : ℕ) (ks : List ℕ)
    → AgreeWith (said_by names (grade_of plan)).good (map (said_part names plan parts) ks)
agree_all names plan parts [] = tt
agree_all names plan parts (k ∷ ks) = (good_is names plan parts k, agree_all names plan parts ks)

agree_first : (good : List ℕ) (log : GradeLog) (later : List GradeLog) → AgreeWith good (log ∷ later) → AgreeWith log.good later
agree_first good log later are = subst (λ (g : List ℕ). AgreeWith g later) (sym are.0) are.1

-- the texts of all parts are those of parts of one grade, and of all of it
pub parts_are_taken : (names : List (List ℕ)) (plan : Bound) (parts : ℕ) (logs : List GradeLog) → AreNames names
    → nets_in (first_part plan) ≡ length names → 1 ≤ parts → AreLogs (part_texts names plan parts) logs → AreParts logs
parts_are_taken names plan parts logs are count some of_texts =
    let e = logs_are names plan parts are.one (range_with_len 0 parts) logs of_texts in
    let all = turn_all names (first_part plan) are count in
    record {
      good = λ log later is.
          agree_first (said_by names (grade_of plan)).good log later
          (subst (AgreeWith (said_by names (grade_of plan)).good) (sym e ∙ is) (agree_all names plan parts (range_with_len 0 parts)));
      told = all.0;
      in_turn = subst (λ (l : List (List ℕ)). AreInTurn [] l all.0) (sym (lines_all names plan parts logs are.one some of_texts)) all.1;
      none_open = all.2;
    }
