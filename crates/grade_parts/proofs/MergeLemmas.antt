-- The text of a whole grade, by the texts of its parts.
use Rattle.std.proofs.Common.{◌≡◌, ℕ, ◌+◌, not, cond, List, [], ◌∷◌, ◌++◌, length, get_or, refl, sym, ap, ◌∙◌, length-append}
use Rattle.std.specs.Prelude.{sum_by}
use Rattle.std.specs.List.{flat_map}
use Rattle.std.proofs.lemmas.Grind.{flat_map-append}
use Rattle.std.proofs.lemmas.List.Sums.{sum_by-cons, sum_by-append}
use Rattle.part_lines.specs.Lines.{ended}
use Rattle.grade_parts.specs.Log.{GradeLog, ends_none, found_in, log_text}
use Rattle.grade_parts.specs.Merged.{merged_text}
use Rattle.grade_parts.specs.Step.{counts_text, fault_lines, count_of, found_of}

-- the lines of faults of all parts
abbrev all_faults : List GradeLog → List (List ℕ)
all_faults logs = flat_map (λ (log : GradeLog). log.faults) logs

lines-all : (logs : List GradeLog) → flat_map ended (all_faults logs) ≡ flat_map fault_lines logs
lines-all [] = refl
lines-all (log ∷ logs) =
    flat_map-append ended log.faults (all_faults logs) ∙ ap (λ (l : List ℕ). fault_lines log ++ l) (lines-all logs)

count-all : (logs : List GradeLog) → length (all_faults logs) ≡ sum_by count_of logs
count-all [] = refl
count-all (log ∷ logs) =
    length-append log.faults (all_faults logs) ∙ ap (λ (n : ℕ). count_of log + n) (count-all logs) ∙ sym (sum_by-cons count_of log logs)

found-all : (logs : List GradeLog) → found_in (all_faults logs) ≡ sum_by found_of logs
found-all [] = refl
found-all (log ∷ logs) =
    sum_by-append (λ (line : List ℕ). cond {A = ℕ} (not (ends_none line)) 1 0) log.faults (all_faults logs)
    ∙ ap (λ (n : ℕ). found_of log + n) (found-all logs) ∙ sym (sum_by-cons found_of log logs)

-- what is put is the text
pub merged_at : (logs later : List GradeLog) (first read : GradeLog) (good : List ℕ) → logs ≡ first ∷ later
    → read ≡ get_or logs 0 read → good ≡ read.good
    → merged_text first later
    ≡ (ended good ++ flat_map fault_lines logs) ++ counts_text (sum_by count_of logs) (sum_by found_of logs)
unfolding log_text
merged_at logs later first read good e is line =
    let same : read ≡ first = is ∙ ap (λ (l : List GradeLog). get_or l 0 read) e in
    let head : good ≡ first.good = line ∙ ap (λ (log : GradeLog). log.good) same in
    let lines : flat_map ended (all_faults (first ∷ later)) ≡ flat_map fault_lines logs =
    lines-all (first ∷ later) ∙ ap (flat_map fault_lines) (sym e) in
    let count : length (all_faults (first ∷ later)) ≡ sum_by count_of logs =
    count-all (first ∷ later) ∙ ap (sum_by count_of) (sym e) in
    let found : found_in (all_faults (first ∷ later)) ≡ sum_by found_of logs =
    found-all (first ∷ later) ∙ ap (sum_by found_of) (sym e) in
    λ i. (ended (sym head i) ++ lines i) ++ counts_text (count i) (found i)
