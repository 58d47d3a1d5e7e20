-- The lines of a grade's text are fixed by it, line by line.
use Rattle.std.proofs.Common.{◌≡◌, ℕ, true, List, [], ◌∷◌, ◌++◌, length, take, drop, ◌&&◌, refl, sym, ap, subst, ◌∙◌, append_assoc}
use Rattle.std.specs.Prelude.{codes, decimal}
use Rattle.std.specs.List.{flat_map}
use Rattle.std.specs.Str.{bytes_eq}
use Rattle.std.proofs.lemmas.Bool.{and_parts, false≢true}
use Rattle.std.proofs.lemmas.List.{append-nil}
use Rattle.part_lines.specs.Lines.{is_one_line, ended, begins_so}
use Rattle.grade_parts.specs.Log.{GradeLog, Stuck, is_cycle, is_good, Tells, AreFaults, counts_line, found_in, log_text, IsLog}
use Rattle.part_lines.proofs.LineLemmas.{one_reading, one_append, one_decimal}

-- ---- the line of the counts

-- without its line feed
abbrev pub counts_body : List (List ℕ) → List ℕ
counts_body faults = codes "faults " ++ decimal (length faults) ++ codes " found " ++ decimal (found_in faults)

pub counts_one : (faults : List (List ℕ)) → is_one_line (counts_body faults) ≡ true
counts_one faults =
    let n = decimal (length faults) in
    let m = decimal (found_in faults) in
    one_append (codes "faults " ++ n ++ codes " found ") m
    (one_append (codes "faults " ++ n) (codes " found ") (one_append (codes "faults ") n refl (one_decimal (length faults))) refl)
    (one_decimal (found_in faults))

-- it is no line of a fault
pub counts_no_fault : (faults : List (List ℕ)) (stuck : Stuck) → Tells (counts_body faults) stuck → ⊥
counts_no_fault faults stuck tells =
    false≢true (ap (λ (line : List ℕ). bytes_eq (take 7 line) (codes "faults ")) (sym tells.is))

-- ---- the faults

-- a line of a fault is one line
pub fault_one : (line : List ℕ) → (stuck : Stuck) × Tells line stuck → is_one_line line ≡ true
fault_one line fault = fault.1.one

-- where faults and counts begin with faults, they are the first of them
pub faults_front : (xs ys all : List (List ℕ)) (rest : List ℕ) → AreFaults xs → AreFaults ys
    → flat_map ended ys ++ counts_line all ≡ flat_map ended xs ++ rest
    → (more : List (List ℕ)) × (ys ≡ xs ++ more) × AreFaults more × (flat_map ended more ++ counts_line all ≡ rest)
faults_front [] ys all rest are others e = (ys, refl, others, e)
faults_front (x ∷ xs) [] all rest are others e =
    let both = one_reading (counts_body all) x [] (flat_map ended xs ++ rest) (counts_one all) (fault_one x are.0)
    (append-nil (counts_line all) ∙ e ∙ append_assoc (ended x) (flat_map ended xs) rest) in
    absurd (counts_no_fault all are.0.0 (subst (λ (l : List ℕ). Tells l are.0.0) (sym both.0) are.0.1))
faults_front (x ∷ xs) (y ∷ ys) all rest are others e =
    let both = one_reading y x (flat_map ended ys ++ counts_line all) (flat_map ended xs ++ rest) (fault_one y others.0)
    (fault_one x are.0)
    (sym (append_assoc (ended y) (flat_map ended ys) (counts_line all)) ∙ e ∙ append_assoc (ended x) (flat_map ended xs) rest) in
    let more = faults_front xs ys all rest are.1 others.1 both.1 in
    (more.0, λ i. both.0 i ∷ more.1 i, more.2, more.3)

-- ---- the whole text

-- a line of a good die is one line
pub good_one : (line : List ℕ) → is_good line ≡ true → is_one_line line ≡ true
good_one line e = (and_parts (begins_so (codes "good") line && is_cycle (drop 5 line)) (is_one_line line) e).1

-- a text that begins with the lines of a good die and of faults is that of this die, and of these faults first
pub log_front : (good : List ℕ) (xs : List (List ℕ)) (rest text : List ℕ) (log : GradeLog) → is_good good ≡ true → AreFaults xs
    → IsLog text log → text ≡ ended good ++ (flat_map ended xs ++ rest)
    → (log.good ≡ good) × ((more : List (List ℕ)) × (log.faults ≡ xs ++ more) × AreFaults more
    × (flat_map ended more ++ counts_line log.faults ≡ rest))
unfolding log_text
log_front good xs rest text log fits are is e =
    let both = one_reading log.good good (flat_map ended log.faults ++ counts_line log.faults) (flat_map ended xs ++ rest)
    (good_one log.good is.are.good) (good_one good fits)
    (sym (append_assoc (ended log.good) (flat_map ended log.faults) (counts_line log.faults)) ∙ sym is.is ∙ e) in
    (both.0, faults_front xs log.faults log.faults rest are is.are.faults both.1)

-- a text is that of one log
pub one_log : (text : List ℕ) (a b : GradeLog) → IsLog text a → IsLog text b → a ≡ b
unfolding log_text
one_log text a b is was =
    let found = log_front b.good b.faults (counts_line b.faults) text a was.are.good was.are.faults is
    (was.is ∙ append_assoc (ended b.good) (flat_map ended b.faults) (counts_line b.faults)) in
    let none = no_more found.1.0 found.1.2 found.1.3 in
    let same : a.faults ≡ b.faults = found.1.1 ∙ ap (λ (l : List (List ℕ)). b.faults ++ l) none ∙ append-nil b.faults in
    λ i. record { good = found.0 i; faults = same i }
  where
    no_more : (more : List (List ℕ)) → AreFaults more → flat_map ended more ++ counts_line a.faults ≡ counts_line b.faults → more ≡ []
    no_more [] are e = refl
    no_more (m ∷ more) are e =
        let both = one_reading m (counts_body b.faults) (flat_map ended more ++ counts_line a.faults) [] (fault_one m are.0)
        (counts_one b.faults)
        (sym (append_assoc (ended m) (flat_map ended more) (counts_line a.faults)) ∙ e ∙ sym (append-nil (counts_line b.faults))) in
        absurd (counts_no_fault b.faults are.0.0 (subst (λ (l : List ℕ). Tells l are.0.0) both.0 are.0.1))
