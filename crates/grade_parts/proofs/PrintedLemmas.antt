-- The printed text of a grade is that of its lines.
use Rattle.std.proofs.Common.{◌≡◌, ℕ, zero, suc, ◌+◌, ◌-◌, ◌<◌, Bool, true, false, not, ◌||◌, cond, inl, inr, List, [], ◌∷◌, ◌++◌, length, map, take, drop, refl, sym, ap, ◌∙◌, arith, append_assoc, length-append}
use Rattle.std.specs.Prelude.{codes, decimal, Option, Some, None, ◌==◌, count_by, slice_index_or}
use Rattle.std.specs.List.{flat_map, list_any}
use Rattle.std.specs.Str.{bytes_eq}
use Rattle.std.proofs.lemmas.Bool.{cases_Bool, ne_eqb, eq-eqb, and_from}
use Rattle.std.proofs.lemmas.List.{length-map, drop_at, take-append-drop}
use Rattle.std.proofs.lemmas.List.Folds.{list_any-append}
use Rattle.std.proofs.lemmas.List.Sums.{sum_by-cons}
use Rattle.std.proofs.lemmas.Slice.Eq.{bytes_eq-Decides}
use Rattle.tester_types.specs.Printing.{printed_name}
use Rattle.text_bytes.specs.Bytes.{is_digit}
use Rattle.text_bytes.proofs.Spans.{list_any-not}
use Rattle.text_bytes.proofs.DigitLemmas.{decimal_all, decimal_some}
use Rattle.fault_grade.specs.declared.graded.Grade.{Grade}
use Rattle.fault_grade.specs.declared.graded.Graded.{Graded}
use Rattle.grade_listing.specs.GradeText.{cycle_text, value_text, fault_line, is_found, grade_text}
use Rattle.part_lines.specs.Lines.{is_one_line, ended}
use Rattle.part_lines.proofs.LineLemmas.{one_append, one_decimal, one_printed}
use Rattle.part_lines.proofs.WordLemmas.{printed_is_named, decimal_is_number}
use Rattle.grade_parts.specs.Log.{is_cycle, Tells, AreFaults, ends_none, found_in, log_text, IsLog}
use Rattle.grade_parts.specs.Printed.{AreOneLine, said_fault, stuck_said, said_by}

-- ---- no line feed

named_one : (names : List (List ℕ)) (n : ℕ) → AreOneLine names → is_one_line (slice_index_or names n []) ≡ true
named_one [] n are = refl
named_one (name ∷ names) zero are = are.0
named_one (name ∷ names) (suc n) are = named_one names n are.1

value_one : (value : Bool) → is_one_line (value_text value) ≡ true
value_one true = refl
value_one false = refl

cycle_one : (cycle : Option ℕ) → is_one_line (cycle_text cycle) ≡ true
cycle_one None = refl
cycle_one (Some n) = one_decimal n

fault_is_one : (names : List (List ℕ)) (graded : Graded) → AreOneLine names → is_one_line (said_fault names graded) ≡ true
fault_is_one names graded are =
    let name = printed_name (slice_index_or names graded.net []) in
    one_append (codes "fault " ++ name ++ value_text graded.value) (cycle_text graded.first)
    (one_append (codes "fault " ++ name) (value_text graded.value)
    (one_append (codes "fault ") name refl (one_printed (slice_index_or names graded.net []) (named_one names graded.net are)))
    (value_one graded.value)) (cycle_one graded.first)

-- what tells a cycle
cycle_told : (cycle : Option ℕ) → is_cycle (cycle_text cycle) ≡ true
unfolding is_digit
cycle_told None = refl
cycle_told (Some n) = ap (λ (t : Bool). t || bytes_eq (decimal n) (codes "none")) (decimal_is_number n)

-- a line tells of its fault
pub said_tells : (names : List (List ℕ)) (graded : Graded) → AreOneLine names
    → Tells (said_fault names graded) (stuck_said names graded)
said_tells names graded are = record {
  one = fault_is_one names graded are;
  is_net = printed_is_named (slice_index_or names graded.net []);
  cycle = cycle_text graded.first;
  is_cycle = cycle_told graded.first;
  is = refl;
}

faults_are : (names : List (List ℕ)) (faults : List Graded) → AreOneLine names → AreFaults (map (said_fault names) faults)
faults_are names [] are = tt
faults_are names (graded ∷ faults) are = ((stuck_said names graded, said_tells names graded are), faults_are names faults are)

-- ---- the last word

-- the last byte of a text stands in each end of it
last_in : (a z d : List ℕ) (e : ℕ) → a ++ e ∷ [] ≡ z ++ d → 0 < length d → list_any (λ b. b == e) d ≡ true
last_in a [] d e same some =
    ap (list_any (λ b. b == e)) (sym same) ∙ list_any-append (λ b. b == e) a (e ∷ [])
    ∙ by_own (list_any (λ b. b == e) a) (e == e) (eq-eqb e e refl)
  where
    by_own : (x y : Bool) → y ≡ true → (x || (y || false)) ≡ true
    by_own true y is = refl
    by_own false y is = ap (λ (t : Bool). t || false) is
last_in [] (b ∷ z) d e same some =
    let none : [] ≡ z ++ d = cc in
    absurd (omega (arith, some, ap (λ (l : List ℕ). length l) none, length-append z d))
last_in (c ∷ a) (b ∷ z) d e same some =
    let rest : a ++ e ∷ [] ≡ z ++ d = cc in last_in a z d e rest some

-- a number is no end of the word for no cycle
ends_number : (front : List ℕ) (n : ℕ) → ends_none (front ++ decimal n) ≡ false
ends_number front n =
    let line = front ++ decimal n in
    let k = length line - 5 in
    elim (cases_Bool (ends_none line)) [
      | inl y ↦
          let word : drop k line ≡ codes " none" = (bytes_eq-Decides (drop k line) (codes " none")).0 y in
          let whole : (take k line ++ codes " non") ++ 101 ∷ [] ≡ front ++ decimal n =
          append_assoc (take k line) (codes " non") (101 ∷ []) ∙ ap (λ (l : List ℕ). take k line ++ l) (sym word)
          ∙ take-append-drop k line in
          let there = last_in (take k line ++ codes " non") front (decimal n) 101 whole (decimal_some n) in
          let not_there = list_any-not (λ b. b == 101) (decimal n) (decimal_all (λ b. not (b == 101)) no_e n) in
          let wrong : true ≡ false = sym there ∙ not_there in cc
      | inr no_word ↦ no_word
    ]
  where
    no_e : (d : ℕ) → d < 10 → not (48 + d == 101) ≡ true
    no_e d small = ap not (ne_eqb (48 + d) 101 (λ e. omega (arith, e, small)))

ends_word : (front : List ℕ) → ends_none (front ++ codes " none") ≡ true
ends_word front =
    let long : length (front ++ codes " none") - 5 ≡ length front = omega (arith, length-append front (codes " none")) in
    let word : drop (length (front ++ codes " none") - 5) (front ++ codes " none") ≡ codes " none" =
    drop_at front (codes " none") (length (front ++ codes " none") - 5) (sym long) in
    (bytes_eq-Decides (drop (length (front ++ codes " none") - 5) (front ++ codes " none")) (codes " none")).1 word

-- a level and no cycle end with it
value_none : (front : List ℕ) (value : Bool) → ends_none (front ++ value_text value ++ codes "none") ≡ true
value_none front false =
    ap ends_none (append_assoc front (codes " 0 ") (codes "none") ∙ sym (append_assoc front (codes " 0") (codes " none")))
    ∙ ends_word (front ++ codes " 0")
value_none front true =
    ap ends_none (append_assoc front (codes " 1 ") (codes "none") ∙ sym (append_assoc front (codes " 1") (codes " none")))
    ∙ ends_word (front ++ codes " 1")

by_cycle : (front : List ℕ) (value : Bool) (net : ℕ) (cycle : Option ℕ)
    → not (ends_none (front ++ value_text value ++ cycle_text cycle)) ≡ is_found (record { net = net; value = value; first = cycle })
by_cycle front value net None = ap not (value_none front value)
by_cycle front value net (Some n) = ap not (ends_number (front ++ value_text value) n)

found_said : (names : List (List ℕ)) (graded : Graded) → not (ends_none (said_fault names graded)) ≡ is_found graded
found_said names graded =
    by_cycle (codes "fault " ++ printed_name (slice_index_or names graded.net [])) graded.value graded.net graded.first

found-said : (names : List (List ℕ)) (faults : List Graded) → count_by is_found faults ≡ found_in (map (said_fault names) faults)
found-said names [] = refl
found-said names (graded ∷ faults) =
    sum_by-cons (λ (g : Graded). cond {A = ℕ} (is_found g) 1 0) graded faults
    ∙ (λ i. cond {A = ℕ} (sym (found_said names graded) i) 1 0 + found-said names faults i)
    ∙ sym (sum_by-cons (λ (line : List ℕ). cond {A = ℕ} (not (ends_none line)) 1 0) (said_fault names graded) (map (said_fault names) faults))

-- ---- the whole text

lines-said : (names : List (List ℕ)) (faults : List Graded)
    → flat_map (fault_line names) faults ≡ flat_map ended (map (said_fault names) faults)
lines-said names [] = refl
lines-said names (graded ∷ faults) = ap (λ (l : List ℕ). fault_line names graded ++ l) (lines-said names faults)

-- the printed text of a grade says its lines
pub text_is_said : (names : List (List ℕ)) (grade : Grade) → AreOneLine names → IsLog (grade_text names grade) (said_by names grade)
unfolding log_text
text_is_said names grade are = record {
  are = record {
    good = and_from (is_cycle (cycle_text grade.good)) (is_one_line (codes "good " ++ cycle_text grade.good))
        (cycle_told grade.good) (one_append (codes "good ") (cycle_text grade.good) refl (cycle_one grade.good));
    faults = faults_are names grade.faults are;
  };
  is = λ i. (ended (codes "good " ++ cycle_text grade.good) ++ lines-said names grade.faults i)
      ++ (codes "faults " ++ decimal (sym (length-map grade.faults (said_fault names)) i) ++ codes " found "
      ++ decimal (found-said names grade.faults i) ++ codes "\n");
}
