-- What the first line of a try and the line of a verdict say, by their last words.
use Rattle.std.proofs.Common.{◌≡◌, ℕ, Bool, true, false, List, ◌∷◌, ◌++◌, refl, sym, ap, subst, ◌∙◌, ◌⊎◌, inl, inr, append_assoc}
use Rattle.std.specs.Prelude.{◌&&◌, ◌↔◌, IsTrue, codes, decimal}
use Rattle.std.specs.List.{list_any}
use Rattle.std.specs.Str.{bytes_eq}
use Rattle.std.proofs.lemmas.Bool.{and_parts, and_from, false≢true}
use Rattle.std.proofs.lemmas.Slice.Eq.{bytes_eq-Decides}
use Rattle.text_bytes.specs.Numbers.{are_digits}
use Rattle.part_lines.specs.Lines.{is_one_line}
use Rattle.part_lines.specs.Words.{is_gap, IsLastWord}
use Rattle.part_lines.proofs.LineLemmas.{one_append, one_decimal}
use Rattle.part_lines.proofs.WordLemmas.{no_last_word, one_last_word, digits_no_gap, digits_one}
use Rattle.log_parts.specs.Tries.{IsTryLine, IsVerdictLine, passed, failed, by_plan, by_desk, lost}
use Rattle.log_parts.specs.Step.{EndsNumbered, IsByDesk, IsByPlan}

-- ---- a word and a number at the end of a line

-- the number is the last word
ends_last : (word line front : List ℕ) → (ends : EndsNumbered word line front)
    → IsLastWord line (front ++ 32 ∷ word) ends.number
ends_last word line front ends = record {
  one = digits_no_gap ends.number ends.are;
  is = ends.is ∙ sym (append_assoc front (32 ∷ word) (32 ∷ ends.number));
}

-- the last word and what stands before it are these
ends_parts : (word line front words number : List ℕ) → IsLastWord line words number
    → (ends : EndsNumbered word line front) → (words ≡ front ++ 32 ∷ word) × (number ≡ ends.number)
ends_parts word line front words number last ends =
    let other = ends_last word line front ends in
    one_last_word words (front ++ 32 ∷ word) number ends.number last.one other.one (sym last.is ∙ other.is)

-- a line without a blank doesn't end so
pub blank_ends : (word line : List ℕ) → list_any is_gap line ≡ false → (front : List ℕ) → EndsNumbered word line front → ⊥
blank_ends word line none front ends =
    no_last_word line (front ++ 32 ∷ word) ends.number none (ends_last word line front ends).is

-- nor does one whose last word isn't digits
pub number_ends : (word line words number : List ℕ) → IsLastWord line words number → are_digits number ≡ false
    → (front : List ℕ) → EndsNumbered word line front → ⊥
number_ends word line words number last none front ends =
    false≢true (sym none ∙ ap are_digits (ends_parts word line front words number last ends).1 ∙ ends.are)

-- nor one with no blank before it
pub single_ends : (word line words number : List ℕ) → IsLastWord line words number → list_any is_gap words ≡ false
    → (front : List ℕ) → EndsNumbered word line front → ⊥
single_ends word line words number last none front ends =
    no_last_word words front word none (ends_parts word line front words number last ends).0

-- nor one with another word before it
pub word_ends : (word line words number before other : List ℕ) → list_any is_gap word ≡ false
    → IsLastWord line words number → IsLastWord words before other → (other ≡ word → ⊥)
    → (front : List ℕ) → EndsNumbered word line front → ⊥
word_ends word line words number before other no_gap last inner none front ends =
    none (one_last_word before front other word inner.one no_gap
    (sym inner.is ∙ (ends_parts word line front words number last ends).0)).1

-- such a line ends so
pub ends_so : (word line words number before other : List ℕ) → IsLastWord line words number → are_digits number ≡ true
    → IsLastWord words before other → other ≡ word → EndsNumbered word line before
ends_so word line words number before other last digits inner same = record {
  number = number;
  are = digits;
  is = last.is ∙ ap (λ (w : List ℕ). w ++ 32 ∷ number) (inner.is ∙ ap (λ (l : List ℕ). before ++ 32 ∷ l) same)
      ∙ append_assoc before (32 ∷ word) (32 ∷ number);
}

-- what stands before the word is one
pub one_front : (word line a b : List ℕ) → list_any is_gap word ≡ false → EndsNumbered word line a
    → EndsNumbered word line b → a ≡ b
one_front word line a b no_gap first second =
    let last = ends_last word line a first in
    (one_last_word a b word word no_gap no_gap
    (ends_parts word line b (a ++ 32 ∷ word) first.number last second).0).0

-- what stands before the word is that of a verdict, or it isn't
pub counted : (word line front : List ℕ) → list_any is_gap word ≡ false → EndsNumbered word line front
    → IsTrue (bytes_eq front (codes "verdict")) ↔ EndsNumbered word line (codes "verdict")
counted word line front no_gap ends = (
  λ e. subst (EndsNumbered word line) ((bytes_eq-Decides front (codes "verdict")).0 e) ends,
  λ other. (bytes_eq-Decides front (codes "verdict")).1 (one_front word line front (codes "verdict") no_gap ends other),
)

-- a stop of the desk, by what stands before its word
pub desk_so : (line front : List ℕ) (b : Bool) → EndsNumbered (codes "desk") line front
    → IsTrue b ↔ EndsNumbered (codes "stopped") front (codes "verdict") → IsTrue b ↔ IsByDesk line
desk_so line front b ends both = (
  λ e. record { front = front; ends = ends; stopped = both.0 e },
  λ by. both.1 (subst (λ (f : List ℕ). EndsNumbered (codes "stopped") f (codes "verdict"))
      (one_front (codes "desk") line by.front front refl by.ends ends) by.stopped),
)

-- a stop of the plan, by what stands before its last word
pub plan_so : (line front word : List ℕ) (b : Bool) → IsLastWord line front word
    → IsTrue b ↔ EndsNumbered (codes "stopped") front (codes "verdict")
    → IsTrue (bytes_eq word (codes "plan") && b) ↔ IsByPlan line
plan_so line front word b last both = (
  λ e.
      let parts = and_parts (bytes_eq word (codes "plan")) b e in
      record {
        front = front;
        is = last.is ∙ ap (λ (w : List ℕ). front ++ 32 ∷ w) ((bytes_eq-Decides word (codes "plan")).0 parts.0);
        stopped = both.0 parts.1;
      },
  λ by.
      let same = one_last_word front by.front word (codes "plan") last.one refl (sym last.is ∙ by.is) in
      and_from (bytes_eq word (codes "plan")) b ((bytes_eq-Decides word (codes "plan")).1 same.1)
      (both.1 (subst (λ (f : List ℕ). EndsNumbered (codes "stopped") f (codes "verdict")) (sym same.0) by.stopped)),
)

-- a line with another last word is none
pub word_plan : (line front word : List ℕ) → IsLastWord line front word → bytes_eq word (codes "plan") ≡ false → IsByPlan line → ⊥
word_plan line front word last other by =
    let same = one_last_word front by.front word (codes "plan") last.one refl (sym last.is ∙ by.is) in
    false≢true (sym other ∙ (bytes_eq-Decides word (codes "plan")).1 same.1)

-- ---- the first line of a try

-- what stands before its fails
abbrev cycles_front : ℕ → List ℕ → List ℕ
cycles_front number cycles = codes "try " ++ decimal number ++ codes " cycles " ++ cycles

-- it ends so
try_fails : (number : ℕ) (line : List ℕ) → (is : IsTryLine number line)
    → EndsNumbered (codes "fails") line (cycles_front number is.cycles)
try_fails number line is = record {
  number = is.fails;
  are = is.are_fails;
  is = is.is ∙ append_assoc (cycles_front number is.cycles) (codes " fails ") is.fails;
}

-- and before it so
try_cycles : (number : ℕ) (line : List ℕ) → (is : IsTryLine number line)
    → EndsNumbered (codes "cycles") (cycles_front number is.cycles) (codes "try " ++ decimal number)
try_cycles number line is = record {
  number = is.cycles;
  are = is.are_cycles;
  is = append_assoc (codes "try " ++ decimal number) (codes " cycles ") is.cycles;
}

-- a line that doesn't end so is none
pub no_fails : (number : ℕ) (line : List ℕ) → ((front : List ℕ) → EndsNumbered (codes "fails") line front → ⊥)
    → IsTryLine number line → ⊥
no_fails number line none is = none (cycles_front number is.cycles) (try_fails number line is)

-- nor one that doesn't end so before it
pub no_cycles : (number : ℕ) (line front : List ℕ) → EndsNumbered (codes "fails") line front
    → ((head : List ℕ) → EndsNumbered (codes "cycles") front head → ⊥) → IsTryLine number line → ⊥
no_cycles number line front ends none is =
    let same = one_front (codes "fails") line (cycles_front number is.cycles) front refl (try_fails number line is) ends in
    none (codes "try " ++ decimal number)
    (subst (λ (f : List ℕ). EndsNumbered (codes "cycles") f (codes "try " ++ decimal number)) same (try_cycles number line is))

-- what stands before both is the word and the number
try_head : (number : ℕ) (line front head : List ℕ) → EndsNumbered (codes "fails") line front
    → EndsNumbered (codes "cycles") front head → IsTryLine number line → head ≡ codes "try " ++ decimal number
try_head number line front head ends inner is =
    let same = one_front (codes "fails") line (cycles_front number is.cycles) front refl (try_fails number line is) ends in
    one_front (codes "cycles") front head (codes "try " ++ decimal number) refl inner
    (subst (λ (f : List ℕ). EndsNumbered (codes "cycles") f (codes "try " ++ decimal number)) same (try_cycles number line is))

-- such a line is one
try_so : (number : ℕ) (line front head : List ℕ) → EndsNumbered (codes "fails") line front
    → EndsNumbered (codes "cycles") front head → head ≡ codes "try " ++ decimal number → IsTryLine number line
try_so number line front head ends inner is = record {
  cycles = inner.number;
  fails = ends.number;
  are_cycles = inner.are;
  are_fails = ends.are;
  is = ends.is
      ∙ ap (λ (f : List ℕ). f ++ 32 ∷ (codes "fails" ++ 32 ∷ ends.number)) (inner.is
      ∙ ap (λ (h : List ℕ). h ++ 32 ∷ (codes "cycles" ++ 32 ∷ inner.number)) is
      ∙ sym (append_assoc (codes "try " ++ decimal number) (codes " cycles ") inner.number))
      ∙ sym (append_assoc (cycles_front number inner.number) (codes " fails ") ends.number);
}

-- a line is one where what stands before both is what is shown of it
pub try_shown : (number : ℕ) (line front head shown : List ℕ) (b : Bool) → EndsNumbered (codes "fails") line front
    → EndsNumbered (codes "cycles") front head → shown ≡ codes "try " ++ decimal number → IsTrue b ↔ (head ≡ shown)
    → IsTrue b ↔ IsTryLine number line
try_shown number line front head shown b ends inner is both = (
  λ e. try_so number line front head ends inner (both.0 e ∙ is),
  λ says. both.1 (try_head number line front head ends inner says ∙ sym is),
)

-- it has no line feed
pub one_try : (number : ℕ) (line : List ℕ) → IsTryLine number line → is_one_line line ≡ true
one_try number line is =
    ap is_one_line is.is
    ∙ one_append (cycles_front number is.cycles ++ codes " fails ") is.fails
    (one_append (cycles_front number is.cycles) (codes " fails ")
    (one_append (codes "try " ++ decimal number ++ codes " cycles ") is.cycles
    (one_append (codes "try " ++ decimal number) (codes " cycles ")
    (one_append (codes "try ") (decimal number) refl (one_decimal number)) refl) (digits_one is.cycles is.are_cycles)) refl)
    (digits_one is.fails is.are_fails)

-- ---- the line of a verdict

-- a line that is none of three is that of a stop
no_verdict : (line : List ℕ) → (line ≡ codes "verdict pass" → ⊥)
    → (EndsNumbered (codes "fail") line (codes "verdict") → ⊥)
    → (EndsNumbered (codes "contact") line (codes "verdict") → ⊥) → IsVerdictLine line → IsByDesk line ⊎ IsByPlan line
no_verdict line pass fail contact (passed is) = absurd (pass is)
no_verdict line pass fail contact (failed exec are is) = absurd (fail (record { number = exec; are = are; is = is }))
no_verdict line pass fail contact (lost at are is) = absurd (contact (record { number = at; are = are; is = is }))
no_verdict line pass fail contact (by_desk batch stops are are_stops is) =
    inl (record {
      front = codes "verdict stopped " ++ batch;
      ends = record {
        number = stops;
        are = are_stops;
        is = is ∙ append_assoc (codes "verdict stopped " ++ batch) (codes " desk ") stops;
      };
      stopped = record { number = batch; are = are; is = refl };
    })
no_verdict line pass fail contact (by_plan batch are is) =
    inr (record {
      front = codes "verdict stopped " ++ batch;
      is = is;
      stopped = record { number = batch; are = are; is = refl };
    })

-- each of them is one
pub verdict_failed : (line : List ℕ) → EndsNumbered (codes "fail") line (codes "verdict") → IsVerdictLine line
verdict_failed line ends = failed ends.number ends.are ends.is

pub verdict_lost : (line : List ℕ) → EndsNumbered (codes "contact") line (codes "verdict") → IsVerdictLine line
verdict_lost line ends = lost ends.number ends.are ends.is

verdict_by_desk : (line : List ℕ) → IsByDesk line → IsVerdictLine line
verdict_by_desk line by =
    by_desk by.stopped.number by.ends.number by.stopped.are by.ends.are
    (by.ends.is ∙ ap (λ (f : List ℕ). f ++ 32 ∷ (codes "desk" ++ 32 ∷ by.ends.number)) by.stopped.is
    ∙ sym (append_assoc (codes "verdict stopped " ++ by.stopped.number) (codes " desk ") by.ends.number))

verdict_by_plan : (line : List ℕ) → IsByPlan line → IsVerdictLine line
verdict_by_plan line by =
    by_plan by.stopped.number by.stopped.are (by.is ∙ ap (λ (f : List ℕ). f ++ codes " plan") by.stopped.is)

-- that of a stop is one
pub verdict_stopped : (line : List ℕ) → IsByDesk line ⊎ IsByPlan line → IsVerdictLine line
verdict_stopped line (inl by) = verdict_by_desk line by
verdict_stopped line (inr by) = verdict_by_plan line by

-- a line that is no other verdict is one where it is that of a stop
pub stop_decides : (line : List ℕ) (b : Bool) → (line ≡ codes "verdict pass" → ⊥)
    → (EndsNumbered (codes "fail") line (codes "verdict") → ⊥)
    → (EndsNumbered (codes "contact") line (codes "verdict") → ⊥) → IsTrue b ↔ (IsByDesk line ⊎ IsByPlan line)
    → IsTrue b ↔ IsVerdictLine line
stop_decides line b pass fail contact both =
    (λ e. verdict_stopped line (both.0 e), λ verdict. both.1 (no_verdict line pass fail contact verdict))

-- it has no line feed
pub one_verdict : (line : List ℕ) → IsVerdictLine line → is_one_line line ≡ true
one_verdict line (passed is) = ap is_one_line is
one_verdict line (failed exec are is) =
    ap is_one_line is ∙ one_append (codes "verdict fail ") exec refl (digits_one exec are)
one_verdict line (lost at are is) =
    ap is_one_line is ∙ one_append (codes "verdict contact ") at refl (digits_one at are)
one_verdict line (by_plan batch are is) =
    ap is_one_line is
    ∙ one_append (codes "verdict stopped " ++ batch) (codes " plan")
    (one_append (codes "verdict stopped ") batch refl (digits_one batch are)) refl
one_verdict line (by_desk batch stops are are_stops is) =
    ap is_one_line is
    ∙ one_append (codes "verdict stopped " ++ batch ++ codes " desk ") stops
    (one_append (codes "verdict stopped " ++ batch) (codes " desk ")
    (one_append (codes "verdict stopped ") batch refl (digits_one batch are)) refl) (digits_one stops are_stops)
