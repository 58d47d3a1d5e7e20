-- What a line says of a fault is one thing, and is found from its end.
use Rattle.std.proofs.Common.{◌≡◌, ℕ, Bool, true, false, ◌||◌, List, [], ◌∷◌, ◌++◌, refl, sym, ap, ◌∙◌, inl, inr, append_assoc}
use Rattle.std.specs.Prelude.{codes}
use Rattle.std.specs.List.{list_any}
use Rattle.std.specs.Str.{bytes_eq}
use Rattle.std.proofs.lemmas.Bool.{cases_Bool, false≢true}
use Rattle.std.proofs.lemmas.List.{append_cancel_left}
use Rattle.std.proofs.lemmas.Slice.Eq.{bytes_eq-Decides}
use Rattle.text_bytes.specs.Numbers.{are_digits}
use Rattle.part_lines.specs.Lines.{is_one_line}
use Rattle.part_lines.specs.Words.{is_named, is_gap, IsLastWord}
use Rattle.part_lines.proofs.LineLemmas.{line_parts, line_more}
use Rattle.part_lines.proofs.WordLemmas.{no_last_word, one_last_word, digits_no_gap}
use Rattle.grade_listing.specs.GradeText.{value_text}
use Rattle.grade_parts.specs.Log.{is_cycle, Stuck, Tells}
use Rattle.grade_parts.specs.Step.{level_digit, stuck_of}

-- ---- words without blanks

-- what tells a cycle has none
cycle_no_gap : (bytes : List ℕ) → is_cycle bytes ≡ true → list_any is_gap bytes ≡ false
cycle_no_gap bytes e =
    elim (cases_Bool (are_digits bytes)) [
      | inl y ↦ digits_no_gap bytes y
      | inr n ↦
          let word : bytes ≡ codes "none" = (bytes_eq-Decides bytes (codes "none")).0 (sym (ap (λ (x : Bool). x || bytes_eq bytes (codes "none")) n) ∙ e) in
          ap (list_any is_gap) word
    ]

level_no_gap : (value : Bool) → list_any is_gap (level_digit value) ≡ false
level_no_gap true = refl
level_no_gap false = refl

-- ---- a line by its last words

value-digit : (front cycle : List ℕ) (value : Bool)
    → front ++ value_text value ++ cycle ≡ (front ++ 32 ∷ level_digit value) ++ 32 ∷ cycle
value-digit front cycle true =
    append_assoc front (codes " 1 ") cycle ∙ sym (append_assoc front (codes " 1") (32 ∷ cycle))
value-digit front cycle false =
    append_assoc front (codes " 0 ") cycle ∙ sym (append_assoc front (codes " 0") (32 ∷ cycle))

-- the front of the line, the level and the cycle are these
pub told_parts : (line : List ℕ) (stuck : Stuck) (front word : List ℕ) → Tells line stuck → IsLastWord line front word
    → (is_cycle word ≡ true) × IsLastWord front (codes "fault " ++ stuck.net) (level_digit stuck.value)
told_parts line stuck front word tells last =
    let e = sym last.is ∙ tells.is ∙ value-digit (codes "fault " ++ stuck.net) tells.cycle stuck.value in
    let both = one_last_word front ((codes "fault " ++ stuck.net) ++ 32 ∷ level_digit stuck.value) word tells.cycle last.one
    (cycle_no_gap tells.cycle tells.is_cycle) e in
    (ap is_cycle both.1 ∙ tells.is_cycle, record { one = level_no_gap stuck.value; is = both.0 })

-- a line whose last word is no cycle
pub told_cycle : (line front word : List ℕ) → IsLastWord line front word → is_cycle word ≡ false → (stuck : Stuck)
    → Tells line stuck → ⊥
told_cycle line front word last none stuck tells =
    let wrong : false ≡ true = sym none ∙ (told_parts line stuck front word tells last).0 in cc

-- one whose front has no blank
pub told_front : (line front word : List ℕ) → IsLastWord line front word → list_any is_gap front ≡ false → (stuck : Stuck)
    → Tells line stuck → ⊥
told_front line front word last none stuck tells =
    let parts = told_parts line stuck front word tells last in
    no_last_word front (codes "fault " ++ stuck.net) (level_digit stuck.value) none parts.1.is

-- what stands before the level is the front, and the level is this
pub told_both : (line front word before level : List ℕ) (stuck : Stuck) → IsLastWord line front word
    → IsLastWord front before level → Tells line stuck
    → (before ≡ codes "fault " ++ stuck.net) × (level ≡ level_digit stuck.value)
told_both line front word before level stuck last inner tells =
    let parts = told_parts line stuck front word tells last in
    one_last_word before (codes "fault " ++ stuck.net) level (level_digit stuck.value) inner.one parts.1.one
    (sym inner.is ∙ parts.1.is)

-- one whose level is none
pub told_level : (line front word before level : List ℕ) → IsLastWord line front word → IsLastWord front before level
    → ((value : Bool) → level ≡ level_digit value → ⊥) → (stuck : Stuck) → Tells line stuck → ⊥
told_level line front word before level last inner none stuck tells =
    none stuck.value (told_both line front word before level stuck last inner tells).1

-- one that doesn't begin as that of a fault
pub told_fault : (line front word before level : List ℕ) → IsLastWord line front word → IsLastWord front before level
    → ((net : List ℕ) → before ≡ codes "fault " ++ net → ⊥) → (stuck : Stuck) → Tells line stuck → ⊥
told_fault line front word before level last inner none stuck tells =
    none stuck.net (told_both line front word before level stuck last inner tells).0

-- one whose net is no name
pub told_name : (line front word before level net : List ℕ) → IsLastWord line front word → IsLastWord front before level
    → before ≡ codes "fault " ++ net → is_named net ≡ false → (stuck : Stuck) → Tells line stuck → ⊥
told_name line front word before level net last inner is none stuck tells =
    let both = told_both line front word before level stuck last inner tells in
    let same : net ≡ stuck.net = append_cancel_left (codes "fault ") net stuck.net (sym is ∙ both.0) in
    let wrong : false ≡ true = sym none ∙ ap is_named same ∙ tells.is_net in cc

-- such a line tells of that net
pub tells_so : (line front word before level net : List ℕ) (value : Bool) → is_one_line line ≡ true
    → IsLastWord line front word → is_cycle word ≡ true → IsLastWord front before level → level ≡ level_digit value
    → before ≡ codes "fault " ++ net → is_named net ≡ true → Tells line (stuck_of net value)
tells_so line front word before level net value one last cycle inner is at named = record {
  one = one;
  is_net = named;
  cycle = word;
  is_cycle = cycle;
  is = last.is
      ∙ (λ i. (inner.is ∙ (λ j. at j ++ 32 ∷ is j)) i ++ 32 ∷ word)
      ∙ sym (value-digit (codes "fault " ++ net) word value);
}

same_level : (x y : Bool) → level_digit x ≡ level_digit y → x ≡ y
same_level true true e = refl
same_level false false e = refl
same_level true false e = absurd (false≢true (sym (ap (λ (l : List ℕ). bytes_eq l (codes "1")) e)))
same_level false true e = absurd (false≢true (ap (λ (l : List ℕ). bytes_eq l (codes "1")) e))

-- a line tells of one fault
pub one_told : (line : List ℕ) (a b : Stuck) → Tells line a → Tells line b → a ≡ b
one_told line a b tells told =
    let last : IsLastWord line ((codes "fault " ++ b.net) ++ 32 ∷ level_digit b.value) told.cycle = record {
      one = cycle_no_gap told.cycle told.is_cycle;
      is = told.is ∙ value-digit (codes "fault " ++ b.net) told.cycle b.value;
    } in
    let inner : IsLastWord ((codes "fault " ++ b.net) ++ 32 ∷ level_digit b.value) (codes "fault " ++ b.net) (level_digit b.value)
    = record { one = level_no_gap b.value; is = refl } in
    let both = told_both line _ told.cycle (codes "fault " ++ b.net) (level_digit b.value) a last inner tells in
    let net : a.net ≡ b.net = sym (append_cancel_left (codes "fault ") b.net a.net both.0) in
    let value : a.value ≡ b.value = same_level a.value b.value (sym both.1) in
    λ i. record { net = net i; value = value i }

-- the net of such a line is one line
pub net_one : (line : List ℕ) (stuck : Stuck) → Tells line stuck → is_one_line stuck.net ≡ true
net_one line stuck tells =
    one_back (codes "fault ") stuck.net (one_front (codes "fault " ++ stuck.net) (value_text stuck.value)
    (one_front (codes "fault " ++ stuck.net ++ value_text stuck.value) tells.cycle (ap is_one_line (sym tells.is) ∙ tells.one)))
  where
    one_front : (a b : List ℕ) → is_one_line (a ++ b) ≡ true → is_one_line a ≡ true
    one_front [] b one = refl
    one_front (x ∷ a) b one = let parts = line_parts x (a ++ b) one in line_more x a parts.0 (one_front a b parts.1)

    one_back : (a b : List ℕ) → is_one_line (a ++ b) ≡ true → is_one_line b ≡ true
    one_back [] b one = one
    one_back (x ∷ a) b one = one_back a b (line_parts x (a ++ b) one).1
