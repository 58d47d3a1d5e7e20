-- The last word of a line is one; digits are a word; and numbers and names are printed as words of their kind.
use Rattle.std.proofs.Common.{◌≡◌, ℕ, ◌-◌, ◌==◌, Bool, true, false, not, nat_lt, ◌||◌, ◌&&◌, List, [], ◌∷◌, ◌++◌, length, drop, refl, sym, ap, ◌∙◌, inl, inr, arith, length-append, lt-ltb}
use Rattle.std.specs.Prelude.{codes, decimal}
use Rattle.std.specs.List.{list_all, list_any}
use Rattle.std.proofs.lemmas.Bool.{cond_both, cases_Bool, and_parts, eqb-true, false≢true}
use Rattle.std.proofs.lemmas.List.{drop_at}
use Rattle.std.proofs.lemmas.Slice.Eq.{bytes_eq-Decides}
use Rattle.text_bytes.specs.Bytes.{is_digit}
use Rattle.text_bytes.specs.Numbers.{are_digits}
use Rattle.text_bytes.proofs.DigitLemmas.{decimal_passes, decimal_some}
use Rattle.tester_types.specs.Printing.{is_bare, quoted, printed_name}
use Rattle.part_lines.specs.Lines.{is_feed, is_one_line}
use Rattle.part_lines.specs.Words.{ends_quoted, is_named, is_gap}

-- ---- there is one

-- a text with a blank in it has one
gap_there : (front word : List ℕ) → list_any is_gap (front ++ 32 ∷ word) ≡ true
gap_there [] word = refl
gap_there (b ∷ front) word = by_first (is_gap b) (gap_there front word)
  where
    by_first : (x : Bool) {y : Bool} → y ≡ true → (x || y) ≡ true
    by_first true e = refl
    by_first false e = e

clash : {b : Bool} → b ≡ true → b ≡ false → ⊥
clash is not_so = cc

pub no_last_word : (line front word : List ℕ) → list_any is_gap line ≡ false → line ≡ front ++ 32 ∷ word → ⊥
no_last_word line front word none is = clash (ap (list_any is_gap) is ∙ gap_there front word) none

-- the last word and what stands before it are one
pub one_last_word : (a b v w : List ℕ) → list_any is_gap v ≡ false → list_any is_gap w ≡ false → a ++ 32 ∷ v ≡ b ++ 32 ∷ w
    → (a ≡ b) × (v ≡ w)
one_last_word [] [] v w p q e = (refl, cc)
one_last_word [] (c ∷ b) v w p q e =
    let tail : v ≡ b ++ 32 ∷ w = cc in absurd (no_last_word v b w p tail)
one_last_word (c ∷ a) [] v w p q e =
    let tail : w ≡ a ++ 32 ∷ v = cc in absurd (no_last_word w a v q tail)
one_last_word (c ∷ a) (d ∷ b) v w p q e =
    let tail : a ++ 32 ∷ v ≡ b ++ 32 ∷ w = cc in
    let head : c ≡ d = cc in
    let rest = one_last_word a b v w p q tail in
    (λ i. head i ∷ rest.0 i, rest.1)

-- ---- digits

-- what holds of no digit holds nowhere in digits
digits_lack : (test : ℕ → Bool) → ((b : ℕ) → is_digit b ≡ true → test b ≡ false) → (bytes : List ℕ)
    → list_all is_digit bytes ≡ true → list_any test bytes ≡ false
digits_lack test none [] e = refl
digits_lack test none (b ∷ bytes) e =
    let parts = and_parts (is_digit b) (list_all is_digit bytes) e in
    λ i. none b parts.0 i || digits_lack test none bytes parts.1 i

-- a byte that is no digit isn't one of them
digit_not : (other : ℕ) → is_digit other ≡ false → (b : ℕ) → is_digit b ≡ true → (b == other) ≡ false
digit_not other none b e =
    elim (cases_Bool (b == other)) [
      | inl y ↦ absurd (false≢true (sym none ∙ sym (ap is_digit (eqb-true b other y)) ∙ e))
      | inr n ↦ n
    ]

-- a number's digits are all digits
all_are : (bytes : List ℕ) → are_digits bytes ≡ true → list_all is_digit bytes ≡ true
all_are bytes e = (and_parts (nat_lt 0 (length bytes)) (list_all is_digit bytes) e).1

-- they hold no blank
pub digits_no_gap : (bytes : List ℕ) → are_digits bytes ≡ true → list_any is_gap bytes ≡ false
unfolding is_digit
digits_no_gap bytes e = digits_lack is_gap (digit_not 32 refl) bytes (all_are bytes e)

-- and no line feed
pub digits_one : (bytes : List ℕ) → are_digits bytes ≡ true → is_one_line bytes ≡ true
unfolding is_digit
digits_one bytes e = ap not (digits_lack is_feed (digit_not 10 refl) bytes (all_are bytes e))

-- ---- what is printed

or_second : (x : Bool) {y : Bool} → y ≡ true → (x || y) ≡ true
or_second true e = refl
or_second false e = e

ends : (bytes : List ℕ) → ends_quoted (bytes ++ 34 ∷ []) ≡ true
ends bytes =
    let long : length (bytes ++ 34 ∷ []) - 1 ≡ length bytes = omega (arith, length-append bytes (34 ∷ [])) in
    (bytes_eq-Decides (drop (length (bytes ++ 34 ∷ []) - 1) (bytes ++ 34 ∷ [])) (codes "\"")).1
    (drop_at bytes (34 ∷ []) (length (bytes ++ 34 ∷ []) - 1) (sym long))

-- a name is printed as one
pub printed_is_named : (name : List ℕ) → is_named (printed_name name) ≡ true
printed_is_named [] = refl
printed_is_named (b ∷ bs) =
    cond_both (list_all is_bare (b ∷ bs)) (b ∷ bs) (quoted (b ∷ bs)) (λ (l : List ℕ). is_named l ≡ true)
    (λ bare. ap (λ (t : Bool). t || (b == 34 && ends_quoted bs)) bare)
    (λ _. or_second (list_all is_bare (quoted (b ∷ bs))) (ends (b ∷ bs)))

-- a number is printed in digits
pub decimal_is_number : (n : ℕ) → are_digits (decimal n) ≡ true
unfolding is_digit
decimal_is_number n =
    λ i. lt-ltb 0 (length (decimal n)) (decimal_some n) i
    && decimal_passes is_digit refl refl refl refl refl refl refl refl refl refl n i
