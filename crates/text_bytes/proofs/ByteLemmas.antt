-- How the classes of bytes stand to one another.
use Rattle.std.proofs.Common.{◌≡◌, ℕ, zero, suc, ◌<◌, true, false, ◌||◌, List, [], ◌∷◌, ◌++◌, refl, sym, subst, inl, inr, arith}
use Rattle.std.specs.Prelude.{◌==◌, slice_index}
use Rattle.std.specs.List.{list_all}
use Rattle.std.specs.Str.{IsUtf8}
use Rattle.std.proofs.lemmas.Str.{IsUtf8-from_ascii}
use Rattle.std.proofs.lemmas.Bool.{eqb-true, or_cases, and_parts}
use Rattle.std.proofs.lemmas.Bool.Decides.{nat_tests}
use Rattle.text_bytes.specs.Bytes.{is_blank, is_digit, begins_name, is_word, is_character, is_printing, begins_with}

-- a blank is one of five bytes
pub in_blanks : (P : ℕ → Type 0) → P 32 → P 9 → P 10 → P 12 → P 13 → (b : ℕ) → is_blank b ≡ true → P b
unfolding is_blank
in_blanks P space tab feed form back b h =
    elim (or_cases (b == 0x20 || b == 0x09 || b == 0x0A || b == 0x0C) (b == 0x0D) h) [
      | inr e ↦ subst P (sym (eqb-true b 13 e)) back
      | inl h4 ↦
          elim (or_cases (b == 0x20 || b == 0x09 || b == 0x0A) (b == 0x0C) h4) [
            | inr e ↦ subst P (sym (eqb-true b 12 e)) form
            | inl h3 ↦
                elim (or_cases (b == 0x20 || b == 0x09) (b == 0x0A) h3) [
                  | inr e ↦ subst P (sym (eqb-true b 10 e)) feed
                  | inl h2 ↦
                      elim (or_cases (b == 0x20) (b == 0x09) h2) [
                        | inr e ↦ subst P (sym (eqb-true b 9 e)) tab
                        | inl e ↦ subst P (sym (eqb-true b 32 e)) space
                      ]
                ]
          ]
    ]

-- no blank is part of a word
pub is_word-blank : (b : ℕ) → is_blank b ≡ true → is_word b ≡ false
unfolding is_word
is_word-blank b h = in_blanks (λ c. is_word c ≡ false) refl refl refl refl refl b h

-- no blank prints
pub is_printing-blank : (b : ℕ) → is_blank b ≡ true → is_printing b ≡ false
unfolding is_printing
is_printing-blank b h = in_blanks (λ c. is_printing c ≡ false) refl refl refl refl refl b h

-- what is part of a word prints
pub is_printing-word : (b : ℕ) → is_word b ≡ true → is_printing b ≡ true
unfolding is_printing is_word
is_printing-word b h = grind (arith, nat_tests)

-- a digit is part of a word
pub is_digit-word : (b : ℕ) → is_word b ≡ false → is_digit b ≡ false
unfolding is_digit is_word
is_digit-word b h = grind (arith, nat_tests)

-- the same, forwards
pub is_word-begins_name : (b : ℕ) → begins_name b ≡ true → is_word b ≡ true
unfolding begins_name is_word
is_word-begins_name b h = grind (arith, nat_tests)

-- no digit begins a name
pub is_digit-begins_name : (b : ℕ) → begins_name b ≡ true → is_digit b ≡ false
unfolding begins_name is_digit
is_digit-begins_name b h = grind (arith, nat_tests)

-- blanks and what stands behind them go on with no word, where that doesn't
pub blanks_no_word : (blanks rest : List ℕ) → list_all is_blank blanks ≡ true → begins_with is_word rest ≡ false
    → begins_with is_word (blanks ++ rest) ≡ false
blanks_no_word [] rest each h = h
blanks_no_word (b ∷ blanks) rest each h = is_word-blank b (and_parts (is_blank b) (list_all is_blank blanks) each).0

-- a waveform character is in ASCII
pub is_character-ascii : (b : ℕ) → is_character b ≡ true → b < 128
unfolding is_character
is_character-ascii b h = grind (arith, nat_tests)

-- what prints is in ASCII
pub is_printing-ascii : (b : ℕ) → is_printing b ≡ true → b < 128
unfolding is_printing
is_printing-ascii b h = grind (arith, nat_tests)

-- bytes that print are a text
pub IsUtf8-printing : (bytes : List ℕ) → list_all is_printing bytes ≡ true → IsUtf8 bytes
IsUtf8-printing bytes each = IsUtf8-from_ascii bytes (by bytes each)
  where
    by : (bytes : List ℕ) → list_all is_printing bytes ≡ true → (i : ℕ) → slice_index bytes i < 128
    by [] each i = omega arith
    by (b ∷ bytes) each zero = is_printing-ascii b (and_parts (is_printing b) (list_all is_printing bytes) each).0
    by (b ∷ bytes) each (suc i) = by bytes (and_parts (is_printing b) (list_all is_printing bytes) each).1 i
