-- The line of a fail, read from its end: what stands from a byte on, by what stands behind it.
use Rattle.std.proofs.Common.{◌≡◌, ℕ, ◌+◌, Bool, true, false, ◌&&◌, List, [], ◌∷◌, ◌++◌, refl, sym, ap, ◌∙◌, inl, inr}
use Rattle.std.specs.Prelude.{◌==◌, codes}
use Rattle.std.proofs.Math.Bool.{and-true}
use Rattle.std.proofs.lemmas.Bool.{cases_Bool, and_parts, eqb-true, false≢true}
use Rattle.part_lines.specs.Lines.{is_one_line}
use Rattle.log_parts.specs.Tries.{from_cycle, word_then, is_fail_line}

-- ---- the fail's word

-- a text that begins with a word is the word and what stands behind it
word_there : (word : List ℕ) (follows : List ℕ → Bool) (line : List ℕ) → word_then word follows line ≡ true
    → (rest : List ℕ) × (line ≡ word ++ rest)
word_there [] follows line e = (line, refl)
word_there (first ∷ word) follows [] e = absurd (false≢true e)
word_there (first ∷ word) follows (byte ∷ line) e =
    let parts = and_parts (byte == first) (word_then word follows line) e in
    let more = word_there word follows line parts.1 in
    (more.0, λ i. eqb-true byte first parts.0 i ∷ more.1 i)

-- a line that doesn't begin with the word is that of no fail
pub no_fail : (line : List ℕ) → ((rest : List ℕ) → line ≡ codes "fail " ++ rest → ⊥) → is_fail_line line ≡ false
no_fail line none =
    elim (cases_Bool (is_fail_line line)) [
      | inl y ↦
          let there = word_there (codes "fail ") from_cycle line
          (and_parts (word_then (codes "fail ") from_cycle line) (is_one_line line) y).0 in
          absurd (none there.0 there.1)
      | inr n ↦ n
    ]

-- one that does is what its words are
pub fail_words : (line words : List ℕ) → is_one_line line ≡ true → line ≡ codes "fail " ++ words
    → from_cycle words ≡ is_fail_line line
fail_words line words one is =
    sym (ap (λ (l : List ℕ). word_then (codes "fail ") from_cycle l && is_one_line line) is
    ∙ ap (λ (b : Bool). from_cycle words && b) one ∙ and-true (from_cycle words))
