-- The first line of a text, as it is cut off, and as it is found.
use Rattle.std.proofs.Common.{◌≡◌, ℕ, ◌+◌, true, List, [], ◌∷◌, ◌++◌, length, drop, refl, sym, ap, ◌∙◌, inl, inr, arith, length-append}
use Rattle.std.specs.Prelude.{Option, Some, None, IfSome, IfNone, MatchOption, codes}
use Rattle.std.proofs.lemmas.List.{drop_at}
use denote.Ref.{Bor}
use Rattle.part_lines.specs.Lines.{is_one_line, ended, lines_in}
use Rattle.part_lines.specs.Reading.{IsNext}
use Rattle.part_lines.proofs.LineLemmas.{one_reading, one_or_next, lines_in-append, lines_in-more}
use Rattle.grade_parts.specs.Step.{IsFirst}

-- ---- how it is cut off

-- the line that ends first
pub next_first : (text line : List ℕ) → IsNext text line → IsFirst text line
next_first text line next =
    let long : length text ≡ length line + 1 + length next.later =
    ap (λ (l : List ℕ). length l) next.is ∙ length-append (ended line) next.later
    ∙ ap (λ (n : ℕ). n + length next.later) (length-append line (codes "\n")) in
    let rest : drop (length line + 1) text ≡ next.later =
    ap (drop (length line + 1)) next.is ∙ drop_at (ended line) next.later (length line + 1) (length-append line (codes "\n")) in
    record {
      one = next.one;
      fits = omega (arith, long);
      whole = next.is ∙ ap (λ (l : List ℕ). ended line ++ l) (sym rest);
    }

-- where it was looked for
pub first_found : (text : List ℕ) (r : Option (Bor (List ℕ))) → IfSome r (λ line. IsNext text line.now)
    → IfNone r (is_one_line text ≡ true) → MatchOption r (is_one_line text ≡ true) (λ line. IsFirst text line.now)
first_found text (Some line) found none = next_first text line.now found
first_found text None found none = none

-- it is one
pub one_first : (text a b later : List ℕ) → IsFirst text a → is_one_line b ≡ true → text ≡ ended b ++ later → b ≡ a
one_first text a b later first one e =
    (one_reading b a later (drop (length a + 1) text) one first.one (sym e ∙ first.whole)).0

-- the lines of a line, and of what stands behind it
pub count-line : (line rest : List ℕ) → is_one_line line ≡ true → lines_in (ended line ++ rest) ≡ lines_in rest + 1
count-line line rest one = omega (arith, lines_in-append (ended line) rest, lines_in-more [] line one)

-- ---- how it is found

-- a text is empty, or no line feed is in it, or it begins with a line
pub data Opening (text : List ℕ) : Type 0 where
  empty : text ≡ [] → Opening text
  open_end : (byte : ℕ) (later : List ℕ) → text ≡ byte ∷ later → is_one_line text ≡ true → Opening text
  begins : (line later : List ℕ) → text ≡ ended line ++ later → is_one_line line ≡ true → Opening text

no_line : (text : List ℕ) → is_one_line text ≡ true → Opening text
no_line [] one = empty refl
no_line (byte ∷ later) one = open_end byte later refl one

pub opening_of : (text : List ℕ) → Opening text
opening_of text =
    elim (one_or_next text) [
      | inl one ↦ no_line text one
      | inr w ↦ begins w.0 w.1.later w.1.is w.1.one
    ]
