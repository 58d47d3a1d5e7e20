-- How the next line is found, and passed.
use Rattle.std.proofs.Common.{◌≡◌, ℕ, ◌+◌, ◌<◌, ◌≤◌, true, false, not, List, [], ◌∷◌, ◌++◌, length, take, drop, Some, None, sym, ap, subst, ◌∙◌, inl, inr, arith, append_assoc, length-append}
use Rattle.std.proofs.lemmas.Bool.{not_from_false, not-false, eqb-true, ltb-true, ltb-false}
use Rattle.std.proofs.lemmas.List.{append-nil, take_at, drop_at, take-append-drop, length-take-le}
use Rattle.std.specs.Prelude.{nat_lt}
use Rattle.std.specs.List.{list_all, position, position_or_len}
use Rattle.text_bytes.specs.Bytes.{begins_with}
use Rattle.text_bytes.specs.Texts.{AreLines}
use Rattle.text_bytes.proofs.BoolLemmas.{chosen}
use Rattle.text_bytes.proofs.Spans.{span, list_any-not}
use Rattle.part_lines.specs.Lines.{is_feed, is_one_line, ended, lines_in}
use Rattle.part_lines.specs.Reading.{Reading, IsNext}
use Rattle.part_lines.proofs.LineLemmas.{lines_more, lines_in-more}

-- what stands before the first line feed is the next line
next_by : (text front back : List ℕ) → text ≡ front ++ back → list_all (λ b. not (is_feed b)) front ≡ true →
    begins_with (λ b. not (is_feed b)) back ≡ false → length front < length text → IsNext text front
next_by text front [] spelled each stops fits =
    absurd (let size = ap length spelled in let sum = length-append front [] in omega arith)
next_by text front (b ∷ later) spelled each stops fits = record {
  one = not_from_false _ (list_any-not is_feed front each);
  later = later;
  is = spelled ∙ ap (λ h. front ++ h ∷ later) (eqb-true b 10 (not-false (is_feed b) stops)) ∙ sym (append_assoc front (10 ∷ []) later);
}

-- where no line feed stands, the text is one line
one_by : (text front back : List ℕ) → text ≡ front ++ back → list_all (λ b. not (is_feed b)) front ≡ true →
    length text ≤ length front → is_one_line text ≡ true
one_by text front [] spelled each long =
    ap is_one_line (spelled ∙ append-nil front) ∙ not_from_false _ (list_any-not is_feed front each)
one_by text front (b ∷ later) spelled each long =
    absurd (let size = ap length spelled in let sum = length-append front (b ∷ later) in omega arith)

-- the first line feed ends the next line
pub next_found : (text : List ℕ) (n : ℕ) → position is_feed text ≡ Some n → IsNext text (take n text)
next_found text n e =
    let s = span (λ b. not (is_feed b)) text in
    elim (chosen (nat_lt (position_or_len is_feed text) (length text)) (Some (position_or_len is_feed text)) None (Some n) e) [
      | inl (below, is) ↦
          let same : position_or_len is_feed text ≡ n = cc in
          let fits : position_or_len is_feed text < length text = ltb-true _ _ below in
          let next : IsNext text s.front =
          next_by text s.front s.back s.spelled s.each s.stops (let len = s.len in omega arith) in
          subst (λ (line : List ℕ). IsNext text line) (sym s.front_is ∙ ap (λ k. take k text) same) next
      | inr (above, is) ↦ absurd cc
    ]

-- where there is none, what is left is one line
pub none_found : (text : List ℕ) → position is_feed text ≡ None → is_one_line text ≡ true
none_found text e =
    let s = span (λ b. not (is_feed b)) text in
    elim (chosen (nat_lt (position_or_len is_feed text) (length text)) (Some (position_or_len is_feed text)) None None e) [
      | inl (below, is) ↦ absurd cc
      | inr (above, is) ↦
          let long : length text ≤ position_or_len is_feed text = ltb-false _ _ above in
          one_by text s.front s.back s.spelled s.each (let len = s.len in omega arith)
    ]

-- what passing a line leaves
pub record Passes (text line : List ℕ) (at to : ℕ) : Type 0 where
  pub within : to ≤ length text
  pub front : take to text ≡ take at text ++ ended line
  pub rest : drop at text ≡ ended line ++ drop to text
  pub lines : AreLines (take to text)
  pub number : lines_in (take to text) ≡ lines_in (take at text) + 1

-- the next line is passed
pub passes : (text line : List ℕ) (at to : ℕ) → at ≤ length text → to ≡ at + (length line + 1) → IsNext (drop at text) line →
    Passes text line at to
passes text line at to fits is next =
    let front = take at text in
    let begun = front ++ ended line in
    let size : length front ≡ at = length-take-le at text fits in
    let whole : text ≡ begun ++ next.later =
    sym (take-append-drop at text) ∙ ap (λ t. front ++ t) next.is ∙ sym (append_assoc front (ended line) next.later) in
    let len : length begun ≡ to =
    let outer = length-append front (ended line) in let inner = length-append line (10 ∷ []) in omega arith in
    let taken : take to text ≡ begun = ap (take to) whole ∙ take_at begun next.later to len in
    let left : drop to text ≡ next.later = ap (drop to) whole ∙ drop_at begun next.later to len in
    record {
      within = let total = ap length whole in let sum = length-append begun next.later in omega arith;
      front = taken;
      rest = next.is ∙ ap (λ t. ended line ++ t) (sym left);
      lines = subst AreLines (sym taken) (lines_more front line);
      number = ap lines_in taken ∙ lines_in-more front line next.one;
    }

-- the same, of a reading that is seen so
pub passes_from : (text line : List ℕ) (at to : ℕ) (seen : Reading) → record { front = take at text; rest = drop at text } ≡ seen →
    at ≤ length text → to ≡ at + (length line + 1) → IsNext seen.rest line → Passes text line at to
passes_from text line at to seen view fits is next =
    passes text line at to fits is (subst (λ (s : Reading). IsNext s.rest line) (sym view) next)
