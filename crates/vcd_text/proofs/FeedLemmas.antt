-- The lines of a text, by its line feeds.
use Rattle.std.proofs.Common.{◌≡◌, ℕ, ◌+◌, ◌^◌, ◌<◌, ◌%◌, ◌/◌, ◌==◌, true, false, not, List, [], ◌∷◌, ◌++◌, map, refl, ap, ◌∙◌, arith, append_assoc, rules}
use Rattle.std.specs.Prelude.{codes, decimal}
use Rattle.std.specs.List.{AllByRecursion, flat_map, list_all}
use Rattle.std.specs.Str.Parse.{AllDigits}
use Rattle.std.proofs.lemmas.Bool.{and_parts, and_from, cond-false}
use Rattle.std.proofs.lemmas.List.{append_cancel_right}
use Rattle.std.proofs.lemmas.List.Folds.{list_all-append}
use Rattle.std.proofs.lemmas.Fmt.{decimal_is_IsNumeral_wide}
use Rattle.std.proofs.lemmas.Str.Parse.{tells_digits}
use Rattle.tester_types.specs.declared.level.Drive.{Drive}
use Rattle.tester_types.specs.declared.level.Drive.TheVariants.{Down, Up, Off, Unknown}
use Rattle.text_bytes.specs.Bytes.{begins_name, begins_with, is_word}
use Rattle.vcd_text.specs.Dump.{Line, timescale, scope, named, upscope, definitions, at, change, is_plain, id_of, value_of, spelled, ended, text_of}
use Rattle.vcd_text.specs.Refusal.{lines_in, in_line}
use Rattle.vcd_text.specs.Standing.{FitsLine, has_no_feed}
use Rattle.vcd_text.proofs.SpellingLemmas.{one, two, id_case, one_line}

-- ---- a line

-- a line with its line feed is the first of what it begins
pub lines_in-line : (text rest : List ℕ) → has_no_feed text ≡ true → lines_in (text ++ 10 ∷ rest) ≡ (text ++ 10 ∷ []) ∷ lines_in rest
unfolding lines_in
lines_in-line [] rest none = refl
lines_in-line (b ∷ text) rest none =
    let parts = and_parts (not (b == 10)) (has_no_feed text) none in
    let other : (b == 10) ≡ false = search (rules, parts.0) in
    cond-false (b == 10) _ _ other ∙ ap (in_line b) (lines_in-line text rest parts.1)

-- what has no line feed has no line
pub lines_in-rest : (text : List ℕ) → has_no_feed text ≡ true → lines_in text ≡ []
unfolding lines_in
lines_in-rest [] none = refl
lines_in-rest (b ∷ text) none =
    let parts = and_parts (not (b == 10)) (has_no_feed text) none in
    let other : (b == 10) ≡ false = search (rules, parts.0) in
    cond-false (b == 10) _ _ other ∙ ap (in_line b) (lines_in-rest text parts.1)

-- ---- no line has a line feed in it

not_feed : (n : ℕ) → not ((33 + n) == 10) ≡ true
not_feed n = grind arith

id_feed : (n : ℕ) → has_no_feed (id_of n) ≡ true
id_feed n = elim (id_case n) [
  | one low is ↦ rw is (and_from _ _ (not_feed n) refl)
  | two high is ↦ rw is (and_from _ _ (not_feed (n % 94)) (and_from _ _ (not_feed (n / 94)) refl))
]

digits_feed : (digits : List ℕ) → AllDigits 10 digits → has_no_feed digits ≡ true
digits_feed [] all = refl
digits_feed (d ∷ digits) all =
    let parts = tells_digits.parts d digits all in
    and_from _ _ (search (rules, parts.0)) (digits_feed digits parts.1)

word_feed : (b : ℕ) → is_word b ≡ true → not (b == 10) ≡ true
unfolding is_word
word_feed b h = grind arith

words_feed : (text : List ℕ) → list_all is_word text ≡ true → has_no_feed text ≡ true
words_feed [] h = refl
words_feed (b ∷ text) h =
    let parts = and_parts (is_word b) (list_all is_word text) h in
    and_from _ _ (word_feed b parts.0) (words_feed text parts.1)

name_feed : (name : List ℕ) → is_plain name ≡ true → has_no_feed name ≡ true
name_feed name plain = words_feed name (and_parts (begins_with begins_name name) (list_all is_word name) plain).1

both_feed : (a b : List ℕ) → has_no_feed a ≡ true → has_no_feed b ≡ true → has_no_feed (a ++ b) ≡ true
both_feed a b ha hb = list_all-append _ a b ∙ and_from _ _ ha hb

change_feed : (n : ℕ) (drive : Drive) → has_no_feed (value_of drive ∷ id_of n) ≡ true
change_feed n Down = id_feed n
change_feed n Up = id_feed n
change_feed n Off = id_feed n
change_feed n Unknown = id_feed n

pub feed_free : (line : Line) → FitsLine line → has_no_feed (spelled line) ≡ true
feed_free timescale fits = refl
feed_free scope fits = refl
feed_free (named signal name) fits =
    both_feed (codes "$var wire 1 ") (id_of signal ++ (codes " " ++ (name ++ codes " $end"))) refl
    (both_feed (id_of signal) (codes " " ++ (name ++ codes " $end")) (id_feed signal)
    (both_feed (codes " ") (name ++ codes " $end") refl (both_feed name (codes " $end") (name_feed name fits.1) refl)))
feed_free upscope fits = refl
feed_free definitions fits = refl
feed_free (at instant) fits =
    let wide : instant < 10 ^ 64 = omega arith in
    digits_feed (decimal instant) (decimal_is_IsNumeral_wide instant wide).0.1
feed_free (change signal drive) fits = change_feed signal drive

-- ---- lines one after another

-- the lines of a text of lines, and of what is behind it
pub lines_in-text : (lines : List Line) (rest : List ℕ) → AllByRecursion FitsLine lines
    → lines_in (text_of lines ++ rest) ≡ map ended lines ++ lines_in rest
lines_in-text [] rest fits = refl
lines_in-text (line ∷ lines) rest fits =
    ap lines_in (append_assoc (ended line) (text_of lines) rest ∙ append_assoc (spelled line) (10 ∷ []) (text_of lines ++ rest))
    ∙ lines_in-line (spelled line) (text_of lines ++ rest) (feed_free line fits.0)
    ∙ ap (λ l. ended line ∷ l) (lines_in-text lines rest fits.1)

-- no two lists of lines have one text
pub one_text : (a b : List Line) → AllByRecursion FitsLine a → AllByRecursion FitsLine b → map ended a ≡ map ended b → a ≡ b
one_text [] [] fa fb same = refl
one_text [] (y ∷ b) fa fb same = absurd cc
one_text (x ∷ a) [] fa fb same = absurd cc
one_text (x ∷ a) (y ∷ b) fa fb same =
    let head : ended x ≡ ended y = cc in
    let tail : map ended a ≡ map ended b = cc in
    let first : x ≡ y = one_line x y fa.0 fb.0 (append_cancel_right (spelled x) (spelled y) (10 ∷ []) head) in
    ap (λ l. l ∷ a) first ∙ ap (λ l. y ∷ l) (one_text a b fa.1 fb.1 tail)

-- a list whose items are seen as two lists
pub record Split {X Y : Type 0} (f : X → Y) (items : List X) (front back : List Y) : Type 0 where
  pub first : List X
  pub later : List X
  pub whole : items ≡ first ++ later
  pub are : map f first ≡ front
  pub rest : map f later ≡ back

pub split : {X Y : Type 0} (f : X → Y) (items : List X) (front back : List Y) → map f items ≡ front ++ back → Split f items front back
split f items [] back same = record { first = []; later = items; whole = refl; are = refl; rest = same }
split f [] (y ∷ front) back same = absurd cc
split f (x ∷ items) (y ∷ front) back same =
    let head : f x ≡ y = cc in
    let tail : map f items ≡ front ++ back = cc in
    let s = split f items front back tail in
    record {
      first = x ∷ s.first;
      later = s.later;
      whole = ap (λ l. x ∷ l) s.whole;
      are = ap (λ z. z ∷ map f s.first) head ∙ ap (λ l. y ∷ l) s.are;
      rest = s.rest;
    }

-- the text of lines by their spellings
pub joined : (lines : List Line) → flat_map (λ line. line) (map ended lines) ≡ text_of lines
joined [] = refl
joined (line ∷ lines) = ap (λ t. ended line ++ t) (joined lines)
