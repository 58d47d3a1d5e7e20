-- Lines of a text: how they are read, and how many there are.
use Rattle.std.proofs.Common.{◌≡◌, ℕ, ◌+◌, ◌<◌, ◌≤◌, Bool, true, false, not, ◌||◌, List, [], ◌∷◌, ◌++◌, length, refl, sym, ap, subst, ◌∙◌, ◌⊎◌, inl, inr, arith, append_assoc, length-append, cond}
use Rattle.std.proofs.lemmas.Bool.{cases_Bool, cond_both, ne_eqb, or_parts, not-true, not_from_false, eqb-true, false≢true}
use Rattle.std.proofs.lemmas.List.Folds.{list_any-append}
use Rattle.std.proofs.lemmas.List.Sums.{sum_by-cons, sum_by-append}
use Rattle.std.specs.Prelude.{decimal}
use Rattle.std.specs.List.{flat_map, list_all, list_any}
use Rattle.text_bytes.specs.Texts.{AreLines}
use Rattle.text_bytes.proofs.Spans.{list_any-not}
use Rattle.text_bytes.proofs.DigitLemmas.{decimal_all}
use Rattle.text_bytes.proofs.TextLemmas.{lines_behind}
use Rattle.tester_types.specs.Printing.{is_bare, quoted, printed_name}
use Rattle.part_lines.specs.Lines.{is_feed, is_one_line, ended, lines_in}
use Rattle.part_lines.specs.Reading.{IsNext}

-- ---- bytes and lines

-- a byte of a line is no line feed, and the rest is one line
pub line_parts : (b : ℕ) (line : List ℕ) → is_one_line (b ∷ line) ≡ true → (is_feed b ≡ false) × (is_one_line line ≡ true)
line_parts b line one =
    let parts = or_parts (is_feed b) (list_any is_feed line) (not-true _ one) in
    (parts.0, not_from_false _ parts.1)

-- a byte that is no line feed, before a line
pub line_more : (b : ℕ) (line : List ℕ) → is_feed b ≡ false → is_one_line line ≡ true → is_one_line (b ∷ line) ≡ true
line_more b line not_feed one = ap (λ t. not (t || list_any is_feed line)) not_feed ∙ one

-- the same bytes behind the same byte
pub same_tail : (b c : ℕ) (x y : List ℕ) → b ∷ x ≡ c ∷ y → x ≡ y
same_tail b c x y e = cc

-- the same first byte
pub same_head : (b c : ℕ) (x y : List ℕ) → b ∷ x ≡ c ∷ y → b ≡ c
same_head b c x y e = cc

-- a byte that is no line feed isn't 10
not_ten : (b : ℕ) → is_feed b ≡ false → 10 ≡ b → ⊥
not_ten b not_feed is = false≢true (sym not_feed ∙ ap is_feed (sym is))

-- a text is read in one way as a line and what stands behind it
pub one_reading : (a b x y : List ℕ) → is_one_line a ≡ true → is_one_line b ≡ true → ended a ++ x ≡ ended b ++ y →
    (a ≡ b) × (x ≡ y)
one_reading [] [] x y p q e = (refl, same_tail 10 10 x y e)
one_reading [] (c ∷ b) x y p q e =
    absurd (not_ten c (line_parts c b q).0 (same_head 10 c x (ended b ++ y) e))
one_reading (c ∷ a) [] x y p q e =
    absurd (not_ten c (line_parts c a p).0 (sym (same_head c 10 (ended a ++ x) y e)))
one_reading (c ∷ a) (d ∷ b) x y p q e =
    let rest = one_reading a b x y (line_parts c a p).1 (line_parts d b q).1
    (same_tail c d (ended a ++ x) (ended b ++ y) e) in
    (ap (λ t. c ∷ t) rest.0 ∙ ap (λ h. h ∷ b) (same_head c d (ended a ++ x) (ended b ++ y) e), rest.1)

-- a text that begins with a line that ends isn't one line
pub ended_is_more : (line later : List ℕ) → is_one_line (ended line ++ later) ≡ true → ⊥
ended_is_more [] later one = false≢true one
ended_is_more (b ∷ line) later one = ended_is_more line later (line_parts b (ended line ++ later) one).1

-- nor is it empty
pub ended_not_empty : (line later : List ℕ) → ended line ++ later ≡ [] → ⊥
ended_not_empty [] later e = cc
ended_not_empty (b ∷ line) later e = cc

-- a text in which a line feed stands begins with a line
pub begins_with_line : (front back : List ℕ) → (line : List ℕ) × IsNext (front ++ 10 ∷ back) line
begins_with_line [] back = ([], record { one = refl; later = back; is = refl })
begins_with_line (b ∷ front) back =
    let more = begins_with_line front back in
    elim (cases_Bool (is_feed b)) [
      | inl feed ↦ ([], record { one = refl; later = front ++ 10 ∷ back; is = ap (λ h. h ∷ (front ++ 10 ∷ back)) (eqb-true b 10 feed) })
      | inr other ↦ (b ∷ more.0, record { one = line_more b more.0 other more.1.one; later = more.1.later; is = ap (λ t. b ∷ t) more.1.is })
    ]

-- a text that is one line, or that begins with one
pub one_or_next : (text : List ℕ) → (is_one_line text ≡ true) ⊎ ((line : List ℕ) × IsNext text line)
one_or_next [] = inl refl
one_or_next (b ∷ text) =
    elim (cases_Bool (is_feed b)) [
      | inl feed ↦ inr ([], record { one = refl; later = text; is = ap (λ h. h ∷ text) (eqb-true b 10 feed) })
      | inr other ↦ elim (one_or_next text) [
        | inl one ↦ inl (line_more b text other one)
        | inr more ↦ inr (b ∷ more.0, record { one = line_more b more.0 other more.1.one; later = more.1.later; is = ap (λ t. b ∷ t) more.1.is })
      ]
    ]

-- ---- what stands in one line

-- two texts
pub one_append : (a b : List ℕ) → is_one_line a ≡ true → is_one_line b ≡ true → is_one_line (a ++ b) ≡ true
one_append a b one other =
    ap not (list_any-append is_feed a b ∙ ap (λ (x : Bool). x || list_any is_feed b) (not-true _ one) ∙ not-true _ other)

-- the digits of a number
pub one_decimal : (n : ℕ) → is_one_line (decimal n) ≡ true
one_decimal n = ap not (list_any-not is_feed (decimal n) (decimal_all (λ b. not (is_feed b)) no_feed n))
  where
    no_feed : (d : ℕ) → d < 10 → not (is_feed (48 + d)) ≡ true
    no_feed d small = ap not (ne_eqb (48 + d) 10 (λ e. omega (arith, e)))

-- a name as it is printed
pub one_printed : (name : List ℕ) → is_one_line name ≡ true → is_one_line (printed_name name) ≡ true
one_printed [] one = refl
one_printed (b ∷ bs) one =
    cond_both (list_all is_bare (b ∷ bs)) (b ∷ bs) (quoted (b ∷ bs)) (λ (l : List ℕ). is_one_line l ≡ true) (λ _. one)
    (λ _. one_append (34 ∷ []) ((b ∷ bs) ++ 34 ∷ []) refl (one_append (b ∷ bs) (34 ∷ []) one refl))

-- ---- how many lines there are

-- lines of two texts
pub lines_in-append : (a b : List ℕ) → lines_in (a ++ b) ≡ lines_in a + lines_in b
lines_in-append a b = sum_by-append (λ x. cond {A = ℕ} (is_feed x) 1 0) a b

-- no line ends in one
pub lines_in-one : (line : List ℕ) → is_one_line line ≡ true → lines_in line ≡ 0
lines_in-one [] one = refl
lines_in-one (b ∷ line) one =
    let parts = line_parts b line one in
    sum_by-cons (λ x. cond {A = ℕ} (is_feed x) 1 0) b line
    ∙ ap (λ t. cond {A = ℕ} t 1 0 + lines_in line) parts.0
    ∙ omega (arith, lines_in-one line parts.1)

-- one line more
pub lines_in-more : (front line : List ℕ) → is_one_line line ≡ true → lines_in (front ++ ended line) ≡ lines_in front + 1
lines_in-more front line one =
    let whole = lines_in-append front (ended line) in
    let last = lines_in-append line (10 ∷ []) in
    let none = lines_in-one line one in
    omega arith

-- ---- whole lines

-- no bytes are whole lines
pub no_lines : AreLines []
no_lines = inl refl

-- one line more
pub lines_more : (front line : List ℕ) → AreLines (front ++ ended line)
lines_more front line = inr (front ++ line, sym (append_assoc front line (10 ∷ [])))

-- lines that are ended, one after another
pub lines_ended : (lines : List (List ℕ)) → AreLines (flat_map ended lines)
lines_ended [] = no_lines
lines_ended (line ∷ lines) = lines_behind (ended line) (flat_map ended lines) (lines_more [] line) (lines_ended lines)

-- of two ways to cut a text, one goes further
pub cut_further : (a x b y : List ℕ) → a ++ x ≡ b ++ y → length a ≤ length b → (more : List ℕ) × (b ≡ a ++ more) × (x ≡ more ++ y)
cut_further [] x b y e short = (b, refl, e)
cut_further (c ∷ a) x [] y e short = absurd (omega arith)
cut_further (c ∷ a) x (d ∷ b) y e short =
    let rest = cut_further a x b y (same_tail c d (a ++ x) (b ++ y) e) (omega arith) in
    (rest.0, ap (λ h. h ∷ b) (sym (same_head c d (a ++ x) (b ++ y) e)) ∙ ap (λ t. c ∷ t) rest.1, rest.2)

-- bytes that end whole lines begin with a line
pub end_begins : (front more : List ℕ) → 0 < length more → AreLines (front ++ more) → (line : List ℕ) × IsNext more line
end_begins front more some (inl none) =
    absurd (let len = length-append front more in let zero = ap length none in omega arith)
end_begins front more some (inr (before, is)) =
    let len = length-append front more in
    let size = length-append before (10 ∷ []) in
    let same = ap length is in
    let cut = cut_further front more before (10 ∷ []) is (omega arith) in
    subst (λ (text : List ℕ). (line : List ℕ) × IsNext text line) (sym cut.2) (begins_with_line cut.0 [])
