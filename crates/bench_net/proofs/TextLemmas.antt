-- No text is read in two ways: its lines are fixed, and so is what each says.
use Rattle.std.proofs.Common.{◌≡◌, ℕ, zero, suc, ◌+◌, ◌<◌, ◌≤◌, Bool, true, false, cond, List, [], ◌∷◌, ◌++◌, length, get_or, take, drop, Some, None, refl, sym, ap, ◌∙◌, subst, arith, inl, inr, eqb, append_assoc, length-append}
use Rattle.std.specs.List.{position, position_or_len, slice_split, AllZip}
use Rattle.std.specs.Str.Lines.{lines, lines_of_parts, strip_carriage_return}
use Rattle.std.proofs.lemmas.List.{append-nil, get_or_at}
use Rattle.std.proofs.lemmas.List.Splits.{slice_split_first, slice_split_none, length-slice_split}
use Rattle.std.proofs.lemmas.List.Quantifiers.{position-Some}
use Rattle.std.proofs.lemmas.List.Sums.{fails_before_first}
use Rattle.std.proofs.lemmas.List.Elements.{All-from_get_or}
use Rattle.std.proofs.lemmas.Bool.{cases_lt, cases_order, lt-ltb, ne_eqb}
use Rattle.bench_net.specs.Line.{Form, Says}
use Rattle.bench_net.specs.Net.{Reads}
use Rattle.bench_net.specs.Fault.{IsFirstBadLine}
use Rattle.bench_net.proofs.FormLemmas.{one_form}

-- the first of several lines
pub lines_first : (x : List ℕ) (parts : List (List ℕ)) → 0 < length parts → lines_of_parts (x ∷ parts)
    ≡ strip_carriage_return x ∷ lines_of_parts parts
lines_first x [] h = absurd (omega arith)
lines_first x (y ∷ ys) h = refl

position_is : (p : ℕ → Bool) (xs : List ℕ) (i : ℕ) → position p xs ≡ Some i
    → (position_or_len p xs ≡ i) × (position_or_len p xs < length xs)
position_is p xs i e =
    let at = position-Some p xs i 0 e in
    let l : position_or_len p xs < length xs =
    elim (cases_lt (position_or_len p xs) (length xs)) [
      | inl l ↦ l
      | inr g ↦ absurd (passes_fails (p (get_or xs i 0))
          (fails_before_first p xs i 0 (omega arith)) at.1)
    ]
    in (
      some_same (position_or_len p xs) i (sym (rw (lt-ltb (position_or_len p xs) (length xs) l) refl)
          ∙ e),
      l,
    )
  where
    passes_fails : (b : Bool) → b ≡ false → b ≡ true → ⊥
    passes_fails b f t = cc

    some_same : (a b : ℕ) → Some a ≡ Some b → a ≡ b
    some_same a b e = cc

-- the first line of a text that has a line feed
pub lines-Some : (text : List ℕ) (i : ℕ) → position (λ b. eqb b 10) text ≡ Some i → lines text
    ≡ strip_carriage_return (take i text) ∷ lines (drop (i + 1) text)
lines-Some text i e =
    let at = position_is (λ b. eqb b 10) text i e in
    ap lines_of_parts (slice_split_first (λ b. eqb b 10) text 0 at.1)
    ∙ lines_first (take (position_or_len (λ b. eqb b 10) text) text)
    (slice_split (λ b. eqb b 10) (drop (position_or_len (λ b. eqb b 10) text + 1) text))
    (omega (
      arith,
      length-slice_split (λ b. eqb b 10)
          (drop (position_or_len (λ b. eqb b 10) text + 1) text),
    ))
    ∙ ap (λ k. strip_carriage_return (take k text) ∷ lines (drop (k + 1) text)) at.0

-- a text with no line feed is one line
pub lines-None : (text : List ℕ) → 0 < length text → position (λ b. eqb b 10) text ≡ None
    → lines text ≡ text ∷ []
lines-None text some e =
    let all : length text ≤ position_or_len (λ b. eqb b 10) text =
    elim (cases_lt (position_or_len (λ b. eqb b 10) text) (length text)) [
      | inl l ↦ absurd (some_none (position_or_len (λ b. eqb b 10) text)
          (sym (rw (lt-ltb (position_or_len (λ b. eqb b 10) text) (length text) l) refl) ∙ e))
      | inr g ↦ g
    ]
    in
    ap lines_of_parts (slice_split_none (λ b. eqb b 10) text
    (All-from_get_or (λ b. eqb b 10
    ≡ false) text 0 (λ k l. fails_before_first (λ b. eqb b 10) text k 0 (omega arith))))
    ∙ one_line text some
  where
    some_none : (a : ℕ) → Some a ≡ None → ⊥
    some_none a e = cc

    one_line : (text : List ℕ) → 0 < length text → lines_of_parts (text ∷ []) ≡ text ∷ []
    one_line [] h = absurd (omega arith)
    one_line (b ∷ bs) h = ap (λ t. cond t [] ((b ∷ bs) ∷ []))
        (ne_eqb (length (b ∷ bs)) 0 (λ e. absurd (omega arith)))

-- the lines read so far, and those of the rest
pub record Reading (bytes : List ℕ) (forms : List Form) (rest : List ℕ) : Type 0 where
  pub before : List (List ℕ)
  pub whole : lines bytes ≡ before ++ lines rest
  pub says : AllZip Says before forms

says_more : (before : List (List ℕ)) (forms : List Form) (line : List ℕ) (f : Form)
    → AllZip Says before forms → Says line f → AllZip Says (before ++ line ∷ []) (forms ++ f ∷ [])
says_more [] [] line f h s = (s, tt)
says_more [] (g ∷ gs) line f h s = elim h [ ]
says_more (b ∷ bs) [] line f h s = elim h [ ]
says_more (b ∷ bs) (g ∷ gs) line f h s = (h.0, says_more bs gs line f h.1 s)

pub Reading-goes_on : (bytes : List ℕ) (forms : List Form) (rest more line : List ℕ) (f : Form)
    → lines rest ≡ line ∷ lines more → Says line f → Reading bytes forms rest
    → Reading bytes (forms ++ f ∷ []) more
Reading-goes_on bytes forms rest more line f e s h = record {
  before = h.before ++ line ∷ [];
  whole = h.whole ∙ ap (λ t. h.before ++ t) e
      ∙ sym (append_assoc h.before (line ∷ []) (lines more));
  says = says_more h.before forms line f h.says s;
}

zip_length : (before : List (List ℕ)) (forms : List Form) → AllZip Says before forms → length before
    ≡ length forms
zip_length [] [] h = refl
zip_length [] (g ∷ gs) h = elim h [ ]
zip_length (b ∷ bs) [] h = elim h [ ]
zip_length (b ∷ bs) (g ∷ gs) h = ap suc (zip_length bs gs h.1)

says_at : (before : List (List ℕ)) (forms : List Form) (more : List (List ℕ)) (k : ℕ)
    → AllZip Says before forms → k < length before → (form : Form)
    × Says (get_or (before ++ more) k []) form
says_at [] forms more k h l = absurd (omega arith)
says_at (b ∷ bs) [] more k h l = elim h [ ]
says_at (b ∷ bs) (g ∷ gs) more zero h l = (g, h.0)
says_at (b ∷ bs) (g ∷ gs) more (suc k) h l = says_at bs gs more k h.1 (omega arith)

pub Reading-stops : (bytes : List ℕ) (forms : List Form) (rest more line : List ℕ) → lines rest
    ≡ line ∷ lines more → ((f : Form) → Says line f → ⊥) → Reading bytes forms rest
    → IsFirstBadLine bytes (length forms + 1)
Reading-stops bytes forms rest more line e silent h =
    let whole : lines bytes ≡ h.before ++ (line ∷ lines more) = h.whole ∙ ap (λ t. h.before ++ t) e
    in
    let len : length h.before ≡ length forms = zip_length h.before forms h.says in
    record {
      place = length forms;
      number_is = refl;
      within = omega (arith, ap length whole, length-append h.before (line ∷ lines more));
      bad = λ f s. silent f (subst (λ (t : List ℕ). Says t f)
          (ap (λ ls. get_or ls (length forms) []) whole
          ∙ get_or_at h.before line (lines more) [] (length forms) len) s);
      before = λ k l. subst (λ (ls : List (List ℕ)). (form : Form)
          × Says (get_or ls k []) form) (sym whole)
          (says_at h.before forms (line ∷ lines more) k h.says (omega arith));
    }

-- a text says one thing at most
one_reading_of : (ls : List (List ℕ)) (fs gs : List Form) → AllZip Says ls fs → AllZip Says ls gs
    → fs ≡ gs
one_reading_of [] [] [] h k = refl
one_reading_of [] [] (g ∷ gs) h k = elim k [ ]
one_reading_of [] (f ∷ fs) gs h k = elim h [ ]
one_reading_of (l ∷ ls) [] gs h k = elim h [ ]
one_reading_of (l ∷ ls) (f ∷ fs) [] h k = elim k [ ]
one_reading_of (l ∷ ls) (f ∷ fs) (g ∷ gs) h k =
    ap (λ x. x ∷ fs) (one_form l f g h.0 k.0) ∙ ap (λ xs. g ∷ xs) (one_reading_of ls fs gs h.1 k.1)

pub one_reading : (bytes : List ℕ) (fs gs : List Form) → Reads bytes fs → Reads bytes gs → fs ≡ gs
one_reading bytes fs gs h k = one_reading_of (lines bytes) fs gs h k

-- a text that is read has no bad line
pub no_bad_line : (bytes : List ℕ) (fs : List Form) (n : ℕ) → Reads bytes fs
    → IsFirstBadLine bytes n → ⊥
no_bad_line bytes fs n h bad =
    let at = says_at (lines bytes) fs [] bad.place h bad.within in
    bad.bad at.0 (subst (λ (ls : List (List ℕ)). Says (get_or ls bad.place []) at.0)
    (append-nil (lines bytes)) at.1)

-- and one first bad line at most
pub one_bad_line : (bytes : List ℕ) (m n : ℕ) → IsFirstBadLine bytes m → IsFirstBadLine bytes n → m
    ≡ n
one_bad_line bytes m n h k =
    elim (cases_order h.place k.place) [
      | inl e ↦ omega (arith, h.number_is, k.number_is)
      | inr o ↦ elim o [
        | inl l ↦ absurd (let f = k.before h.place l in h.bad f.0 f.1)
        | inr g ↦ absurd (let f = h.before k.place g in k.bad f.0 f.1)
      ]
    ]

pub drop_whole : (xs : List ℕ) → drop (length xs) xs ≡ []
drop_whole [] = refl
drop_whole (x ∷ xs) = drop_whole xs
