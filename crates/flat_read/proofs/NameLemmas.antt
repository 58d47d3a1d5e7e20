-- Names and numbers of a flat text are read as they are written, and no two numbers make one name.
use Rattle.std.proofs.Common.{◌≡◌, ℕ, zero, suc, ◌+◌, ◌/◌, ◌%◌, ◌^◌, ◌≤◌, ◌<◌, Bool, true, false, ◌&&◌, List, [], ◌∷◌, ◌++◌, length, map, Some, None, refl, ap, ◌∙◌, arith, inl, inr, cond}
use Rattle.std.specs.Prelude.{decimal, nat_lt, nat_le, sum_by}
use Rattle.std.specs.List.{AllByRecursion, filter, list_all, list_any, range_with_len}
use Rattle.std.specs.Str.{bytes_eq}
use Rattle.std.proofs.lemmas.Bool.{le-leb, lt-ltb, and_from, or_from, cases_Bool}
use Rattle.std.proofs.lemmas.Fmt.{decimal_by_steps, decimal_injective, decimal_nonempty, length-decimal-le}
use Rattle.std.proofs.lemmas.List.Folds.{list_any-append}
use Rattle.std.proofs.lemmas.List.Sums.{fold-append, sum_by-append, sum_by-cons}
use Rattle.std.proofs.lemmas.Slice.Eq.{bytes_eq-Decides}
use Rattle.text_bytes.specs.Bytes.{is_digit, is_printable}
use Rattle.text_bytes.specs.Limits.{longest_name}
use Rattle.text_bytes.specs.Numbers.{with_digit, number_of, number_by}
use Rattle.text_bytes.proofs.DigitLemmas.{decimal_all, digit_is}
use Rattle.stil_form.specs.Lexeme.{name}
use Rattle.stil_form.specs.Words.{fits_name, named_by}
use Rattle.stil_ast.specs.Data.Texts.{same}
use Rattle.block_forms.specs.Heads.{is_declared, count_under, under}
use Rattle.packed_code.specs.Conditions.{IsText, IsName}

-- a name in quotes that fits is that name
pub named_is : (called : List ℕ) → fits_name called ≡ true → named_by (name called) ≡ Some called
named_is called fits = ap (λ (b : Bool). cond b (Some called) None) fits

-- a name fits
pub name_fits : (called : List ℕ) → IsName called → fits_name called ≡ true
name_fits called is =
    and_from (nat_lt 0 (length called) && nat_le (length called) longest_name) (list_all is_printable called)
    (and_from (nat_lt 0 (length called)) (nat_le (length called) longest_name) is.some
    (le-leb (length called) longest_name is.text.short)) is.text.printable

-- and so does a text with a byte at least
pub text_fits : (byte : ℕ) (called : List ℕ) → IsText (byte ∷ called) → fits_name (byte ∷ called) ≡ true
text_fits byte called is =
    name_fits (byte ∷ called) (record { text = is; some = lt-ltb 0 (length (byte ∷ called)) (omega arith) })

-- a digit may stand in a name
digit_prints : (d : ℕ) → d < 10 → is_printable (48 + d) ≡ true
unfolding is_printable
digit_prints d few =
    and_from (nat_le 32 (48 + d)) (nat_le (48 + d) 126) (le-leb 32 (48 + d) (omega arith)) (le-leb (48 + d) 126 (omega (arith, few)))

-- a byte and a number are a name
pub numbered_fits : (byte n : ℕ) → is_printable byte ≡ true → n < 2 ^ 64 → fits_name (byte ∷ decimal n) ≡ true
numbered_fits byte n prints small =
    let long : length (decimal n) ≤ 20 = length-decimal-le 20 n (omega arith) (omega (arith, small)) small in
    name_fits (byte ∷ decimal n) (record {
      text = record {
        short = omega (arith, long);
        printable = and_from (is_printable byte) (list_all is_printable (decimal n)) prints (decimal_all is_printable digit_prints n);
      };
      some = lt-ltb 0 (length (byte ∷ decimal n)) (omega arith);
    })

-- the same byte with another number is another name
pub numbered_differ : (byte m n : ℕ) → m < 2 ^ 64 → n < 2 ^ 64 → (m ≡ n → ⊥) → same (byte ∷ decimal m) (byte ∷ decimal n) ≡ false
numbered_differ byte m n small few other = elim (cases_Bool (bytes_eq (byte ∷ decimal m) (byte ∷ decimal n))) [
  | inl e ↦ absurd (other (decimal_injective m n small few
      (tail (decimal m) (decimal n) ((bytes_eq-Decides (byte ∷ decimal m) (byte ∷ decimal n)).0 e))))
  | inr e ↦ e
]
  where
    tail : (xs ys : List ℕ) → byte ∷ xs ≡ byte ∷ ys → xs ≡ ys
    tail xs ys e = cc

-- ---- numbers

-- one more digit
digit_read : (m : ℕ) → m < 2 ^ 64 → with_digit (m / 10) (48 + m % 10) ≡ m
digit_read m small = omega (arith, small)

-- digits are read as their number
pub number_of-decimal : (n : ℕ) → n < 2 ^ 64 → number_of (decimal n) ≡ n
number_of-decimal n small =
    decimal_by_steps (λ m ds. m < 2 ^ 64 → number_of ds ≡ m)
    (λ m few wide. omega (arith, few))
    (λ m ds some read wide.
    fold-append with_digit 0 ds ((48 + m % 10) ∷ [])
    ∙ ap (λ k. with_digit k (48 + m % 10)) (read (omega (arith, wide))) ∙ digit_read m wide)
    n small small

pub number_by-decimal : (n : ℕ) → n < 2 ^ 64 → number_by (decimal n) ≡ Some n
number_by-decimal n small =
    ap (λ (b : Bool). cond b (Some (number_of (decimal n))) None)
    (and_from (nat_lt 0 (length (decimal n))) (list_all is_digit (decimal n)) (lt-ltb 0 (length (decimal n)) (decimal_nonempty n small))
    (decimal_all is_digit digit_is n))
    ∙ ap (λ (k : ℕ). Some k) (number_of-decimal n small)

-- ---- names that are declared

-- no name of a byte and a number from this one on is declared
abbrev pub NoneFrom : List (List ℕ × List ℕ) → List ℕ → ℕ → ℕ → Type 0
NoneFrom declared title byte m = (k : ℕ) → m ≤ k → k < 2 ^ 64 → is_declared declared title (byte ∷ decimal k) ≡ false

-- behind one more
pub none_behind : (declared : List (List ℕ × List ℕ)) (title : List ℕ) (byte m x : ℕ) → NoneFrom declared title byte m → m ≤ x → x < 2 ^ 64
    → NoneFrom (declared ++ (title, byte ∷ decimal x) ∷ []) title byte (x + 1)
none_behind declared title byte m x none low small k above few =
    let called = byte ∷ decimal k in
    let test : List ℕ × List ℕ → Bool = λ d. same d.0 title && same d.1 called in
    let last : test (title, byte ∷ decimal x) ≡ false =
    and_false (same title title) (same (byte ∷ decimal x) called) (numbered_differ byte x k small few (λ e. omega (arith, e, above))) in
    list_any-append test declared ((title, byte ∷ decimal x) ∷ [])
    ∙ or_from (list_any test declared) (list_any test ((title, byte ∷ decimal x) ∷ [])) (none k (omega (arith, low, above)) few)
    (or_from (test (title, byte ∷ decimal x)) false last refl)
  where
    and_false : (a b : Bool) → b ≡ false → (a && b) ≡ false
    and_false true b e = e
    and_false false b e = refl

-- no name is declared under a title
abbrev pub IsUntitled : List (List ℕ × List ℕ) → List ℕ → Type 0
IsUntitled declared title = AllByRecursion (λ (d : List ℕ × List ℕ). same d.0 title ≡ false) declared

-- so none is
pub untitled_new : (declared : List (List ℕ × List ℕ)) (title called : List ℕ) → IsUntitled declared title
    → is_declared declared title called ≡ false
untitled_new [] title called none = refl
untitled_new (d ∷ declared) title called none =
    or_from (same d.0 title && same d.1 called) (is_declared declared title called) (ap (λ (b : Bool). b && same d.1 called) none.0)
    (untitled_new declared title called none.1)

-- what a name counts for
abbrev pub counts : List ℕ → List ℕ × List ℕ → ℕ
counts title d = cond (same d.0 title) 1 0

-- and there are none
pub untitled_count : (declared : List (List ℕ × List ℕ)) (title : List ℕ) → IsUntitled declared title → count_under declared title ≡ 0
untitled_count [] title none = refl
untitled_count (d ∷ declared) title none =
    let one : counts title d ≡ 0 = ap (λ (b : Bool). cond {A = ℕ} b 1 0) none.0 in
    sum_by-cons (counts title) d declared ∙ omega (arith, one, untitled_count declared title none.1)

-- one name more
pub count_push : (declared : List (List ℕ × List ℕ)) (title called : List ℕ)
    → count_under (declared ++ (title, called) ∷ []) title ≡ count_under declared title + 1
count_push declared title called =
    let itself : same title title ≡ true = (bytes_eq-Decides title title).1 refl in
    let one : sum_by (counts title) ((title, called) ∷ []) ≡ 1 = ap (λ (b : Bool). 0 + cond {A = ℕ} b 1 0) itself in
    sum_by-append (counts title) declared ((title, called) ∷ []) ∙ omega (arith, one)

-- under one title no name stands under another
pub under_other : (title other : List ℕ) (names : List (List ℕ)) → same title other ≡ false → IsUntitled (under title names) other
under_other title other [] differ = tt
under_other title other (n ∷ names) differ = (differ, under_other title other names differ)

-- names behind others
pub untitled_append : (xs ys : List (List ℕ × List ℕ)) (title : List ℕ) → IsUntitled xs title → IsUntitled ys title
    → IsUntitled (xs ++ ys) title
untitled_append [] ys title none more = more
untitled_append (d ∷ xs) ys title none more = (none.0, untitled_append xs ys title none.1 more)

-- names under a title, and one more
pub under_push : {D : Type 0} (title : List ℕ) (of : D → List ℕ) (before : List D) (d : D)
    → under title (map of (before ++ d ∷ [])) ≡ under title (map of before) ++ (title, of d) ∷ []
under_push title of [] d = refl
under_push title of (b ∷ before) d = ap (λ (names : List (List ℕ × List ℕ)). (title, of b) ∷ names) (under_push title of before d)

-- numbers that rise from this one on, none as large as 2 ^ 64
abbrev pub AreRising : ℕ → List ℕ → Type 0
AreRising m [] = Unit {0}
AreRising m (x ∷ xs) = (m ≤ x) × (x < 2 ^ 64) × AreRising (x + 1) xs

-- they rise from a smaller one on too
pub rising_from : (m k : ℕ) (xs : List ℕ) → m ≤ k → AreRising k xs → AreRising m xs
rising_from m k [] low rise = tt
rising_from m k (x ∷ xs) low rise = (omega (arith, low, rise.0), rise.1, rise.2)

-- those of them that pass a test rise too
pub rising_filter : (test : ℕ → Bool) (xs : List ℕ) (m : ℕ) → AreRising m xs → AreRising m (filter test xs)
rising_filter test [] m rise = tt
rising_filter test (x ∷ xs) m rise = kept (test x) (filter test xs) (rising_filter test xs (x + 1) rise.2)
  where
    kept : (keep : Bool) (ys : List ℕ) → AreRising (x + 1) ys → AreRising m (cond keep (x ∷ ys) ys)
    kept true ys h = (rise.0, rise.1, h)
    kept false ys h = rising_from m (x + 1) ys (omega (arith, rise.0)) h

-- and so do numbers one after another
pub rising_range : (n m : ℕ) → m + n ≤ 2 ^ 64 → AreRising m (range_with_len m n)
rising_range zero m few = tt
rising_range (suc n) m few = (omega arith, omega (arith, few), rising_range n (m + 1) (omega (arith, few)))
