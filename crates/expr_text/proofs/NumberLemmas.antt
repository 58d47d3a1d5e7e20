-- Digits that are read one after another, and powers of ten, up to the end of the range.
use Rattle.std.proofs.Common.{◌≡◌, lit<, lit≤, ℕ, pos, ◌+◌, ◌-◌, ◌*◌, ◌<◌, ◌≤◌, ◌^◌, List, [], ◌∷◌, ◌++◌, length, drop, get_or, Option, Some, None, refl, sym, ap, ◌∙◌, arith, add-one, drop-cons, inl, inr}
use Rattle.std.specs.Prelude.{nat_lt, false}
use Rattle.std.proofs.lemmas.Bool.{cond-true, cond-false, le-ltb, lt-ltb, cases_Bool, ltb-true, and_left, and_right, and_from}
use Rattle.std.proofs.lemmas.Bool.Decides.{nat_tests}
use Rattle.std.proofs.Math.Nat.{pow-le-pow_right, lt_of_le_of_lt, le_trans}
use Rattle.expr_text.specs.Lexeme.{digits_from, fits}
use Rattle.expr_text.specs.Ratio.{lowest}
use Rattle.expr_text.specs.Front.{capped, ranged}

-- a number in range
pub capped-some : (n : ℕ) → n < 2 ^ 127 → capped n ≡ Some n
unfolding capped
capped-some n h = cond-true (nat_lt n (2 ^ 127)) (Some n) None (lt-ltb n (2 ^ 127) h)

-- a number out of range
pub capped-none : (n : ℕ) → 2 ^ 127 ≤ n → capped n ≡ None
unfolding capped
capped-none n h = cond-false (nat_lt n (2 ^ 127)) (Some n) None (le-ltb n (2 ^ 127) h)

-- what was found is the number, in range
pub capped_some_is : (n v : ℕ) → capped n ≡ Some v → (v ≡ n) × (n < 2 ^ 127)
unfolding capped
capped_some_is n v e =
    elim (cases_Bool (nat_lt n (2 ^ 127))) [
      | inl t ↦
          let same : ◌≡◌ {A = Option ℕ} (Some v) (Some n) = sym e ∙ cond-true (nat_lt n (2 ^ 127)) (Some n) None t in
          let is : v ≡ n = cc in
          (is, ltb-true n (2 ^ 127) t)
      | inr f ↦
          let clash : ◌≡◌ {A = Option ℕ} (Some v) None = sym e ∙ cond-false (nat_lt n (2 ^ 127)) (Some n) None f in
          cc
    ]

-- where none was found, the number is out of range
pub capped_none_is : (n : ℕ) → capped n ≡ None → 2 ^ 127 ≤ n
unfolding capped
capped_none_is n e =
    elim (cases_Bool (nat_lt n (2 ^ 127))) [
      | inl t ↦
          let clash : ◌≡◌ {A = Option ℕ} None (Some n) = sym e ∙ cond-true (nat_lt n (2 ^ 127)) (Some n) None t in
          cc
      | inr f ↦ not_less n (2 ^ 127) f
    ]
  where
    not_less : (a b : ℕ) → nat_lt a b ≡ false → b ≤ a
    not_less a b f = grind (arith, nat_tests)

-- more digits make no smaller number
pub digits_from-le : (n : ℕ) (ds : List ℕ) → n ≤ digits_from n ds
digits_from-le n [] = omega arith
digits_from-le n (d ∷ ds) = let more = digits_from-le (n * 10 + (d - 48)) ds in omega arith

-- digits behind digits
pub digits_from-append : (n : ℕ) (ds es : List ℕ) → digits_from n (ds ++ es) ≡ digits_from (digits_from n ds) es
digits_from-append n [] es = refl
digits_from-append n (d ∷ ds) es = digits_from-append (n * 10 + (d - 48)) ds es

-- one digit more
pub digits_from-next : (n i : ℕ) (ds : List ℕ) → i < length ds
    → digits_from n (drop i ds) ≡ digits_from (n * 10 + (get_or ds i 0 - 48)) (drop (i + 1) ds)
digits_from-next n i ds h =
    ap (digits_from n) (drop-cons ds i 0 h)
    ∙ ap (λ k. digits_from (n * 10 + (get_or ds i 0 - 48)) (drop k ds)) (sym (add-one i))

-- where a number is out of range, it is so with more digits
pub digits_from-none : (n m : ℕ) (ds : List ℕ) → digits_from n ds ≡ m → capped n ≡ None → capped m ≡ None
digits_from-none n m ds e h =
    capped-none m (let low = capped_none_is n h in let more = digits_from-le n ds in omega (arith, e))

-- a power of ten in range
pub pow-fits : (k : ℕ) → k ≤ 38 → 10 ^ k < 2 ^ 127
pow-fits k h = lt_of_le_of_lt (pow-le-pow_right (lit< tt) h) (lit< tt)

-- a power of ten out of range
pub pow-beyond : (k : ℕ) → 38 < k → 2 ^ 127 ≤ 10 ^ k
pow-beyond k h = le_trans (lit≤ tt) (pow-le-pow_right (lit< tt) h)

-- a literal with too many digits, or too many decimals, is out of range
pub ranged-left : (d k : ℕ) → capped d ≡ None → ranged d k ≡ None
ranged-left d k h =
    cond-false (fits d k) (Some (lowest (pos d) (pos (10 ^ k)))) None
    (and_left (nat_lt d (2 ^ 127)) (nat_lt (10 ^ k) (2 ^ 127)) (le-ltb d (2 ^ 127) (capped_none_is d h)))

pub ranged-right : (d k : ℕ) → capped (10 ^ k) ≡ None → ranged d k ≡ None
ranged-right d k h =
    cond-false (fits d k) (Some (lowest (pos d) (pos (10 ^ k)))) None
    (and_right (nat_lt d (2 ^ 127)) (nat_lt (10 ^ k) (2 ^ 127)) (le-ltb (10 ^ k) (2 ^ 127) (capped_none_is (10 ^ k) h)))

-- one in range has its value
pub ranged-some : (d k a b : ℕ) → capped d ≡ Some a → capped (10 ^ k) ≡ Some b → Some (lowest (pos a) (pos b)) ≡ ranged d k
ranged-some d k a b h l =
    let above = capped_some_is d a h in
    let below = capped_some_is (10 ^ k) b l in
    let both =
    and_from (nat_lt d (2 ^ 127)) (nat_lt (10 ^ k) (2 ^ 127)) (lt-ltb d (2 ^ 127) above.1)
    (lt-ltb (10 ^ k) (2 ^ 127) below.1) in
    ap (λ n. Some (lowest (pos n) (pos b))) above.0 ∙ ap (λ n. Some (lowest (pos d) (pos n))) below.0
    ∙ sym (cond-true (fits d k) (Some (lowest (pos d) (pos (10 ^ k)))) None both)
