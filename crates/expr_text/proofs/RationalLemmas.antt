-- Arithmetic in range is that of rational numbers.
use Rattle.std.proofs.Common.{◌≡◌, ◌≢◌, ℕ, zero, suc, ℤ, pos, negsuc, ◌*◌, ◌/◌, ◌^◌, ◌+ℤ◌, ◌-ℤ◌, ◌*ℤ◌, ◌<ℤ◌, neg_ℤ, unsigned_abs, false, Result, Ok, Err, refl, sym, ◌∙◌, ap, subst, inl, inr, arith}
use Rattle.std.specs.Prelude.{int_div, int_lt, nat_lt}
use Rattle.std.specs.Ordering.{int_eq}
use Rattle.std.specs.Int.{◌∣◌}
use Rattle.std.proofs.Math.Nat.{div-mul_cancel}
use Rattle.std.proofs.Math.IntN.{*ℤ-negsuc, negsuc-*ℤ-pos, neg_ℤ-neg_ℤ}
use Rattle.std.proofs.lemmas.Int.{ints}
use Rattle.std.proofs.lemmas.Bool.{cases_Bool, cond-true, cond-false, cond_both, false≢true, ltb-true}
use Rattle.expr_text.specs.declared.fault.ExprFault.{ExprFault}
use Rattle.expr_text.specs.declared.fault.ExprFault.TheVariants.{OutOfRange, ZeroDivisor}
use Rattle.expr_text.specs.Range.{within, divisor_of}
use Rattle.expr_text.specs.Ratio.{Ratio, lowest, lowest_signed, given, cross_of, sum_of, difference_of, product_of, nonzero_quotient_of, quotient_of}
use Rattle.expr_text.specs.Rational.{IsFraction, IsQuotient, IsSum, IsDifference, IsProduct, IsRatio}
use Rattle.expr_text.proofs.DivisorLemmas.{divisor_of-is}
use Rattle.expr_text.proofs.LowestLemmas.{mul-positive, mul-nonzero}

-- a step that was taken
pub given_ok : {A B : Type 0} (x : Result A ExprFault) (next : A → Result B ExprFault) (y : B) → given x next ≡ Ok y
    → (a : A) × (x ≡ Ok a) × (next a ≡ Ok y)
given_ok {A} {B} (Ok a) next y e = (a, refl, e)
given_ok {A} {B} (Err f) next y e = let clash : ◌≡◌ {A = Result B ExprFault} (Err f) (Ok y) = e in cc

-- a number in range is itself
pub within_ok : (z a : ℤ) → within z ≡ Ok a → a ≡ z
within_ok z a e =
    elim (cases_Bool (nat_lt (unsigned_abs z) (2 ^ 127))) [
      | inl t ↦
          let same : ◌≡◌ {A = Result ℤ ExprFault} (Ok z) (Ok a) =
          sym (cond-true (nat_lt (unsigned_abs z) (2 ^ 127)) (Ok z) (Err OutOfRange) t) ∙ e in
          cc
      | inr f ↦
          let clash : ◌≡◌ {A = Result ℤ ExprFault} (Err OutOfRange) (Ok a) =
          sym (cond-false (nat_lt (unsigned_abs z) (2 ^ 127)) (Ok z) (Err OutOfRange) f) ∙ e in
          cc
    ]

-- the negative of a product
negative : (q g : ℕ) → neg_ℤ (pos q) *ℤ pos g ≡ neg_ℤ (pos (q * g))
negative zero g = omega (arith, ints)
negative (suc q) g = negsuc-*ℤ-pos q g

-- a quotient without a remainder, times the divisor
pub div-mul-exact : (z : ℤ) (g : ℕ) → g ∣ unsigned_abs z → int_div z (pos g) *ℤ pos g ≡ z
div-mul-exact (pos n) g h = ap pos (div-mul_cancel g h)
div-mul-exact (negsuc n) g h = negative (suc n / g) g ∙ ap (λ m. neg_ℤ (pos m)) (div-mul_cancel g h)

-- three factors in another order
turned : (x : ℤ) (m k : ℕ) → x *ℤ (pos m *ℤ pos k) ≡ (x *ℤ pos k) *ℤ pos m
turned (pos n) m k = ap pos (swapped n m k)
  where
    swapped : (a b c : ℕ) → a * (b * c) ≡ a * c * b
    swapped a b c = omega arith
turned (negsuc n) m k =
    negsuc-*ℤ-pos n (m * k) ∙ ap (λ a. neg_ℤ (pos a)) (swapped (suc n) m k) ∙ sym (negative (suc n * k) m)
    ∙ ap (λ z. z *ℤ pos m) (sym (negsuc-*ℤ-pos n k))
  where
    swapped : (a b c : ℕ) → a * (b * c) ≡ a * c * b
    swapped a b c = omega arith

-- both numbers divided by what divides them make the same fraction
across : (x : ℤ) (m g : ℕ) (a b : ℤ) → x *ℤ pos g ≡ a → pos m *ℤ pos g ≡ b → x *ℤ b ≡ a *ℤ pos m
across x m g a b e f = ap (λ (z : ℤ). x *ℤ z) (sym f) ∙ turned x m g ∙ ap (λ (z : ℤ). z *ℤ pos m) e

-- the fraction in lowest terms is the same
pub lowest_is : (a b : ℤ) → pos 0 <ℤ b → IsQuotient (lowest a b) a b
unfolding lowest
lowest_is a (pos n) h =
    let g = divisor_of (unsigned_abs a) n in
    let is = divisor_of-is (unsigned_abs a) n in
    across (int_div a (pos g)) (n / g) g a (pos n) (div-mul-exact a g is.0) (div-mul-exact (pos n) g is.1)
lowest_is a (negsuc n) h = absurd (omega (arith, ints))

-- twice negated
minus_twice : (a : ℤ) (k : ℕ) → neg_ℤ (neg_ℤ a *ℤ pos k) ≡ a *ℤ pos k
minus_twice (pos p) k = ap neg_ℤ (negative p k) ∙ neg_ℤ-neg_ℤ (pos (p * k))
minus_twice (negsuc p) k = sym (negsuc-*ℤ-pos p k)

-- the same with a divisor of either sign
pub signed_is : (a b : ℤ) → b ≢ pos 0 → IsQuotient (lowest_signed a b) a b
unfolding lowest_signed lowest
signed_is a (pos zero) h = absurd (h refl)
signed_is a (pos (suc n)) h =
    cond_both (int_lt (pos (suc n)) (pos 0)) (lowest (neg_ℤ a) (neg_ℤ (pos (suc n)))) (lowest a (pos (suc n)))
    (λ t. IsQuotient t a (pos (suc n)))
    (λ less. absurd (omega (arith, ltb-true (suc n) 0 less)))
    (λ other. lowest_is a (pos (suc n)) (omega (arith, ints)))
signed_is a (negsuc n) h =
    let t = lowest (neg_ℤ a) (pos (suc n)) in
    let e = lowest_is (neg_ℤ a) (pos (suc n)) (omega (arith, ints)) in
    *ℤ-negsuc t.numerator n ∙ ap neg_ℤ e ∙ minus_twice a (suc n / divisor_of (unsigned_abs (neg_ℤ a)) (suc n))

-- what a fraction in lowest terms was made of
lowest_ok : (t : Ratio) (a b : ℤ) → pos 0 <ℤ b → ◌≡◌ {A = Result Ratio ExprFault} (Ok (lowest a b)) (Ok t) → IsQuotient t a b
lowest_ok t a b h e =
    let same : lowest a b ≡ t = cc in
    subst (λ (x : Ratio). IsQuotient x a b) same (lowest_is a b h)

-- both products across
cross_ok : (r s : Ratio) (cross : ℤ × ℤ) → cross_of r s ≡ Ok cross
    → (cross.0 ≡ r.numerator *ℤ s.denominator) × (cross.1 ≡ s.numerator *ℤ r.denominator)
cross_ok r s cross e =
    let one = given_ok (within (r.numerator *ℤ s.denominator)) _ cross e in
    let two = given_ok (within (s.numerator *ℤ r.denominator)) _ cross one.2 in
    let same : ◌≡◌ {A = Result (ℤ × ℤ) ExprFault} (Ok (one.0, two.0)) (Ok cross) = two.2 in
    let pair : ◌≡◌ {A = ℤ × ℤ} (one.0, two.0) cross = cc in (
      ap (λ (p : ℤ × ℤ). p.0) (sym pair) ∙ within_ok _ one.0 one.1,
      ap (λ (p : ℤ × ℤ). p.1) (sym pair) ∙ within_ok _ two.0 two.1,
    )

-- a sum or difference, by what is made of the products across
combined : (r s t : Ratio) (op : ℤ → ℤ → ℤ) → IsFraction r → IsFraction s
    → given (cross_of r s)
    (λ cross. given (within (r.denominator *ℤ s.denominator))
    (λ below. given (within (op cross.0 cross.1)) (λ above. Ok (lowest above below)))) ≡ Ok t
    → IsQuotient t (op (r.numerator *ℤ s.denominator) (s.numerator *ℤ r.denominator)) (r.denominator *ℤ s.denominator)
combined r s t op fr fs e =
    let one = given_ok (cross_of r s) _ t e in
    let two = given_ok (within (r.denominator *ℤ s.denominator)) _ t one.2 in
    let three = given_ok (within (op one.0.0 one.0.1)) _ t two.2 in
    let cross = cross_ok r s one.0 one.1 in
    let below = within_ok _ two.0 two.1 in
    let above =
    within_ok _ three.0 three.1 ∙ ap (λ (z : ℤ). op z one.0.1) cross.0 ∙ ap (op (r.numerator *ℤ s.denominator)) cross.1 in
    let positive =
    subst (λ (z : ℤ). pos 0 <ℤ z) (sym below) (mul-positive r.denominator s.denominator fr.positive fs.positive) in
    subst (IsQuotient t (op (r.numerator *ℤ s.denominator) (s.numerator *ℤ r.denominator))) below
    (subst (λ (z : ℤ). IsQuotient t z two.0) above (lowest_ok t three.0 two.0 positive three.2))

pub sum_is : (r s t : Ratio) → IsFraction r → IsFraction s → sum_of r s ≡ Ok t → IsSum t r s
sum_is r s t fr fs e = combined r s t (λ a b. a +ℤ b) fr fs e

pub difference_is : (r s t : Ratio) → IsFraction r → IsFraction s → difference_of r s ≡ Ok t → IsDifference t r s
difference_is r s t fr fs e = combined r s t (λ a b. a -ℤ b) fr fs e

pub product_is : (r s t : Ratio) → IsFraction r → IsFraction s → product_of r s ≡ Ok t → IsProduct t r s
product_is r s t fr fs e =
    let one = given_ok (within (r.numerator *ℤ s.numerator)) _ t e in
    let two = given_ok (within (r.denominator *ℤ s.denominator)) _ t one.2 in
    let above = within_ok _ one.0 one.1 in
    let below = within_ok _ two.0 two.1 in
    let positive =
    subst (λ (z : ℤ). pos 0 <ℤ z) (sym below) (mul-positive r.denominator s.denominator fr.positive fs.positive) in
    subst (IsQuotient t (r.numerator *ℤ s.numerator)) below
    (subst (λ (z : ℤ). IsQuotient t z two.0) above (lowest_ok t one.0 two.0 positive two.2))

pub quotient_is : (r s t : Ratio) → IsFraction r → IsFraction s → quotient_of r s ≡ Ok t → IsRatio t r s
quotient_is r s t fr fs e =
    elim (cases_Bool (int_eq s.numerator (pos 0))) [
      | inl zero_divisor ↦
          let clash : ◌≡◌ {A = Result Ratio ExprFault} (Err ZeroDivisor) (Ok t) =
          sym (cond-true (int_eq s.numerator (pos 0)) (Err ZeroDivisor) (nonzero_quotient_of r s) zero_divisor) ∙ e in
          cc
      | inr other ↦ (
        nonzero s.numerator other,
        nonzero_is (nonzero s.numerator other)
            (sym (cond-false (int_eq s.numerator (pos 0)) (Err ZeroDivisor) (nonzero_quotient_of r s) other) ∙ e),
      )
    ]
  where
    nonzero : (z : ℤ) → int_eq z (pos 0) ≡ false → z ≢ pos 0
    nonzero z h = λ same. false≢true (sym h ∙ ap (λ (x : ℤ). int_eq x (pos 0)) same)

    nonzero_is : s.numerator ≢ pos 0 → nonzero_quotient_of r s ≡ Ok t
        → IsQuotient t (r.numerator *ℤ s.denominator) (r.denominator *ℤ s.numerator)
    nonzero_is h f =
        let one = given_ok (within (r.numerator *ℤ s.denominator)) _ t f in
        let two = given_ok (within (r.denominator *ℤ s.numerator)) _ t one.2 in
        let above : one.0 ≡ r.numerator *ℤ s.denominator = within_ok (r.numerator *ℤ s.denominator) one.0 one.1 in
        let below : two.0 ≡ r.denominator *ℤ s.numerator = within_ok (r.denominator *ℤ s.numerator) two.0 two.1 in
        let some : two.0 ≢ pos 0 = λ same. mul-nonzero r.denominator s.numerator fr.positive h (sym below ∙ same) in
        let end : ◌≡◌ {A = Result Ratio ExprFault} (Ok (lowest_signed one.0 two.0)) (Ok t) = two.2 in
        let same : lowest_signed one.0 two.0 ≡ t = cc in
        subst (IsQuotient t (r.numerator *ℤ s.denominator)) below
        (subst (λ (z : ℤ). IsQuotient t z two.0) above
        (subst (λ (x : Ratio). IsQuotient x one.0 two.0) same (signed_is one.0 two.0 some)))
