-- Fractions in lowest terms, and their arithmetic, in which each number on the way has to be in range.
use Rattle.std.specs.Prelude.{ℤ, pos, ◌+ℤ◌, ◌-ℤ◌, ◌*ℤ◌, neg_ℤ, ◌<ℤ◌, ◌<◌, ◌^◌, unsigned_abs, int_div, int_lt, Bool, Result, Ok, Err, if◌then◌else◌}
use Rattle.std.specs.Int.{IsGcd}
use Rattle.std.specs.Ordering.{int_eq}
use Rattle.expr_text.specs.declared.fault.ExprFault.{ExprFault}
use Rattle.expr_text.specs.declared.fault.ExprFault.TheVariants.{ZeroDivisor}
use Rattle.expr_text.specs.Range.{within, divisor_of}

-- a fraction of whole numbers
pub record Ratio : Type 0 where
  pub numerator : ℤ
  pub denominator : ℤ

-- a whole number as a fraction
abbrev pub whole : ℤ → Ratio
whole n = record { numerator = n; denominator = pos 1 }

-- the denominator is positive, both numbers are in range, and 1 alone divides both
pub record IsInLowestTerms (numerator denominator : ℤ) : Type 0 where
  pub positive : pos 0 <ℤ denominator
  pub above_fits : unsigned_abs numerator < 2 ^ 127
  pub below_fits : unsigned_abs denominator < 2 ^ 127
  pub lowest : IsGcd (unsigned_abs numerator) (unsigned_abs denominator) 1

-- what divides both numbers of a fraction
abbrev pub common_of : ℤ → ℤ → ℤ
common_of above below = pos (divisor_of (unsigned_abs above) (unsigned_abs below))

-- the fraction with both numbers divided by their greatest common divisor
unfoldable pub lowest : ℤ → ℤ → Ratio
lowest above below = record {
  numerator = int_div above (common_of above below);
  denominator = int_div below (common_of above below);
}

-- the same, with the sign of the divisor, which isn't 0, moved to the dividend
unfoldable pub lowest_signed : ℤ → ℤ → Ratio
lowest_signed above below =
    if int_lt below (pos 0) then lowest (neg_ℤ above) (neg_ℤ below) else lowest above below

-- the next step, unless this one has a fault
abbrev pub given : {A B : Type 0} → Result A ExprFault → (A → Result B ExprFault) → Result B ExprFault
given (Ok x) next = next x
given (Err e) next = Err e

-- the products a·d and c·b of a/b and c/d
abbrev pub cross_of : Ratio → Ratio → Result (ℤ × ℤ) ExprFault
cross_of r s =
    given (within (r.numerator *ℤ s.denominator)) (λ left.
    given (within (s.numerator *ℤ r.denominator)) (λ right. Ok (left, right)))

-- a/b + c/d: the products a·d, c·b and b·d, then the sum
abbrev pub sum_of : Ratio → Ratio → Result Ratio ExprFault
sum_of r s =
    given (cross_of r s) (λ cross.
    given (within (r.denominator *ℤ s.denominator)) (λ below.
    given (within (cross.0 +ℤ cross.1)) (λ above. Ok (lowest above below))))

-- a/b - c/d: the products a·d, c·b and b·d, then the difference
abbrev pub difference_of : Ratio → Ratio → Result Ratio ExprFault
difference_of r s =
    given (cross_of r s) (λ cross.
    given (within (r.denominator *ℤ s.denominator)) (λ below.
    given (within (cross.0 -ℤ cross.1)) (λ above. Ok (lowest above below))))

-- a/b · c/d: the products a·c and b·d
abbrev pub product_of : Ratio → Ratio → Result Ratio ExprFault
product_of r s =
    given (within (r.numerator *ℤ s.numerator)) (λ above.
    given (within (r.denominator *ℤ s.denominator)) (λ below. Ok (lowest above below)))

-- a/b ÷ c/d where c isn't 0: the products a·d and b·c
abbrev pub nonzero_quotient_of : Ratio → Ratio → Result Ratio ExprFault
nonzero_quotient_of r s =
    given (within (r.numerator *ℤ s.denominator)) (λ above.
    given (within (r.denominator *ℤ s.numerator)) (λ below. Ok (lowest_signed above below)))

-- a/b ÷ c/d: c may not be 0
abbrev pub quotient_of : Ratio → Ratio → Result Ratio ExprFault
quotient_of r s = if int_eq s.numerator (pos 0) then Err ZeroDivisor else nonzero_quotient_of r s

-- whether a/b is above c/d, by the products a·d and c·b
abbrev pub is_above : Ratio → Ratio → Result Bool ExprFault
is_above r s = given (cross_of r s) (λ cross. Ok (int_lt cross.1 cross.0))

-- the lesser of two
abbrev pub least_of : Ratio → Ratio → Result Ratio ExprFault
least_of r s = given (is_above r s) (λ above. Ok (if above then s else r))

-- the greater of two
abbrev pub greatest_of : Ratio → Ratio → Result Ratio ExprFault
greatest_of r s = given (is_above r s) (λ above. Ok (if above then r else s))
