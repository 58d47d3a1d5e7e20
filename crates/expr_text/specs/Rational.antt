-- Arithmetic on rational numbers, which a fraction in range has to agree with.
use Rattle.std.specs.Prelude.{◌≡◌, ◌≢◌, ◌⊎◌, ℤ, pos, ◌+ℤ◌, ◌-ℤ◌, ◌*ℤ◌, ◌≤ℤ◌}
use Rattle.expr_text.specs.Ratio.{Ratio, IsInLowestTerms}

-- a fraction that the code may hold
abbrev pub IsFraction : Ratio → Type 0
IsFraction r = IsInLowestTerms r.numerator r.denominator

-- the fraction is above/below, by products across
abbrev pub IsQuotient : Ratio → ℤ → ℤ → Type 0
IsQuotient t above below = t.numerator *ℤ below ≡ above *ℤ t.denominator

-- t = r + s
abbrev pub IsSum : Ratio → Ratio → Ratio → Type 0
IsSum t r s =
    IsQuotient t (r.numerator *ℤ s.denominator +ℤ s.numerator *ℤ r.denominator) (r.denominator *ℤ s.denominator)

-- t = r - s
abbrev pub IsDifference : Ratio → Ratio → Ratio → Type 0
IsDifference t r s =
    IsQuotient t (r.numerator *ℤ s.denominator -ℤ s.numerator *ℤ r.denominator) (r.denominator *ℤ s.denominator)

-- t = r · s
abbrev pub IsProduct : Ratio → Ratio → Ratio → Type 0
IsProduct t r s = IsQuotient t (r.numerator *ℤ s.numerator) (r.denominator *ℤ s.denominator)

-- t = r / s, where s isn't 0
abbrev pub IsRatio : Ratio → Ratio → Ratio → Type 0
IsRatio t r s = (s.numerator ≢ pos 0) × IsQuotient t (r.numerator *ℤ s.denominator) (r.denominator *ℤ s.numerator)

-- r ≤ s
abbrev pub IsAtMost : Ratio → Ratio → Type 0
IsAtMost r s = (r.numerator *ℤ s.denominator) ≤ℤ (s.numerator *ℤ r.denominator)

-- t is one of r and s, and neither is below it
abbrev pub IsLeast : Ratio → Ratio → Ratio → Type 0
IsLeast t r s = ((t ≡ r) ⊎ (t ≡ s)) × IsAtMost t r × IsAtMost t s

-- t is one of r and s, and neither is above it
abbrev pub IsGreatest : Ratio → Ratio → Ratio → Type 0
IsGreatest t r s = ((t ≡ r) ⊎ (t ≡ s)) × IsAtMost r t × IsAtMost s t
