-- Decimal digits of a number of 128 bits are read as that number.
use Rattle.std.proofs.Common.{◌≡◌, ℕ, ◌+◌, ◌-◌, ◌*◌, ◌^◌, ◌<◌, min, List, [], ◌∷◌, refl, ◌∙◌, arith}
use Rattle.std.specs.Prelude.{fold, decimal}
use Rattle.std.specs.Str.Parse.{AllDigits}
use Rattle.std.proofs.lemmas.Fmt.{decimal_is_IsNumeral_wide}
use Rattle.std.proofs.lemmas.Str.Parse.{IsNumeralModel, FoldsDigits, numerals_by_fold, tells_digits}
use Rattle.vcd_text.specs.Digits.{with_digit, number_by}

-- one more digit of any number
exact : ℕ → ℕ → ℕ
exact number digit = number * 10 + (digit - 48)

-- digits that are read after a number
exact_after : ℕ → List ℕ → ℕ
exact_after number digits = fold exact number digits

-- one more digit of a number that was cut
capped : (m x s d : ℕ) → s ≡ min x m → min (min (s * 10) m + d) m ≡ min (x * 10 + d) m
capped m x s d is = omega (arith, is)

-- digits that are read up to a limit are those that are read, up to it
capped_all : (x s : ℕ) (digits : List ℕ) → s ≡ min x (2 ^ 128 - 1)
    → fold with_digit s digits ≡ min (exact_after x digits) (2 ^ 128 - 1)
unfolding exact_after exact
capped_all x s [] is = is
capped_all x s (d ∷ digits) is = capped_all (exact x d) (with_digit s d) digits (capped (2 ^ 128 - 1) x s (d - 48) is)

folds : FoldsDigits exact_after
unfolding exact_after exact
folds = record { empty = λ n. refl; more = λ n c cs h. refl }

own : IsNumeralModel (AllDigits 10) (exact_after 0)
own = numerals_by_fold (AllDigits 10) tells_digits exact_after folds

-- what a number's digits are read as
pub number_by-decimal : (n : ℕ) → n < 2 ^ 128 → number_by (decimal n) ≡ n
number_by-decimal n small =
    let wide : n < 10 ^ 64 = omega arith in
    let is = decimal_is_IsNumeral_wide n wide in
    let read : exact_after 0 (decimal n) ≡ n = own.same (decimal n) is.0.1 ∙ is.1 in
    capped_all 0 0 (decimal n) (omega arith) ∙ omega (arith, read)
