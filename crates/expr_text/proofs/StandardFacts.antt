-- Known times, whose values the definitions must give.
use Rattle.std.proofs.Common.{◌≡◌, ℤ, pos, negsuc, true, [], ◌∷◌, Some, Ok, Err, refl}
use Rattle.std.specs.Prelude.{codes}
use Rattle.expr_text.specs.declared.fault.ExprFault.TheVariants.{BadExpr, OutOfRange, UnknownName, ZeroDivisor}
use Rattle.expr_text.specs.declared.expr.Operator.TheVariants as Operator
use Rattle.expr_text.specs.declared.expr.Bound.TheVariants as Bound
use Rattle.expr_text.specs.Range.{divisor_of, remainders}
use Rattle.expr_text.specs.Ratio.{Ratio, whole, lowest, lowest_signed, sum_of, difference_of, product_of, quotient_of, least_of, greatest_of}
use Rattle.expr_text.specs.Value.{chain_of, extreme_of, named_of}
use Rattle.expr_text.specs.Vars.{value_of_name}
use Rattle.text_bytes.specs.Bytes.{is_blank, is_digit, begins_name, is_word, is_printable}
use Rattle.expr_text.specs.Bytes.{may_be_quoted}
use Rattle.expr_text.specs.Tree.{number, name, chain, linked, extreme, also}
use Rattle.expr_text.specs.Spelling.{Spells, IsFault}
use Rattle.expr_text.specs.Front.{unit_front, number_front, paren_len, short_name, word_front, quoted_front, sign_front, front_of, lexed}
use Rattle.expr_text.specs.declared.unit.Unit.TheVariants.{Plain, Microseconds, Nanoseconds}
use Rattle.expr_text.proofs.ReadLemmas.{read_is_so, none_spelled}

-- the fraction of two numbers as they stand
abbrev ratio : ℤ → ℤ → Ratio
ratio n d = record { numerator = n; denominator = d }

-- the number that is the greatest in range
abbrev greatest : ℤ
greatest = pos 170141183460469231731687303715884105727

-- 10ns/3 is not whole
ten_by_three : quotient_of (ratio (pos 10000000) (pos 1)) (ratio (pos 3) (pos 1)) ≡ Ok (ratio (pos 10000000) (pos 3))
unfolding divisor_of remainders lowest lowest_signed
ten_by_three = refl

-- 9ns/3 is 3,000,000 femtoseconds
nine_by_three : quotient_of (ratio (pos 9000000) (pos 1)) (ratio (pos 3) (pos 1)) ≡ Ok (ratio (pos 3000000) (pos 1))
unfolding divisor_of remainders lowest lowest_signed
nine_by_three = refl

-- a negative divisor gives its sign to the dividend
by_minus_four : quotient_of (ratio (pos 6) (pos 1)) (ratio (negsuc 3) (pos 1)) ≡ Ok (ratio (negsuc 2) (pos 2))
unfolding divisor_of remainders lowest lowest_signed
by_minus_four = refl

-- the greatest number times 2 is out of range, and times 1 it is itself
greatest_by_two : product_of (ratio greatest (pos 1)) (ratio (pos 2) (pos 1)) ≡ Err OutOfRange
greatest_by_two = refl

greatest_by_one : product_of (ratio greatest (pos 1)) (ratio (pos 1) (pos 1)) ≡ Ok (ratio greatest (pos 1))
unfolding divisor_of remainders lowest
greatest_by_one = refl

-- the least number in range, and the one below it
least_number : difference_of (ratio (pos 0) (pos 1)) (ratio greatest (pos 1)) ≡ Ok
    (ratio (negsuc 170141183460469231731687303715884105726) (pos 1))
unfolding divisor_of remainders lowest
least_number = refl

below_least : difference_of (ratio (negsuc 0) (pos 1)) (ratio greatest (pos 1)) ≡ Err OutOfRange
below_least = refl

-- 1/0 has a zero divisor also where its product would be out of range, and 0/5 is 0
one_by_zero : quotient_of (ratio (pos 1) (pos 1)) (ratio (pos 0) (pos 1)) ≡ Err ZeroDivisor
one_by_zero = refl

zero_by_five : quotient_of (ratio (pos 0) (pos 1)) (ratio (pos 5) (pos 1)) ≡ Ok (ratio (pos 0) (pos 1))
unfolding divisor_of remainders lowest lowest_signed
zero_by_five = refl

-- 1/2 + 1/3 is 5/6, and 1/2 - 1/3 is 1/6
half_and_third : sum_of (ratio (pos 1) (pos 2)) (ratio (pos 1) (pos 3)) ≡ Ok (ratio (pos 5) (pos 6))
unfolding divisor_of remainders lowest
half_and_third = refl

half_less_third : difference_of (ratio (pos 1) (pos 2)) (ratio (pos 1) (pos 3)) ≡ Ok (ratio (pos 1) (pos 6))
unfolding divisor_of remainders lowest
half_less_third = refl

-- 2.50ns is 250/100 of a nanosecond
two_and_a_half : product_of (lowest (pos 250) (pos 100)) (ratio (pos 1000000) (pos 1)) ≡ Ok (ratio (pos 2500000) (pos 1))
unfolding divisor_of remainders lowest
two_and_a_half = refl

-- the lesser of 3ns and 2ns is 2ns, and the greater 3ns
lesser : least_of (ratio (pos 3000000) (pos 1)) (ratio (pos 2000000) (pos 1)) ≡ Ok (ratio (pos 2000000) (pos 1))
lesser = refl

greater : greatest_of (ratio (pos 3000000) (pos 1)) (ratio (pos 2000000) (pos 1)) ≡ Ok (ratio (pos 3000000) (pos 1))
greater = refl

-- a name has the value of the first entry of its name, and another name has none
named : value_of_name (97 ∷ []) ((98 ∷ [], whole (pos 1)) ∷ (97 ∷ [], whole (pos 2)) ∷ (97 ∷ [], whole (pos 3)) ∷ []) ≡ Some
    (whole (pos 2))
named = refl

not_named : named_of (value_of_name (97 ∷ []) ((98 ∷ [], whole (pos 1)) ∷ [])) ≡ Err UnknownName
not_named = refl

-- min(3ns, 2ns, 2ns + 1ps) is 2ns
least_of_three : extreme_of Bound.Least (whole (pos 3000000)) (Ok (whole (pos 2000000)) ∷ Ok (whole (pos 2001000)) ∷ []) ≡ Ok
    (whole (pos 2000000))
least_of_three = refl

-- all operands are evaluated before the first comparison: an unknown name behind a comparison out of range is the fault
name_before_comparison : extreme_of Bound.Greatest (ratio greatest (pos 2))
    (Ok (whole (pos 2)) ∷ Err UnknownName ∷ []) ≡ Err UnknownName
name_before_comparison = refl

comparison : extreme_of Bound.Greatest (ratio greatest (pos 2)) (Ok (ratio (pos 1) (pos 3)) ∷ []) ≡ Err OutOfRange
comparison = refl

-- an operator comes before the operands behind it: 1/0 + unknown has a zero divisor
divisor_before_name : chain_of (whole (pos 1))
    ((Operator.Over, Ok (whole (pos 0))) ∷ (Operator.Plus, Err UnknownName) ∷ []) ≡ Err ZeroDivisor
divisor_before_name = refl

-- 7 - 2 - 1 is 4: operators are taken from the left
from_the_left : chain_of (whole (pos 7))
    ((Operator.Minus, Ok (whole (pos 2))) ∷ (Operator.Minus, Ok (whole (pos 1))) ∷ []) ≡ Ok (whole (pos 4))
unfolding divisor_of remainders lowest
from_the_left = refl

-- ` 1ns +2ns ` is a sum of two times
sum_text : Spells (codes " 1ns +2ns ")
    (linked (chain (number (whole (pos 1)) Nanoseconds)) Operator.Plus (number (whole (pos 2)) Nanoseconds)) true
unfolding is_blank is_digit begins_name unit_front number_front sign_front front_of lexed lowest divisor_of remainders is_word
sum_text = read_is_so _ _ _ refl

-- `2.50us` is 5/2 of a microsecond
decimal_text : Spells (codes "2.50us") (number (ratio (pos 5) (pos 2)) Microseconds) true
unfolding is_blank is_digit begins_name unit_front number_front sign_front front_of lexed lowest divisor_of remainders is_word
decimal_text = read_is_so _ _ _ refl

-- `min` before a parenthesis is a function, and elsewhere a name
call_text : Spells (codes "min (a, \"min\")") (also (extreme Bound.Least (name (codes "a"))) (name (codes "min"))) true
unfolding is_blank is_digit begins_name may_be_quoted paren_len short_name word_front quoted_front sign_front front_of lexed is_word is_printable
call_text = read_is_so _ _ _ refl

name_text : Spells (codes "min*2") (linked (chain (name (codes "min"))) Operator.Times (number (whole (pos 2)) Plain)) true
unfolding is_blank is_digit begins_name may_be_quoted paren_len short_name word_front unit_front number_front is_word is_printable
    sign_front front_of lexed lowest divisor_of remainders
name_text = read_is_so _ _ _ refl

-- parentheses leave no trace where one operand stands in them
paren_text : Spells (codes "((7))") (number (whole (pos 7)) Plain) true
unfolding is_blank is_digit begins_name unit_front number_front sign_front front_of lexed lowest divisor_of remainders is_word
paren_text = read_is_so _ _ _ refl

-- a unit apart from its number, a sign at the head and one operand of `min` are refused
apart_text : IsFault (codes "1 ns") BadExpr
unfolding is_blank is_digit begins_name paren_len short_name word_front unit_front number_front sign_front front_of lexed is_word
    lowest divisor_of remainders
apart_text = none_spelled _ refl

sign_text : IsFault (codes "-1") BadExpr
unfolding is_blank is_digit begins_name unit_front number_front sign_front front_of lexed lowest divisor_of remainders is_word
sign_text = none_spelled _ refl

one_text : IsFault (codes "min(1)") BadExpr
unfolding is_blank is_digit begins_name paren_len short_name word_front unit_front number_front sign_front front_of lexed is_word
    lowest divisor_of remainders
one_text = none_spelled _ refl

-- 2^127 is out of range, and so is a number of 39 decimals
range_text : IsFault (codes "170141183460469231731687303715884105728") OutOfRange
unfolding is_blank is_digit begins_name unit_front number_front sign_front front_of lexed is_word
range_text = (_, read_is_so _ _ _ refl)

decimals_text : IsFault (codes "0.000000000000000000000000000000000000000") OutOfRange
unfolding is_blank is_digit begins_name unit_front number_front sign_front front_of lexed is_word
decimals_text = (_, read_is_so _ _ _ refl)
