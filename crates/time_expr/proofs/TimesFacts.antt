-- Known times of texts and of variables, whose values and faults the definitions must give.
use Rattle.std.proofs.Common.{◌≡◌, ℕ, ℤ, pos, List, [], ◌∷◌, Some, Result, Ok, Err, refl}
use Rattle.std.specs.Prelude.{codes}
use Rattle.stil_ast.specs.Data.Places.{Place}
use Rattle.stil_ast.specs.Meaning.Times.{Met, in_text, elsewhere, time_at}
use Rattle.stil_ast.specs.Meaning.Variables.{Variable, value_of}
use Rattle.stil_ast.specs.declared.fault.StilFault.{StilFault}
use Rattle.stil_ast.specs.declared.fault.StilKind.{StilKind}
use Rattle.stil_ast.specs.declared.fault.StilKind.TheVariants.{BadExpr, OutOfRange, UnknownName, ZeroDivisor, NotWhole, Cyclic}
use Rattle.expr_text.specs.Range.{divisor_of, remainders}
use Rattle.expr_text.specs.Ratio.{Ratio, whole, lowest, lowest_signed}
use Rattle.text_bytes.specs.Bytes.{is_blank, is_digit, begins_name, is_word}
use Rattle.expr_text.specs.Front.{unit_front, number_front, paren_len, short_name, word_front, sign_front, front_of, lexed}
use Rattle.time_expr.specs.TimesOf.{times_of}

-- names that stand for nothing
abbrev no_names : List ℕ → Result Ratio Met
no_names name = Err (in_text UnknownName)

abbrev alone : List ℕ → Result Ratio Met
alone text = times_of.value no_names text

-- what stands farther left is met first: a zero divisor before an unknown name, and the other way round
pub divisor_before_name : alone (codes "1/0 + x") ≡ Err (in_text ZeroDivisor)
unfolding is_blank is_digit begins_name is_word paren_len short_name word_front unit_front number_front sign_front front_of lexed
    lowest divisor_of remainders
divisor_before_name = refl

pub name_before_divisor : alone (codes "x + 1/0") ≡ Err (in_text UnknownName)
unfolding is_blank is_digit begins_name is_word paren_len short_name word_front unit_front number_front sign_front front_of lexed
    lowest divisor_of remainders
name_before_divisor = refl

-- all operands of `min` are evaluated before the first comparison
pub name_in_min : alone (codes "min(2ns, 1ns, x)") ≡ Err (in_text UnknownName)
unfolding is_blank is_digit begins_name is_word paren_len short_name word_front unit_front number_front sign_front front_of lexed
    lowest divisor_of remainders
name_in_min = refl

pub least_of_three : alone (codes "min(2ns, 1ns, 3ns)") ≡ Ok (whole (pos 1000000))
unfolding is_blank is_digit begins_name is_word paren_len short_name word_front unit_front number_front sign_front front_of lexed
    lowest divisor_of remainders
least_of_three = refl

-- a text is read whole before it is evaluated
pub form_before_divisor : alone (codes "1/0 +") ≡ Err (in_text BadExpr)
unfolding is_blank is_digit begins_name is_word paren_len short_name word_front unit_front number_front sign_front front_of lexed
    lowest divisor_of remainders
form_before_divisor = refl

pub range_before_divisor : alone (codes "1/0 + 170141183460469231731687303715884105728") ≡ Err (in_text OutOfRange)
unfolding is_blank is_digit begins_name is_word paren_len short_name word_front unit_front number_front sign_front front_of lexed
    lowest divisor_of remainders
range_before_divisor = refl

abbrev in_spec : ℕ → Place
in_spec line = record { block = codes "Spec"; name = []; line = line }

abbrev variable : List ℕ → ℕ → List ℕ → Variable
variable name line text =
    record { name = name; text = Some (record { text = text; line = line }); place = in_spec line }

abbrev spec_fault : StilKind → ℕ → StilFault
spec_fault kind line = record { kind = kind; block = codes "Spec"; name = []; line = line }

-- a variable's value is that of its text under the same variables
pub sum_of_variables : value_of times_of (variable (codes "a") 5 (codes "b + 1ns") ∷ variable (codes "b") 6 (codes "2ns") ∷ []) (codes "a")
    ≡ Ok (whole (pos 3000000))
unfolding is_blank is_digit begins_name is_word paren_len short_name word_front unit_front number_front sign_front front_of lexed
    lowest divisor_of remainders
sum_of_variables = refl

-- variables that need each other, met in the text of the second
pub around : value_of times_of (variable (codes "a") 5 (codes "b") ∷ variable (codes "b") 6 (codes "1ns + a") ∷ []) (codes "a")
    ≡ Err (elsewhere (spec_fault Cyclic 6))
unfolding is_blank is_digit begins_name is_word paren_len short_name word_front unit_front number_front sign_front front_of lexed
    lowest divisor_of remainders
around = refl

-- what is met in a variable's text stands there, and what stands left of it comes first
pub divisor_before_cycle : value_of times_of (variable (codes "a") 5 (codes "b") ∷ variable (codes "b") 6 (codes "1/0 + a") ∷ []) (codes "a")
    ≡ Err (elsewhere (spec_fault ZeroDivisor 6))
unfolding is_blank is_digit begins_name is_word paren_len short_name word_front unit_front number_front sign_front front_of lexed
    lowest divisor_of remainders
divisor_before_cycle = refl

abbrev in_timing : Place
in_timing = record { block = codes "Timing"; name = codes "t"; line = 0 }

abbrev time : List ℕ → Result ℤ StilFault
time text = time_at times_of no_names in_timing (record { text = text; line = 7 })

-- a time is a whole number of femtoseconds
pub not_whole : time (codes "10ns/3") ≡ Err (record { kind = NotWhole; block = codes "Timing"; name = codes "t"; line = 7 })
unfolding is_blank is_digit begins_name is_word paren_len short_name word_front unit_front number_front sign_front front_of lexed
    lowest lowest_signed divisor_of remainders
not_whole = refl

pub whole_third : time (codes "9ns/3") ≡ Ok (pos 3000000)
unfolding is_blank is_digit begins_name is_word paren_len short_name word_front unit_front number_front sign_front front_of lexed
    lowest lowest_signed divisor_of remainders
whole_third = refl

-- the greatest number twice is out of range, and once it is a time
pub twice_the_greatest : time (codes "170141183460469231731687303715884105727*2")
    ≡ Err (record { kind = OutOfRange; block = codes "Timing"; name = codes "t"; line = 7 })
unfolding is_blank is_digit begins_name is_word paren_len short_name word_front unit_front number_front sign_front front_of lexed
    lowest lowest_signed divisor_of remainders
twice_the_greatest = refl

pub once_the_greatest : time (codes "170141183460469231731687303715884105727*1") ≡ Ok (pos 170141183460469231731687303715884105727)
unfolding is_blank is_digit begins_name is_word paren_len short_name word_front unit_front number_front sign_front front_of lexed
    lowest lowest_signed divisor_of remainders
once_the_greatest = refl
