-- Whole texts with times that are spelled: their cycles and their first faults.
use Rattle.std.proofs.Common.{◌≡◌, ℕ, List, [], ◌∷◌, Option, Some, None, refl, codes}
use Rattle.stil_ast.specs.Data.Written.{no_more}
use Rattle.stil_ast.specs.Faults.FrontFaults.{read_as, fault_of_front}
use Rattle.stil_ast.specs.declared.timing.SignalWaves.{SignalWaves}
use Rattle.tester_types.specs.declared.signal.Direction.TheVariants.{Out}
use Rattle.stil_ast.specs.declared.blocks.Blocks.{Blocks}
use Rattle.stil_ast.specs.declared.fault.StilFault.{StilFault}
use Rattle.stil_ast.specs.declared.fault.StilKind.{StilKind}
use Rattle.stil_ast.specs.declared.fault.StilKind.TheVariants.{BadExpr, NotWhole, OutOfRange, EventOutside, ZeroDivisor}
use Rattle.stil_ast.proofs.StandardFacts.Texts.{signal, by_name, table, text_of}
use Rattle.tester_types.specs.declared.wave.Act.TheVariants.{Look}
use Rattle.tester_types.specs.declared.wave.Look.TheVariants.{Low}
use Rattle.expr_text.specs.Range.{divisor_of, remainders}
use Rattle.expr_text.specs.Ratio.{lowest, lowest_signed}
use Rattle.text_bytes.specs.Bytes.{is_blank, is_digit, begins_name, is_word}
use Rattle.expr_text.specs.Front.{unit_front, number_front, paren_len, short_name, word_front, sign_front, front_of, lexed}
use Rattle.time_expr.specs.TimesOf.{times_of}

-- `y { L { 'time' L; } }`
abbrev strobed : List ℕ → SignalWaves
strobed time = record {
  reference = by_name (codes "y");
  waves = record {
    characters = codes "L";
    events = record { time = record { text = time; line = 7 }; acts = Look Low ∷ [] } ∷ [];
  } ∷ [];
  line = 7;
}

-- signal y, a period of 100ns, and an event at this time
abbrev strobe_at : List ℕ → Blocks
strobe_at time = text_of (signal (codes "y") Out ∷ []) [] (table (codes "w") (codes "100ns") (strobed time ∷ []) ∷ []) [] [] no_more

abbrev first_fault : List ℕ → Option StilFault
first_fault time = fault_of_front times_of (read_as (strobe_at time))

abbrev refused : StilKind → Option StilFault
refused kind = Some (record { kind = kind; block = codes "Timing"; name = codes "t"; line = 7 })

-- a third of 10ns is no whole number of femtoseconds, and a third of 9ns is
pub third_of_ten : first_fault (codes "10ns/3") ≡ refused NotWhole
unfolding is_blank is_digit begins_name is_word paren_len short_name word_front unit_front number_front sign_front front_of lexed
    lowest lowest_signed divisor_of remainders
third_of_ten = refl

pub third_of_nine : first_fault (codes "9ns/3") ≡ None
unfolding is_blank is_digit begins_name is_word paren_len short_name word_front unit_front number_front sign_front front_of lexed
    lowest lowest_signed divisor_of remainders
third_of_nine = refl

-- the greatest number is a time, but it isn't below the period; twice of it is out of range
pub greatest_twice : first_fault (codes "170141183460469231731687303715884105727*2") ≡ refused OutOfRange
unfolding is_blank is_digit begins_name is_word paren_len short_name word_front unit_front number_front sign_front front_of lexed
    lowest lowest_signed divisor_of remainders
greatest_twice = refl

pub greatest_once : first_fault (codes "170141183460469231731687303715884105727*1") ≡ refused EventOutside
unfolding is_blank is_digit begins_name is_word paren_len short_name word_front unit_front number_front sign_front front_of lexed
    lowest lowest_signed divisor_of remainders
greatest_once = refl

-- a zero divisor, before a name that is unknown; and a text that is no time
pub divisor_first : first_fault (codes "1ns/0 + x") ≡ refused ZeroDivisor
unfolding is_blank is_digit begins_name is_word paren_len short_name word_front unit_front number_front sign_front front_of lexed
    lowest lowest_signed divisor_of remainders
divisor_first = refl

pub no_time : first_fault (codes "1 ns") ≡ refused BadExpr
unfolding is_blank is_digit begins_name is_word paren_len short_name word_front unit_front number_front sign_front front_of lexed
    lowest lowest_signed divisor_of remainders
no_time = refl

-- a time before the cycle's start
pub before_start : first_fault (codes "1ns - 2ns") ≡ refused EventOutside
unfolding is_blank is_digit begins_name is_word paren_len short_name word_front unit_front number_front sign_front front_of lexed
    lowest lowest_signed divisor_of remainders
before_start = refl
