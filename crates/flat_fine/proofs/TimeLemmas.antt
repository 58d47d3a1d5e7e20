-- A time that a flat text writes is read back as the number that it is.
use Rattle.std.proofs.Common.{◌≡◌, ℕ, ℤ, pos, ◌*ℤ◌, unsigned_abs, ◌+◌, ◌-◌, ◌*◌, ◌%◌, ◌^◌, ◌<◌, ◌≤◌, Bool, true, List, [], ◌∷◌, ◌++◌, Option, Some, Result, Ok, refl, sym, ap, subst, ◌∙◌, arith, cond}
use Rattle.std.specs.Prelude.{decimal, nat_lt, if◌then◌else◌}
use Rattle.std.specs.List.{list_all}
use Rattle.std.proofs.lemmas.Bool.{lt-ltb, and_from}
use Rattle.std.proofs.Math.Nat.{div-one}
use Rattle.std.proofs.lemmas.Fmt.{decimal_by_steps, decimal_nonempty}
use Rattle.std.proofs.lemmas.List.{append-nil}
use Rattle.text_bytes.specs.Bytes.{is_digit}
use Rattle.text_bytes.specs.Limits.{longest_period}
use Rattle.text_bytes.proofs.DigitLemmas.{digit_is, decimal_all}
use Rattle.stil_ast.specs.Data.Places.{Place}
use Rattle.stil_ast.specs.Faults.Found.{on_line}
use Rattle.stil_ast.specs.Meaning.Times.{Met, whole_at, time_at}
use Rattle.expr_text.specs.Range.{divisor_of, remainders}
use Rattle.expr_text.specs.Ratio.{Ratio, whole, lowest}
use Rattle.expr_text.specs.Tree.{Tree, number}
use Rattle.expr_text.specs.Lexeme.{literal, digits_from, fits, number_of, IsNumber}
use Rattle.expr_text.specs.Grammar.{of_term, of_sum, Parses.is_number, Parses.is_one}
use Rattle.expr_text.specs.Spelling.{Spells}
use Rattle.time_expr.specs.NamedValue.{met_of}
use Rattle.time_expr.specs.TimesOf.{value_read, times_of}
use Rattle.expr_text.specs.declared.fault.ExprFault.{ExprFault}
use Rattle.expr_text.specs.declared.unit.Unit.TheVariants.{Femtoseconds}
use Rattle.expr_text.proofs.NumberLemmas.{digits_from-append}
use Rattle.expr_text.proofs.ReadLemmas.{so_is_read}
use Rattle.expr_text.proofs.ValueLemmas.{unit_value}
use Rattle.flat_parts.specs.FlatBlocks.{time_text}

-- a number is written in digits
pub are_digits : (n : ℕ) → list_all is_digit (decimal n) ≡ true
are_digits n = decimal_all is_digit digit_is n

-- its digits spell it
pub digits_spell : (n : ℕ) → n < 2 ^ 64 → digits_from 0 (decimal n) ≡ n
digits_spell n small =
    decimal_by_steps (λ m ds. digits_from 0 ds ≡ m)
    (λ m l. omega arith)
    (λ m ds l h. digits_from-append 0 ds ((48 + m % 10) ∷ []) ∙ ap (λ (k : ℕ). k * 10 + (48 + m % 10 - 48)) h ∙ omega arith)
    n small

-- the digits of a time, as what is read of them
abbrev spelled_by : ℕ → ℕ
spelled_by n = digits_from 0 (decimal n ++ [])

spelled_is : (n : ℕ) → n < 2 ^ 64 → spelled_by n ≡ n
spelled_is n small = ap (digits_from 0) (append-nil (decimal n)) ∙ digits_spell n small

-- a small number is in range
small_fits : (n : ℕ) → n ≤ longest_period → fits n 0 ≡ true
small_fits n few = and_from (nat_lt n (2 ^ 127)) true (lt-ltb n (2 ^ 127) (omega (arith, few))) refl

-- the text of a time is a number
time_is_number : (n : ℕ) → n < 2 ^ 64 → IsNumber (number_of (spelled_by n) 0 Femtoseconds) (time_text n)
time_is_number n small = record {
  digits = decimal n;
  decimals = [];
  unit = Femtoseconds;
  spelled = refl;
  some = decimal_nonempty n small;
  are_digits = are_digits n;
  are_decimals = refl;
  is = refl;
}

-- a whole number in lowest terms
lowest_whole : (n : ℕ) → lowest (pos n) (pos 1) ≡ whole (pos n)
unfolding lowest divisor_of remainders
lowest_whole n = ap (λ (m : ℕ). record { numerator = pos m; denominator = pos 1 }) (div-one n)

-- the value of a number without decimals
abbrev value_of : ℕ → Ratio
value_of n = if fits n 0 then lowest (pos n) (pos (10 ^ 0)) else whole (pos 0)

value_is : (n : ℕ) → n ≤ longest_period → value_of n ≡ whole (pos n)
value_is n few =
    ap (λ (b : Bool). cond b (lowest (pos n) (pos 1)) (whole (pos 0))) (small_fits n few) ∙ lowest_whole n

-- the text of a time spells a number
time_spells : (n : ℕ) → n ≤ longest_period → Spells (time_text n) (number (value_of (spelled_by n)) Femtoseconds) true
time_spells n few =
    let small : n < 2 ^ 64 = omega (arith, few) in
    record {
      lexemes = literal (number_of (spelled_by n) 0 Femtoseconds) ∷ [];
      reads = record {
        blanks = [];
        piece = time_text n;
        rest = [];
        spelled = sym (append-nil (time_text n));
        are_blank = refl;
        is_lexeme = time_is_number n small;
        goes_on = refl;
      };
      parses = is_one of_sum 0 _ _ (is_one of_term 0 _ _ (is_number 0 (number_of (spelled_by n) 0 Femtoseconds)));
      judged = and_from (fits (spelled_by n) 0) true (ap (λ (k : ℕ). fits k 0) (spelled_is n small) ∙ small_fits n few) refl;
    }

-- and no other number
spelled_value : (n : ℕ) → n ≤ longest_period → value_of (spelled_by n) ≡ whole (pos n)
spelled_value n few =
    let small : n < 2 ^ 64 = omega (arith, few) in
    ap value_of (spelled_is n small) ∙ value_is n few

-- times 1 it is itself
times_one : (n : ℕ) → pos n *ℤ pos 1 ≡ pos n
times_one n = ap pos (omega arith)

-- a time text is its number
pub time_is : (n : ℕ) → n ≤ longest_period → (vars : List ℕ → Result Ratio Met) (place : Place) (line : ℕ)
    → time_at times_of vars place (record { text = time_text n; line = line }) ≡ Ok (pos n)
time_is n few vars place line =
    let in_range : unsigned_abs (pos n *ℤ pos 1) < 2 ^ 127 = subst (λ (z : ℤ). unsigned_abs z < 2 ^ 127) (sym (times_one n))
    (omega (arith, few)) in
    ap (λ (r : Option (Tree × Bool)). whole_at times_of (on_line place line) (value_read vars r))
    (so_is_read (time_text n) (number (value_of (spelled_by n)) Femtoseconds) true (time_spells n few))
    ∙ ap (λ (r : Ratio). whole_at times_of (on_line place line) (value_read vars (Some (number r Femtoseconds, true))))
    (spelled_value n few)
    ∙ ap (λ (r : Result Ratio ExprFault). whole_at times_of (on_line place line) (met_of r)) (unit_value (pos n) Femtoseconds in_range)
    ∙ ap (λ (z : ℤ). Ok z) (times_one n)
