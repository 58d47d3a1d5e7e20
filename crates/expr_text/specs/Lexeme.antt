-- The lexemes of an expression, each by its spelling, and what lexemes a text is read as.
use Rattle.std.specs.Prelude.{◌≡◌, ℕ, pos, ◌+◌, ◌-◌, ◌*◌, ◌^◌, ◌<◌, ◌≤◌, Bool, true, nat_lt, ◌&&◌, ◌⊎◌, List, [], ◌∷◌, ◌++◌, length, Option, Some, None, if◌then◌else◌}
use Rattle.std.specs.List.{list_all}
use Rattle.text_bytes.specs.Limits.{longest_name}
use Rattle.expr_text.specs.Ratio.{whole, lowest}
use Rattle.expr_text.specs.Bytes.{double_quote, open_paren, point, may_be_quoted}
use Rattle.text_bytes.specs.Bytes.{is_blank, is_digit, begins_name, is_word, begins_with}
use Rattle.expr_text.specs.declared.unit.Unit.{Unit}
use Rattle.expr_text.specs.declared.unit.Unit.TheVariants.{Plain, Seconds, Milliseconds, Microseconds, Nanoseconds, Picoseconds, Femtoseconds}
use Rattle.expr_text.specs.declared.expr.Operator.{Operator}
use Rattle.expr_text.specs.declared.expr.Operator.TheVariants.{Plus, Minus, Times, Over}
use Rattle.expr_text.specs.declared.expr.Bound.{Bound}
use Rattle.expr_text.specs.declared.expr.Bound.TheVariants.{Least, Greatest}
use Rattle.expr_text.specs.declared.token.Number.{Number}

-- what an expression is a sequence of, where blanks are left out
pub data Lexeme : Type 0 where
  literal : Number → Lexeme
  word : List ℕ → Lexeme
  operator : Operator → Lexeme
  -- `(`, where `min` or `max` stands before it with this
  opening : Option Bound → Lexeme
  comma : Lexeme
  closing : Lexeme

-- the number that digits are, behind the number of those before them
abbrev pub digits_from : ℕ → List ℕ → ℕ
digits_from n [] = n
digits_from n (d ∷ ds) = digits_from (n * 10 + (d - 0x30)) ds

-- all digits of a literal as one number, and the power of ten of its decimals, are at most 2^127 - 1
abbrev pub fits : ℕ → ℕ → Bool
fits digits decimals = nat_lt digits (2 ^ 127) && nat_lt (10 ^ decimals) (2 ^ 127)

-- the literal of all its digits as one number, so many of them decimals; out of range, it stands for 0 and is marked
abbrev pub number_of : ℕ → ℕ → Unit → Number
number_of digits decimals unit = record {
  value = if fits digits decimals then lowest (pos digits) (pos (10 ^ decimals)) else whole (pos 0);
  unit = unit;
  in_range = fits digits decimals;
}

-- how a unit is written
abbrev pub unit_text : Unit → List ℕ
unit_text Plain = []
unit_text Seconds = 115 ∷ []
unit_text Milliseconds = 109 ∷ 115 ∷ []
unit_text Microseconds = 117 ∷ 115 ∷ []
unit_text Nanoseconds = 110 ∷ 115 ∷ []
unit_text Picoseconds = 112 ∷ 115 ∷ []
unit_text Femtoseconds = 102 ∷ 115 ∷ []

-- decimals stand behind a point
abbrev pub pointed : List ℕ → List ℕ
pointed [] = []
pointed (d ∷ ds) = point ∷ d ∷ ds

-- digits, maybe a point and decimals, and directly behind them the unit
pub record IsNumber (number : Number) (text : List ℕ) : Type 0 where
  pub digits : List ℕ
  pub decimals : List ℕ
  pub unit : Unit
  pub spelled : text ≡ digits ++ (pointed decimals ++ unit_text unit)
  pub some : 0 < length digits
  pub are_digits : list_all is_digit digits ≡ true
  pub are_decimals : list_all is_digit decimals ≡ true
  pub is : number ≡ number_of (digits_from 0 (digits ++ decimals)) (length decimals) unit

-- letters, digits and `_`, the first of them no digit
pub record IsBareName (name text : List ℕ) : Type 0 where
  pub spelled : text ≡ name
  pub begins : begins_with begins_name name ≡ true
  pub each : list_all is_word name ≡ true
  pub short : length name ≤ longest_name

-- printing bytes and spaces in double quotes
pub record IsQuotedName (name text : List ℕ) : Type 0 where
  pub spelled : text ≡ double_quote ∷ (name ++ double_quote ∷ [])
  pub some : 0 < length name
  pub each : list_all may_be_quoted name ≡ true
  pub short : length name ≤ longest_name

-- the sign of an operator
abbrev pub sign_of : Operator → ℕ
sign_of Plus = 43
sign_of Minus = 45
sign_of Times = 42
sign_of Over = 47

-- `min` and `max`
abbrev pub bound_text : Bound → List ℕ
bound_text Least = 109 ∷ 105 ∷ 110 ∷ []
bound_text Greatest = 109 ∷ 97 ∷ 120 ∷ []

-- `min` or `max`, and `(` behind it
pub record IsCall (bound : Bound) (text : List ℕ) : Type 0 where
  pub blanks : List ℕ
  pub spelled : text ≡ bound_text bound ++ (blanks ++ open_paren ∷ [])
  pub are_blank : list_all is_blank blanks ≡ true

-- `(` alone, or behind `min` or `max`
abbrev pub IsOpening : Option Bound → List ℕ → Type 0
IsOpening None text = text ≡ open_paren ∷ []
IsOpening (Some bound) text = IsCall bound text

-- how a lexeme is written
abbrev pub IsLexeme : Lexeme → List ℕ → Type 0
IsLexeme (literal n) text = IsNumber n text
IsLexeme (word bytes) text = IsBareName bytes text ⊎ IsQuotedName bytes text
IsLexeme (operator op) text = text ≡ sign_of op ∷ []
IsLexeme (opening bound) text = IsOpening bound text
IsLexeme comma text = text ≡ 44 ∷ []
IsLexeme closing text = text ≡ 41 ∷ []

-- a literal in range, or what isn't a literal
abbrev pub is_in_range : Lexeme → Bool
is_in_range (literal n) = n.in_range
is_in_range (word bytes) = true
is_in_range (operator op) = true
is_in_range (opening bound) = true
is_in_range comma = true
is_in_range closing = true
