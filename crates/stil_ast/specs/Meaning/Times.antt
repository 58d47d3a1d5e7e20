-- What definitions need of time texts, whose grammar and values stand elsewhere (IEEE 1450-1999, clause 6, timing
-- expressions).
use Rattle.std.specs.Prelude.{ℕ, ℤ, List, Option, Some, None, Result, Ok, Err}
use Rattle.stil_ast.specs.Data.Places.{Place}
use Rattle.stil_ast.specs.Faults.Found.{fault_at, on_line}
use Rattle.stil_ast.specs.declared.fault.StilFault.{StilFault}
use Rattle.stil_ast.specs.declared.fault.StilKind.{StilKind}
use Rattle.stil_ast.specs.declared.fault.StilKind.TheVariants.{NotWhole}
use Rattle.stil_ast.specs.declared.name.Quoted.{Quoted}

-- a fault that is met while a text is evaluated: in this text, or in that of a variable which it needs
pub data Met : Type 0 where
  in_text : StilKind → Met
  elsewhere : StilFault → Met

-- how texts are evaluated: the value or the first fault that is met, where names have the values that a function
-- gives; and which values are whole numbers of femtoseconds
pub record Times (V : Type 0) : Type 0 where
  pub value : (List ℕ → Result V Met) → List ℕ → Result V Met
  pub whole : V → Option ℤ

-- a fault has the line of the text in which it is met
abbrev pub met_at : Place → Met → StilFault
met_at p (in_text kind) = fault_at p kind
met_at p (elsewhere fault) = fault

-- a time is a whole number
abbrev pub or_not_whole : Place → Option ℤ → Result ℤ StilFault
or_not_whole p None = Err (fault_at p NotWhole)
or_not_whole p (Some time) = Ok time

-- a value that is to be a time
abbrev pub whole_at : {V : Type 0} → Times V → Place → Result V Met → Result ℤ StilFault
whole_at times p (Err met) = Err (met_at p met)
whole_at times p (Ok v) = or_not_whole p (times.whole v)

-- a time in a text, a whole number of femtoseconds
abbrev pub time_at : {V : Type 0} → Times V → (List ℕ → Result V Met) → Place → Quoted → Result ℤ StilFault
time_at times vars p q = whole_at times (on_line p q.line) (times.value vars q.text)
