-- The time in a text, where names stand for values (IEEE 1450-1999, clauses 6 and 19).
use Rattle.std.specs.Prelude.{◌≡◌, ◌⊎◌, ℕ, ℤ, List, Result, Ok, Err}
use Rattle.stil_ast.specs.Data.Places.{Place}
use Rattle.stil_ast.specs.Meaning.Times.{Met, time_at}
use Rattle.stil_ast.specs.Faults.Found.{fault_at, on_line}
use Rattle.stil_ast.specs.declared.fault.StilFault.{StilFault}
use Rattle.stil_ast.specs.declared.fault.StilKind.{StilKind}
use Rattle.stil_ast.specs.declared.name.Quoted.{Quoted}
use Rattle.expr_text.specs.Ratio.{Ratio}
use Rattle.expr_text.specs.Vars.{value_of_name}
use Rattle.expr_text.specs.Value.{Outcome, named_of}
use Rattle.time_expr.specs.NamedValue.{met_of}
use Rattle.time_expr.specs.TimesOf.{times_of}
use Rattle.expr_text.specs.declared.fault.ExprFault.TheVariants.{NoMemory}

-- names that have these values, and no other name is known
abbrev pub AreNames : (List ℕ → Result Ratio Met) → List (List ℕ × Ratio) → Type 0
AreNames names vars = (name : List ℕ) → names name ≡ met_of (named_of (value_of_name name vars))

-- a time, or the kind of a fault that stands in this line
abbrev pub in_line : Place → ℕ → Result ℤ StilKind → Result ℤ StilFault
in_line place line (Ok time) = Ok time
in_line place line (Err kind) = Err (fault_at (on_line place line) kind)

-- the text has this time, or a fault of this kind, in whatever block it stands
abbrev pub HasTime : List (List ℕ × Ratio) → Quoted → Result ℤ StilKind → Type 0
HasTime vars q answer =
    (names : List ℕ → Result Ratio Met) (place : Place) → AreNames names vars
    → time_at times_of names place q ≡ in_line place q.line answer

-- what the code says of a text's value: this is it, unless memory ran out
abbrev pub IsValueIn : List (List ℕ × Ratio) → List ℕ → Outcome → Type 0
IsValueIn vars text answer =
    (answer ≡ Err NoMemory)
    ⊎ ((names : List ℕ → Result Ratio Met) → AreNames names vars → times_of.value names text ≡ met_of answer)
