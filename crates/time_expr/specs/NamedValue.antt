-- The value of an expression whose names have values, or faults, of their own (IEEE 1450-1999, clauses 6 and 19).
use Rattle.std.specs.Prelude.{ℕ, List, [], ◌∷◌, ◌++◌, Result, Ok, Err}
use Rattle.stil_ast.specs.Meaning.Times.{Met, in_text}
use Rattle.stil_ast.specs.declared.fault.StilKind.{StilKind}
use Rattle.stil_ast.specs.declared.fault.StilKind.TheVariants as stil
use Rattle.expr_text.specs.Ratio.{Ratio, whole, product_of}
use Rattle.expr_text.specs.Unit.{femtoseconds_of}
use Rattle.expr_text.specs.Tree.{Tree, number, name, chain, linked, extreme, also}
use Rattle.expr_text.specs.Value.{applied_of, best_of_all}
use Rattle.expr_text.specs.declared.expr.Bound.{Bound}
use Rattle.expr_text.specs.declared.fault.ExprFault.{ExprFault}
use Rattle.expr_text.specs.declared.fault.ExprFault.TheVariants.{NoMemory, BadExpr, OutOfRange, UnknownName, ZeroDivisor}

-- the kind of a fault of an expression; want of memory is no fault of a text
abbrev pub kind_of : ExprFault → StilKind
kind_of NoMemory = stil.BadExpr
kind_of BadExpr = stil.BadExpr
kind_of OutOfRange = stil.OutOfRange
kind_of UnknownName = stil.UnknownName
kind_of ZeroDivisor = stil.ZeroDivisor

-- what arithmetic gives; its fault is met in the text itself
abbrev pub met_of : {A : Type 0} → Result A ExprFault → Result A Met
met_of (Ok x) = Ok x
met_of (Err fault) = Err (in_text (kind_of fault))

-- the next step, unless something was met
abbrev pub unless_met : {A B : Type 0} → Result A Met → (A → Result B Met) → Result B Met
unless_met (Ok x) next = next x
unless_met (Err met) next = Err met

-- what is known of a tree: its value or what was met, or the values of the operands so far of a least or greatest
pub data Known : Type 0 where
  plain : Result Ratio Met → Known
  several : Bound → Ratio → List Ratio → Known

-- the value of what is known; operands are compared once all of them have values
abbrev pub settled : Known → Result Ratio Met
settled (plain found) = found
settled (several bound first others) = met_of (best_of_all bound (Ok first) others)

-- the first operand of a least or greatest
abbrev pub begun : Bound → Result Ratio Met → Known
begun bound (Ok first) = several bound first []
begun bound (Err met) = plain (Err met)

-- one operand more
abbrev pub with_operand : Known → Result Ratio Met → Known
with_operand (plain found) operand = plain found
with_operand (several bound first others) (Ok other) = several bound first (others ++ other ∷ [])
with_operand (several bound first others) (Err met) = plain (Err met)

-- what is known of a tree, where `names` gives what names stand for; operands are evaluated from the left
abbrev pub known_by : (List ℕ → Result Ratio Met) → Tree → Known
known_by names (number value unit) = plain (met_of (product_of value (whole (femtoseconds_of unit))))
known_by names (name bytes) = plain (names bytes)
known_by names (chain t) = plain (settled (known_by names t))
known_by names (linked t op u) =
    plain (unless_met (settled (known_by names t)) (λ r.
    unless_met (settled (known_by names u)) (λ s. met_of (applied_of op r s))))
known_by names (extreme bound t) = begun bound (settled (known_by names t))
known_by names (also t u) = with_operand (known_by names t) (settled (known_by names u))

-- the value of a tree, or the first thing that is met
abbrev pub value_by : (List ℕ → Result Ratio Met) → Tree → Result Ratio Met
value_by names t = settled (known_by names t)
