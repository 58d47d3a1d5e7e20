-- The exact value of an expression, or the first fault that the evaluation meets.
use Rattle.std.specs.Prelude.{ℕ, List, [], ◌∷◌, map, Option, Some, None, Result, Ok, Err}
use Rattle.expr_text.specs.declared.fault.ExprFault.{ExprFault}
use Rattle.expr_text.specs.declared.fault.ExprFault.TheVariants.{UnknownName}
use Rattle.expr_text.specs.declared.expr.Operator.{Operator}
use Rattle.expr_text.specs.declared.expr.Operator.TheVariants.{Plus, Minus, Times, Over}
use Rattle.expr_text.specs.declared.expr.Bound.{Bound}
use Rattle.expr_text.specs.declared.expr.Bound.TheVariants.{Least, Greatest}
use Rattle.expr_text.specs.declared.expr.Expr.{Expr}
use Rattle.expr_text.specs.declared.expr.Expr.TheOpen.{Expr-F}
use Rattle.expr_text.specs.declared.expr.Expr.TheFolds.{fold-Expr}
use Rattle.expr_text.specs.Ratio.{Ratio, whole, given, sum_of, difference_of, product_of, quotient_of, least_of, greatest_of}
use Rattle.expr_text.specs.Unit.{femtoseconds_of}
use Rattle.expr_text.specs.Vars.{value_of_name}

-- a value, or a fault
abbrev pub Outcome : Type 0
Outcome = Result Ratio ExprFault

-- what an operator makes of two values
abbrev pub applied_of : Operator → Ratio → Ratio → Outcome
applied_of Plus r s = sum_of r s
applied_of Minus r s = difference_of r s
applied_of Times r s = product_of r s
applied_of Over r s = quotient_of r s

-- a chain goes on from a value: each operand is evaluated, then its operator applied, from the left
abbrev pub chain_of : Ratio → List (Operator × Outcome) → Outcome
chain_of r [] = Ok r
chain_of r (link ∷ links) = given link.1 (λ s. given (applied_of link.0 r s) (λ t. chain_of t links))

-- the better of two values
abbrev pub best_of : Bound → Ratio → Ratio → Outcome
best_of Least r s = least_of r s
best_of Greatest r s = greatest_of r s

-- the better of an outcome and a value
abbrev pub better_of : Bound → Outcome → Ratio → Outcome
better_of bound best s = given best (λ r. best_of bound r s)

-- all the values, or the first fault among them
abbrev pub all_of : List Outcome → Result (List Ratio) ExprFault
all_of [] = Ok []
all_of (v ∷ vs) = given v (λ r. given (all_of vs) (λ rs. Ok (r ∷ rs)))

-- the best of a value and others, taken from the left
abbrev pub best_of_all : Bound → Outcome → List Ratio → Outcome
best_of_all bound best [] = best
best_of_all bound best (s ∷ ss) = best_of_all bound (better_of bound best s) ss

-- the least or greatest: all operands are evaluated before the first comparison
abbrev pub extreme_of : Bound → Ratio → List Outcome → Outcome
extreme_of bound first rest = given (all_of rest) (λ others. best_of_all bound (Ok first) others)

-- the value of a name
abbrev pub named_of : Option Ratio → Outcome
named_of (Some r) = Ok r
named_of None = Err UnknownName

-- one part of an expression, with the outcome of each operand in its place
abbrev pub part_value : List (List ℕ × Ratio) → Expr-F Outcome → Outcome
part_value vars (Expr-F.Number number unit) = product_of number (whole (femtoseconds_of unit))
part_value vars (Expr-F.Name name) = named_of (value_of_name name vars)
part_value vars (Expr-F.Chain first rest) = given first.value (λ r. chain_of r rest.items)
part_value vars (Expr-F.Extreme bound first rest) = given first.value (λ r. extreme_of bound r rest.items)

-- the exact value of an expression, where names stand for these values; or the first fault
abbrev pub value_of : List (List ℕ × Ratio) → Expr → Outcome
value_of vars = fold-Expr Outcome (part_value vars)

-- the same of the operands of a chain, beside their operators
abbrev pub links_of : List (List ℕ × Ratio) → List (Operator × Expr) → List (Operator × Outcome)
links_of vars links = map (λ link. (link.0, value_of vars link.1)) links

-- the same of several operands
abbrev pub values_of : List (List ℕ × Ratio) → List Expr → List Outcome
values_of vars operands = map (value_of vars) operands
