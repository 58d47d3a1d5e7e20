-- When texts are evaluated as the language says: what they spell has its value, and what they are refused for is met in
-- them (IEEE 1450-1999, clauses 6 and 19).
use Rattle.std.specs.Prelude.{◌≡◌, ℕ, ℤ, pos, Bool, true, false, List, Option, Some, None, Result, Err, if◌then◌else◌}
use Rattle.std.specs.Ordering.{int_eq}
use Rattle.stil_ast.specs.Meaning.Times.{Met, in_text, Times}
use Rattle.expr_text.specs.Ratio.{Ratio}
use Rattle.expr_text.specs.Tree.{Tree}
use Rattle.expr_text.specs.Spelling.{Spells, IsFault}
use Rattle.expr_text.specs.Machine.{read_of}
use Rattle.time_expr.specs.NamedValue.{kind_of, value_by}
use Rattle.expr_text.specs.declared.fault.ExprFault.{ExprFault}
use Rattle.expr_text.specs.declared.fault.ExprFault.TheVariants.{BadExpr, OutOfRange}

-- the whole number that a fraction in lowest terms is, if it is one
abbrev pub whole_of : Ratio → Option ℤ
whole_of value = if int_eq value.denominator (pos 1) then Some value.numerator else None

-- texts are evaluated as the language says, whatever names stand for
pub record AreOfLanguage (times : Times Ratio) : Type 0 where
  pub spelled : (names : List ℕ → Result Ratio Met) (text : List ℕ) (tree : Tree) → Spells text tree true
      → times.value names text ≡ value_by names tree
  pub refused : (names : List ℕ → Result Ratio Met) (text : List ℕ) (fault : ExprFault) → IsFault text fault
      → times.value names text ≡ Err (in_text (kind_of fault))
  pub whole : (value : Ratio) → times.whole value ≡ whole_of value

-- the value of what was read of a text
abbrev pub value_read : (List ℕ → Result Ratio Met) → Option (Tree × Bool) → Result Ratio Met
value_read names None = Err (in_text (kind_of BadExpr))
value_read names (Some (tree, true)) = value_by names tree
value_read names (Some (tree, false)) = Err (in_text (kind_of OutOfRange))

-- the evaluation of the language, computed from texts
abbrev pub times_of : Times Ratio
times_of = record { value = λ names text. value_read names (read_of text); whole = whole_of }
