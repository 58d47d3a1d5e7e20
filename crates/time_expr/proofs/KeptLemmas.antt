-- Expressions that are kept for texts are those that the texts spell, and have the values of the texts.
use Rattle.std.proofs.Common.{◌≡◌, ℕ, Bool, true, false, cond, List, Option, Some, None, refl, sym, ap, subst, ◌∙◌, inr}
use Rattle.std.specs.Prelude.{IfSome}
use Rattle.std.specs.Borrow.{Bor}
use Rattle.std.specs.Option.{option_copied}
use Rattle.std.specs.Str.{bytes_eq}
use Rattle.std.proofs.lemmas.Option.{same_Some}
use Rattle.std.proofs.lemmas.Slice.Eq.{bytes_eq-Decides}
use Rattle.indexmap.specs.IndexMap.{IndexMap}
use Rattle.expr_text.specs.Tree.{tree_of}
use Rattle.expr_text.specs.Spelling.{Spells}
use Rattle.expr_text.specs.Ratio.{Ratio}
use Rattle.expr_text.specs.Value.{Outcome, value_of}
use Rattle.time_expr.specs.NamedValue.{met_of}
use Rattle.time_expr.specs.TimeIn.{IsValueIn}
use Rattle.time_expr.specs.Kept.{expr_for, AreSpelled}
use Rattle.expr_text.specs.declared.expr.Expr.{Expr}
use Rattle.time_expr.proofs.TimesLemmas.{times_of_is}
use Rattle.time_expr.proofs.NamedLemmas.{value_by-value_of}

-- one more expression is kept
pub kept-more : {S : Type 0} (old new : IndexMap (Bor (List ℕ)) Expr S) (text : List ℕ) (expr : Expr) → AreSpelled old
    → Spells text (tree_of expr) true
    → ((other : List ℕ) → expr_for new other ≡ cond (bytes_eq text other) (Some expr) (expr_for old other))
    → AreSpelled new
kept-more old new text expr spelled spells now = λ other e is. by_test other e is (bytes_eq text other) refl
  where
    by_test : (other : List ℕ) (e : Expr) → expr_for new other ≡ Some e → (b : Bool) → bytes_eq text other ≡ b
        → Spells other (tree_of e) true
    by_test other e is true t =
        let here = same_Some expr e (sym (ap (λ b. cond b (Some expr) (expr_for old other)) t) ∙ sym (now other) ∙ is) in
        subst (λ (x : List ℕ). Spells x (tree_of e) true) ((bytes_eq-Decides text other).0 t)
        (subst (λ (x : Expr). Spells text (tree_of x) true) here spells)
    by_test other e is false f =
        spelled other e (sym (ap (λ b. cond b (Some expr) (expr_for old other)) f) ∙ sym (now other) ∙ is)

-- what is found for a text is the expression that it spells
pub kept-spells : {S : Type 0} (exprs : IndexMap (Bor (List ℕ)) Expr S) (text : List ℕ) (found : Option (Bor Expr))
    → AreSpelled exprs → option_copied found ≡ expr_for exprs text
    → IfSome found (λ (x : Bor Expr). Spells text (tree_of x.now) true)
kept-spells exprs text None spelled is = tt
kept-spells exprs text (Some x) spelled is = spelled text x.now (sym is)

-- the value of the expression that a text spells is that of the text
pub value-spelled : (vars : List (List ℕ × Ratio)) (text : List ℕ) (expr : Expr) (answer : Outcome)
    → Spells text (tree_of expr) true → answer ≡ value_of vars expr → IsValueIn vars text answer
value-spelled vars text expr answer spells is = inr (λ names are.
    times_of_is.spelled names text (tree_of expr) spells ∙ value_by-value_of names vars expr are ∙ ap met_of (sym is))
