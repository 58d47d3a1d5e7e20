-- Where names have the values of variables, an expression has the value that it has under the variables.
use Rattle.std.proofs.Common.{◌≡◌, ◌⊎◌, ℕ, List, Result, Ok, Err, refl, sym, ap, ◌∙◌, inl, inr}
use Rattle.stil_ast.specs.Meaning.Times.{Met}
use Rattle.expr_text.specs.Ratio.{Ratio, given}
use Rattle.expr_text.specs.Tree.{Tree, number, name, chain, linked, extreme, also, tree_of}
use Rattle.expr_text.specs.Value.{Outcome, applied_of, named_of, value_of}
use Rattle.expr_text.specs.Vars.{value_of_name}
use Rattle.time_expr.specs.NamedValue.{met_of, unless_met, Known, plain, several, settled, begun, with_operand, known_by, value_by}
use Rattle.expr_text.specs.declared.expr.Bound.{Bound}
use Rattle.expr_text.specs.declared.expr.Expr.{Expr}
use Rattle.expr_text.specs.declared.fault.ExprFault.TheVariants.{UnknownName}
use Rattle.expr_text.proofs.ValueLemmas as plainly
use Rattle.expr_text.proofs.ValueLemmas.{closed, gathered, more, known_of, tree_value, value_is_tree_value}

-- an outcome under variables and one under names are alike; where `Open`, a name may also be no variable
abbrev pub Agree : Type 0 → Outcome → Result Ratio Met → Type 0
Agree Open o found = (Open × (o ≡ Err UnknownName)) ⊎ (found ≡ met_of o)

-- what is known under variables, as it is known under names
abbrev met_known : plainly.Known → Known
met_known (plainly.plain o) = plain (met_of o)
met_known (plainly.several bound r rs) = several bound r rs

abbrev AgreeKnown : Type 0 → plainly.Known → Known → Type 0
AgreeKnown Open k m = (Open × (k ≡ plainly.plain (Err UnknownName))) ⊎ (m ≡ met_known k)

settled_met : (k : plainly.Known) → settled (met_known k) ≡ met_of (closed k)
settled_met (plainly.plain o) = refl
settled_met (plainly.several bound r rs) = refl

settled_agrees : (Open : Type 0) (k : plainly.Known) (m : Known) → AgreeKnown Open k m
    → Agree Open (closed k) (settled m)
settled_agrees Open k m (inl e) = inl (e.0, ap closed e.1)
settled_agrees Open k m (inr e) = inr (ap settled e ∙ settled_met k)

plain_agrees : (Open : Type 0) (o : Outcome) (found : Result Ratio Met) → Agree Open o found
    → AgreeKnown Open (plainly.plain o) (plain found)
plain_agrees Open o found (inl e) = inl (e.0, ap plainly.plain e.1)
plain_agrees Open o found (inr e) = inr (ap plain e)

-- a step that agrees, behind what is equal
behind_equal : (Open : Type 0) (o : Outcome) (found same : Result Ratio Met) → found ≡ same → Agree Open o same
    → Agree Open o found
behind_equal Open o found same e (inl u) = inl u
behind_equal Open o found same e (inr v) = inr (e ∙ v)

given_met : (Open : Type 0) (o : Outcome) (found : Result Ratio Met) (g : Ratio → Outcome) (h : Ratio → Result Ratio Met)
    → found ≡ met_of o → ((r : Ratio) → Agree Open (g r) (h r))
    → Agree Open (given o g) (unless_met found h)
given_met Open (Ok r) found g h e all = behind_equal Open (g r) (unless_met found h) (h r) (ap (λ x. unless_met x h) e) (all r)
given_met Open (Err fault) found g h e all = inr (ap (λ x. unless_met x h) e)

given_agrees : (Open : Type 0) (o : Outcome) (found : Result Ratio Met) (g : Ratio → Outcome) (h : Ratio → Result Ratio Met)
    → Agree Open o found → ((r : Ratio) → Agree Open (g r) (h r))
    → Agree Open (given o g) (unless_met found h)
given_agrees Open o found g h (inl e) all = inl (e.0, ap (λ (x : Outcome). given x g) e.1)
given_agrees Open o found g h (inr e) all = given_met Open o found g h e all

begun_met : (bound : Bound) (o : Outcome) → begun bound (met_of o) ≡ met_known (gathered bound o)
begun_met bound (Ok r) = refl
begun_met bound (Err fault) = refl

begun_agrees : (Open : Type 0) (bound : Bound) (o : Outcome) (found : Result Ratio Met) → Agree Open o found
    → AgreeKnown Open (gathered bound o) (begun bound found)
begun_agrees Open bound o found (inl e) = inl (e.0, ap (gathered bound) e.1)
begun_agrees Open bound o found (inr e) = inr (ap (begun bound) e ∙ begun_met bound o)

operand_met : (bound : Bound) (r : Ratio) (rs : List Ratio) (o : Outcome)
    → with_operand (several bound r rs) (met_of o) ≡ met_known (more (plainly.several bound r rs) o)
operand_met bound r rs (Ok s) = refl
operand_met bound r rs (Err fault) = refl

operand_agrees : (Open : Type 0) (k : plainly.Known) (m : Known) (o : Outcome) (found : Result Ratio Met)
    → AgreeKnown Open k m → Agree Open o found
    → AgreeKnown Open (more k o) (with_operand m found)
operand_agrees Open k m o found (inl e) a = inl (e.0, ap (λ (x : plainly.Known). more x o) e.1)
operand_agrees Open (plainly.plain p) m o found (inr e) a = inr (ap (λ (x : Known). with_operand x found) e)
operand_agrees Open (plainly.several bound r rs) m o found (inr e) (inl u) = inl (u.0, ap (more (plainly.several bound r rs)) u.1)
operand_agrees Open (plainly.several bound r rs) m o found (inr e) (inr v) =
    inr (ap (λ (x : Known). with_operand x found) e ∙ ap (with_operand (several bound r rs)) v ∙ operand_met bound r rs o)

-- trees agree where names do
known_agrees : (Open : Type 0) (names : List ℕ → Result Ratio Met) (vars : List (List ℕ × Ratio))
    → ((bytes : List ℕ) → Agree Open (named_of (value_of_name bytes vars)) (names bytes))
    → (t : Tree) → AgreeKnown Open (known_of vars t) (known_by names t)
known_agrees Open names vars each (number value unit) = inr refl
known_agrees Open names vars each (name bytes) = plain_agrees Open (named_of (value_of_name bytes vars)) (names bytes) (each bytes)
known_agrees Open names vars each (chain t) =
    plain_agrees Open (closed (known_of vars t)) (settled (known_by names t))
    (settled_agrees Open (known_of vars t) (known_by names t) (known_agrees Open names vars each t))
known_agrees Open names vars each (linked t op u) =
    plain_agrees Open
    (given (closed (known_of vars t)) (λ r. given (closed (known_of vars u)) (λ s. applied_of op r s)))
    (unless_met (settled (known_by names t)) (λ r. unless_met (settled (known_by names u)) (λ s. met_of (applied_of op r s))))
    (given_agrees Open (closed (known_of vars t)) (settled (known_by names t))
    (λ r. given (closed (known_of vars u)) (λ s. applied_of op r s))
    (λ r. unless_met (settled (known_by names u)) (λ s. met_of (applied_of op r s)))
    (settled_agrees Open (known_of vars t) (known_by names t) (known_agrees Open names vars each t))
    (λ r. given_agrees Open (closed (known_of vars u)) (settled (known_by names u)) (λ s. applied_of op r s) (λ s. met_of (applied_of op r s))
    (settled_agrees Open (known_of vars u) (known_by names u) (known_agrees Open names vars each u)) (λ s. inr refl)))
known_agrees Open names vars each (extreme bound t) =
    begun_agrees Open bound (closed (known_of vars t)) (settled (known_by names t))
    (settled_agrees Open (known_of vars t) (known_by names t) (known_agrees Open names vars each t))
known_agrees Open names vars each (also t u) =
    operand_agrees Open (known_of vars t) (known_by names t) (closed (known_of vars u)) (settled (known_by names u))
    (known_agrees Open names vars each t)
    (settled_agrees Open (known_of vars u) (known_by names u) (known_agrees Open names vars each u))

-- and so do expressions
value_agrees : (Open : Type 0) (names : List ℕ → Result Ratio Met) (vars : List (List ℕ × Ratio))
    → ((bytes : List ℕ) → Agree Open (named_of (value_of_name bytes vars)) (names bytes))
    → (e : Expr) (o : Outcome) → value_of vars e ≡ o → Agree Open o (value_by names (tree_of e))
value_agrees Open names vars each e o is =
    by_known (settled_agrees Open (known_of vars (tree_of e)) (known_by names (tree_of e)) (known_agrees Open names vars each (tree_of e)))
  where
    by_known : Agree Open (tree_value vars (tree_of e)) (value_by names (tree_of e)) → Agree Open o (value_by names (tree_of e))
    by_known (inl u) = inl (u.0, sym is ∙ value_is_tree_value vars e ∙ u.1)
    by_known (inr v) = inr (v ∙ ap met_of (sym (value_is_tree_value vars e)) ∙ ap met_of is)

-- under names that are all variables or unknown
pub value_by-value_of : (names : List ℕ → Result Ratio Met) (vars : List (List ℕ × Ratio)) (e : Expr)
    → ((bytes : List ℕ) → names bytes ≡ met_of (named_of (value_of_name bytes vars)))
    → value_by names (tree_of e) ≡ met_of (value_of vars e)
value_by-value_of names vars e each = closed_case (value_agrees ⊥ names vars (λ bytes. inr (each bytes)) e (value_of vars e) refl)
  where
    closed_case : Agree ⊥ (value_of vars e) (value_by names (tree_of e)) → value_by names (tree_of e) ≡ met_of (value_of vars e)
    closed_case (inl u) = absurd u.0
    closed_case (inr v) = v
