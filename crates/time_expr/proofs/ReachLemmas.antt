-- What the values known so far say of a text.
use Rattle.std.proofs.Common.{◌≡◌, ℕ, Bool, true, false, cond, List, [], ◌∷◌, find, Option, Some, None, is_none, Result, Ok, Err, refl, sym, ap, subst, ◌∙◌, ◌⊎◌, inl, inr}
use Rattle.std.proofs.lemmas.Bool.{cases_Bool}
use Rattle.std.proofs.lemmas.Slice.Eq.{bytes_eq-Decides}
use Rattle.stil_ast.specs.Meaning.Times.{Met, in_text}
use Rattle.stil_ast.specs.Data.Places.{Place}
use Rattle.stil_ast.specs.Meaning.Variables.{Variable, value_fault, placed}
use Rattle.stil_ast.specs.declared.fault.StilFault.{StilFault}
use Rattle.stil_ast.specs.Data.Texts.{same}
use Rattle.stil_ast.specs.declared.fault.StilKind.{StilKind}
use Rattle.stil_ast.specs.declared.fault.StilKind.TheVariants as stil
use Rattle.expr_text.specs.Ratio.{Ratio}
use Rattle.expr_text.specs.Tree.{tree_of}
use Rattle.expr_text.specs.Vars.{value_of_name}
use Rattle.expr_text.specs.Value.{named_of, value_of}
use Rattle.time_expr.specs.NamedValue.{kind_of, met_of, value_by}
use Rattle.time_expr.specs.Names.{names_of, first_missing}
use Rattle.std.specs.Borrow.{Bor}
use Rattle.answers.specs.Answers.{Blames}
use Rattle.time_expr.specs.Picked.{variable_of, place_of}
use Rattle.time_expr.specs.declared.picked.Picked.{Picked}
use Rattle.time_expr.specs.declared.picked.Spot.{Spot}
use Rattle.time_expr.specs.declared.walk.Step.{Step}
use Rattle.time_expr.specs.declared.walk.Step.TheVariants as step
use Rattle.time_expr.specs.Choosing.{variable_named, GoesBy, StopsAt, IsStopBy, Reaches, Steps, GoesUnless, evaluated}
use Rattle.expr_text.specs.declared.fault.ExprFault.{ExprFault}
use Rattle.expr_text.specs.declared.fault.ExprFault.TheVariants.{UnknownName}
use Rattle.expr_text.specs.declared.fault.ExprFault.TheVariants as fault
use Rattle.expr_text.specs.Spelling.{Spells, IsFault}
use Rattle.time_expr.specs.TimesOf.{times_of}
use Rattle.time_expr.proofs.TimesLemmas.{times_of_is}
use Rattle.expr_text.specs.declared.expr.Expr.{Expr}
use Rattle.time_expr.specs.declared.stop.Stop.{Stop}
use Rattle.time_expr.specs.declared.stop.Stop.TheVariants as stop
use Rattle.time_expr.proofs.StopLemmas.{expr_alike, at_value, at_fault_of, at_name, at_no_name}

-- what is found passes
pub find_passes : {X : Type 0} (p : X → Bool) (xs : List X) (x : X) → find p xs ≡ Some x → p x ≡ true
find_passes p [] x e = cc
find_passes p (y ∷ xs) x e =
    elim (cases_Bool (p y)) [
      | inl t ↦ let same : y ≡ x = some_same y x (sym (ap (λ b. cond b (Some y) (find p xs)) t) ∙ e) in ap p (sym same) ∙ t
      | inr f ↦ find_passes p xs x (sym (ap (λ b. cond b (Some y) (find p xs)) f) ∙ e)
    ]
  where
    some_same : {X : Type 0} (a b : X) → Some a ≡ Some b → a ≡ b
    some_same a b h = cc

-- the variable of a name has it
pub variable-named : (vs : List Variable) (name : List ℕ) (v : Variable) → variable_named vs name ≡ Some v → v.name ≡ name
variable-named vs name v e =
    (bytes_eq-Decides v.name name).0 (find_passes (λ (x : Variable). same x.name name) vs v e)

-- and is the first of its own name
pub variable-first : (vs : List Variable) (name : List ℕ) (v : Variable) → variable_named vs name ≡ Some v
    → variable_named vs v.name ≡ Some v
variable-first vs name v e = ap (variable_named vs) (variable-named vs name v e) ∙ e

pub none-is_none : {X : Type 0} (o : Option X) → is_none o ≡ true → o ≡ None
none-is_none None e = refl
none-is_none (Some x) e = cc

-- names that stand for the values alone
alone : List (List ℕ × Ratio) → List ℕ → Result Ratio Met
alone vars name = met_of (named_of (value_of_name name vars))

alone-known : (vars : List (List ℕ × Ratio)) (name : List ℕ) (r : Ratio) → value_of_name name vars ≡ Some r → alone vars name ≡ Ok r
unfolding alone
alone-known vars name r e = ap (λ (o : Option Ratio). met_of (named_of o)) e

-- an evaluation that meets a name without a value
pub stop-reaches : (vs : List Variable) (vars : List (List ℕ × Ratio)) (e : Expr) (s : Stop) → value_of vars e ≡ Err UnknownName
    → StopsAt vs (first_missing vars (names_of e)) s → Reaches vs vars (λ names. value_by names (tree_of e)) (Err s)
stop-reaches vs vars e s u at = by_missing (first_missing vars (names_of e)) refl s at
  where
    no_name : (names : List ℕ → Result Ratio Met)
        → ((name : List ℕ) (r : Ratio) → value_of_name name vars ≡ Some r → names name ≡ Ok r)
        → first_missing vars (names_of e) ≡ None → ⊥
    no_name names known m =
        at_no_name names vars known (value_of vars e) (value_by names (tree_of e)) (first_missing vars (names_of e))
        (expr_alike names vars known e) u m

    at_w : (names : List ℕ → Result Ratio Met)
        → ((name : List ℕ) (r : Ratio) → value_of_name name vars ≡ Some r → names name ≡ Ok r)
        → (w : List ℕ) → first_missing vars (names_of e) ≡ Some w → (met : Met) → names w ≡ Err met
        → value_by names (tree_of e) ≡ Err met
    at_w names known w m met h =
        at_name names vars known (value_of vars e) (value_by names (tree_of e)) (first_missing vars (names_of e))
        (expr_alike names vars known e) w u m met h

    by_missing : (missing : Option (List ℕ)) → first_missing vars (names_of e) ≡ missing → (s : Stop) → StopsAt vs missing s
        → Reaches vs vars (λ names. value_by names (tree_of e)) (Err s)
    by_missing missing m stop.NoMemory at = tt
    by_missing None m (stop.Fault kind) at = λ names g. absurd (no_name names g.known m)
    by_missing None m (stop.Needs next) at = absurd (no_name (alone vars) (alone-known vars) m)
    by_missing (Some w) m (stop.Fault kind) at = λ names g.
        at_w names g.known w m (in_text stil.UnknownName) (g.unknown w at.1) ∙ ap (λ k. Err (in_text k)) (sym at.0)
    by_missing (Some w) m (stop.Needs next) at =
        let named = variable-named vs w (variable_of next.now) at in (
          record {
            first = variable-first vs w (variable_of next.now) at;
            no_value = ap (λ n. value_of_name n vars) named
                ∙ none-is_none (value_of_name w vars) (find_passes (λ n. is_none (value_of_name n vars)) (names_of e) w m);
          },
          λ names g met h. at_w names g.known w m met (ap names (sym named) ∙ h),
        )

-- an evaluation that has a value, or is refused for another reason
pub value-reaches : (vs : List Variable) (vars : List (List ℕ × Ratio)) (e : Expr) (r : Ratio) → value_of vars e ≡ Ok r
    → Reaches vs vars (λ names. value_by names (tree_of e)) (Ok r)
value-reaches vs vars e r is = λ names g.
    at_value names vars g (value_of vars e) (value_by names (tree_of e)) (first_missing vars (names_of e))
    (expr_alike names vars g e) r is

pub fault-reaches : (vs : List Variable) (vars : List (List ℕ × Ratio)) (e : Expr) (f : ExprFault) (kind : StilKind)
    → value_of vars e ≡ Err f → (f ≡ UnknownName → ⊥) → kind ≡ kind_of f
    → Reaches vs vars (λ names. value_by names (tree_of e)) (Err (stop.Fault kind))
fault-reaches vs vars e f kind is other k = λ names g.
    at_fault_of names vars g.known (value_of vars e) (value_by names (tree_of e)) (first_missing vars (names_of e))
    (expr_alike names vars g.known e) f is other ∙ ap (λ x. Err (in_text x)) (sym k)

-- a value that is always the same as another
pub same-reaches : (vs : List Variable) (vars : List (List ℕ × Ratio)) (value other : (List ℕ → Result Ratio Met) → Result Ratio Met)
    → ((names : List ℕ → Result Ratio Met) → value names ≡ other names) → (r : Result Ratio Stop)
    → Reaches vs vars other r → Reaches vs vars value r
same-reaches vs vars value other same (Ok r) h = λ names g. same names ∙ h names g
same-reaches vs vars value other same (Err stop.NoMemory) h = tt
same-reaches vs vars value other same (Err (stop.Fault kind)) h = λ names g. same names ∙ h names g
same-reaches vs vars value other same (Err (stop.Needs next)) h = (h.0, λ names g met e. same names ∙ h.1 names g met e)

-- a text that spells an expression
pub spelled-reaches : (vs : List Variable) (vars : List (List ℕ × Ratio)) (text : List ℕ) (e : Expr) (r : Result Ratio Stop)
    → Spells text (tree_of e) true → Reaches vs vars (λ names. value_by names (tree_of e)) r
    → Reaches vs vars (λ names. times_of.value names text) r
spelled-reaches vs vars text e r spells h =
    same-reaches vs vars (λ names. times_of.value names text) (λ names. value_by names (tree_of e))
    (λ names. times_of_is.spelled names text (tree_of e) spells) r h

-- a text that is refused
pub refused-reaches : (vs : List Variable) (vars : List (List ℕ × Ratio)) (text : List ℕ) (f : ExprFault) (s : Stop)
    → (f ≡ fault.NoMemory) ⊎ IsFault text f → IsStopBy f s → Reaches vs vars (λ names. times_of.value names text) (Err s)
refused-reaches vs vars text f s why by = by_fault f why by
  where
    at_fault : (g : ExprFault) → IsFault text g → s ≡ stop.Fault (kind_of g)
        → Reaches vs vars (λ names. times_of.value names text) (Err s)
    at_fault g is e =
        subst (λ (x : Stop). Reaches vs vars (λ names. times_of.value names text) (Err x)) (sym e)
        (λ names goes. times_of_is.refused names text g is)

    by_fault : (g : ExprFault) → (g ≡ fault.NoMemory) ⊎ IsFault text g → IsStopBy g s
        → Reaches vs vars (λ names. times_of.value names text) (Err s)
    by_fault fault.NoMemory h e =
        subst (λ (x : Stop). Reaches vs vars (λ names. times_of.value names text) (Err x)) (sym e) tt
    by_fault fault.BadExpr (inl h) e = let no : ⊥ = cc in absurd no
    by_fault fault.OutOfRange (inl h) e = let no : ⊥ = cc in absurd no
    by_fault fault.UnknownName (inl h) e = let no : ⊥ = cc in absurd no
    by_fault fault.ZeroDivisor (inl h) e = let no : ⊥ = cc in absurd no
    by_fault fault.BadExpr (inr is) e = at_fault fault.BadExpr is e
    by_fault fault.OutOfRange (inr is) e = at_fault fault.OutOfRange is e
    by_fault fault.UnknownName (inr is) e = absurd is
    by_fault fault.ZeroDivisor (inr is) e = absurd is

-- what the next name is refused for is what the text is refused for, in which it is met
pub needs-down : (p q : Place) (told : StilFault) (next whole : Result Ratio Met)
    → ((met : Met) → next ≡ Err met → whole ≡ Err met) → value_fault q next ≡ Some told
    → value_fault p (placed q whole) ≡ Some told
needs-down p q told (Ok r) whole same e = cc
needs-down p q told (Err met) whole same e = ap (λ (x : Result Ratio Met). value_fault p (placed q x)) (same met refl) ∙ e

-- a text in which a variable is met that has no value so far
pub needs-steps : (vs : List Variable) (vars : List (List ℕ × Ratio)) (text : List ℕ) (spot : Spot) (next : Bor Picked) (s : Stop)
    → s ≡ stop.Needs next → Reaches vs vars (λ names. times_of.value names text) (Err s) → (p : Place)
    → Steps vs vars (GoesBy vs vars) (λ names. placed (place_of spot) (times_of.value names text)) p (Err (step.Down next spot))
needs-steps vs vars text spot next s is h p =
    let needs = subst (λ (x : Stop). Reaches vs vars (λ names. times_of.value names text) (Err x)) is h in (
      needs.0,
      λ names goes told e.
          needs-down p (place_of spot) told (names next.now.name.now) (times_of.value names text) (needs.1 names goes) e,
    )

-- a value that is always the same as another
pub same-steps : (vs : List Variable) (vars : List (List ℕ × Ratio)) (Fits : (List ℕ → Result Ratio Met) → Type 0)
    (value other : (List ℕ → Result Ratio Met) → Result Ratio Met) (p : Place)
    → ((names : List ℕ → Result Ratio Met) → value names ≡ other names) → (r : Result Ratio Step)
    → Steps vs vars Fits other p r → Steps vs vars Fits value p r
same-steps vs vars Fits value other p same (Ok r) h = λ names has. same names ∙ h names has
same-steps vs vars Fits value other p same (Err (step.Ends e)) h = λ names fits.
    subst (λ (x : Result Ratio Met). Blames (value_fault p x) e) (sym (same names)) (h names fits)
same-steps vs vars Fits value other p same (Err (step.Down next spot)) h = (
  h.0,
  λ names fits told e. ap (value_fault p) (same names) ∙ h.1 names fits told e,
)

-- a variable that isn't being evaluated already
pub idle-steps : (vs : List Variable) (vars : List (List ℕ × Ratio)) (v : Variable) (p : Place) (running : Bool)
    → running ≡ false → (r : Result Ratio Step)
    → Steps vs vars (GoesBy vs vars) (evaluated false v) p r
    → Steps vs vars (GoesUnless running vs vars) (evaluated running v) p r
idle-steps vs vars v p running idle r h =
    subst (λ b. Steps vs vars (GoesUnless b vs vars) (evaluated b v) p r) (sym idle) (by_result r h)
  where
    by_result : (r : Result Ratio Step) → Steps vs vars (GoesBy vs vars) (evaluated false v) p r
        → Steps vs vars (GoesUnless false vs vars) (evaluated false v) p r
    by_result (Ok r) h = h
    by_result (Err (step.Ends e)) h = λ names goes. h names (goes refl)
    by_result (Err (step.Down next spot)) h = (h.0, λ names goes. h.1 names (goes refl))
