-- The values of all variables, one after another.
use Rattle.std.proofs.Common.{◌≡◌, ℕ, ◌+◌, ◌<◌, false, cond, List, [], ◌∷◌, length, drop, get_or, Option, Some, None, IsSome, Result, Ok, Err, refl, sym, ap, subst, ◌∙◌, inl, inr, arith, count_by}
use Rattle.std.specs.Borrow.{Bor}
use Rattle.std.proofs.lemmas.Bool.{cases_Bool}
use Rattle.std.proofs.lemmas.Slice.Eq.{bytes_eq-Decides}
use Rattle.stil_ast.specs.Data.Places.{Place}
use Rattle.stil_ast.specs.Meaning.Times.{in_text}
use Rattle.stil_ast.specs.Meaning.Variables.{Variable, value_of, value_of_found, value_within, value_fault, picked_fault}
use Rattle.stil_ast.specs.Data.Texts.{same}
use Rattle.stil_ast.specs.Faults.Found.{first_in, or_else}
use Rattle.stil_ast.specs.declared.fault.StilFault.{StilFault}
use Rattle.stil_ast.specs.Data.Refusal.{StilRefusal}
use Rattle.answers.specs.Answers.{Blames}
use Rattle.stil_ast.specs.declared.fault.StilKind.TheVariants.{UnknownName}
use Rattle.expr_text.specs.Ratio.{Ratio}
use Rattle.expr_text.specs.Vars.{value_of_name, with_value}
use Rattle.expr_text.specs.Value.{named_of}
use Rattle.time_expr.specs.NamedValue.{met_of}
use Rattle.time_expr.specs.TimesOf.{times_of}
use Rattle.time_expr.specs.Picked.{variable_of, variables_of}
use Rattle.time_expr.specs.Choosing.{variable_named, IsOpen, IsNext, AreKnown, IsWalked, KeepsValues, own_fault, AreValues, Chooses, has_no_value}
use Rattle.time_expr.specs.declared.picked.Picked.{Picked}
use Rattle.time_expr.proofs.ReachLemmas.{variable-named, variable-first}
use Rattle.time_expr.proofs.KnownLemmas.{known-value, known-added, added-keeps, added-fewer}
use Rattle.time_expr.proofs.IndexLemmas.{left-fewer}

-- the variable of a name without a value
pub open-named : (vs : List Variable) (vars : List (List ℕ × Ratio)) (name : List ℕ) (v : Variable)
    → variable_named vs name ≡ Some v → value_of_name name vars ≡ None → IsOpen vs vars v
open-named vs vars name v at none = record {
  first = variable-first vs name v at;
  no_value = ap (λ n. value_of_name n vars) (variable-named vs name v at) ∙ none;
}

-- what is said of its own name is said of the name
pub walked-named : (vs : List Variable) (vars : List (List ℕ × Ratio)) (p : Place) (name : List ℕ) (v : Variable)
    (r : Result (Bor Picked × Ratio) StilRefusal) → variable_named vs name ≡ Some v → IsWalked vs vars p v.name r
    → IsWalked vs vars p name r
walked-named vs vars p name v r at h = subst (λ n. IsWalked vs vars p n r) (variable-named vs name v at) h

-- a name that is no variable
unknown-value : (vs : List Variable) (name : List ℕ) → variable_named vs name ≡ None
    → value_of times_of vs name ≡ Err (in_text UnknownName)
unknown-value vs name none =
    ap (λ o. value_of_found false o (times_of.value (value_within times_of vs (length vs) (name ∷ [])))) none

-- one value more
module _ (vs : List Variable) (before now : List (List ℕ × Ratio)) (v : Variable) (r : Ratio) (known : AreKnown vs before)
    (next : IsNext vs before v r) (added : now ≡ with_value v.name r before) where
  pub settled-known : AreKnown vs now
  settled-known = subst (AreKnown vs) (sym added) (known-added vs before known v r next)

  pub settled-keeps : KeepsValues before now
  settled-keeps = λ name s at. ap (value_of_name name) added ∙ added-keeps vs before known v r next name s at

  pub settled-fewer : count_by (has_no_value now) vs < count_by (has_no_value before) vs
  settled-fewer = omega (
    arith,
    added-fewer vs before known v r next,
    ap (λ vars. count_by (has_no_value vars) vs) added,
  )

pub keeps-more : (a b c : List (List ℕ × Ratio)) → KeepsValues a b → KeepsValues b c → KeepsValues a c
keeps-more a b c p q = λ name r at. q name r (p name r at)

-- a variable whose name has a value has no fault
has-no-fault : (vs : List Variable) (vars : List (List ℕ × Ratio)) (v : Variable) → AreKnown vs vars
    → (found : Option Ratio) → value_of_name v.name vars ≡ found → IsSome found → own_fault vs v ≡ None
has-no-fault vs vars v known (Some r) at some = ap (value_fault v.place) (known-value vs vars known v.name r at)
has-no-fault vs vars v known None at some = absurd (no_value some)
  where
    no_value : IsSome {T = Ratio} None → ⊥
    no_value h = cc

-- a loop over the variables: the next has its value
pub found-more : (vs rest : List Variable) (before now : List (List ℕ × Ratio)) (v : Variable) → KeepsValues before now
    → IsSome (value_of_name v.name now)
    → ((name : List ℕ) → value_of_name name before ≡ None → variable_named vs name ≡ variable_named (v ∷ rest) name)
    → (name : List ℕ) → value_of_name name now ≡ None → variable_named vs name ≡ variable_named rest name
found-more vs rest before now v keeps some found name none =
    found name (was_none (value_of_name name before) refl)
    ∙ elim (cases_Bool (same v.name name)) [
      | inl t ↦
          let lost : IsSome {T = Ratio} None =
          subst IsSome (ap (λ n. value_of_name n now) ((bytes_eq-Decides v.name name).0 t) ∙ none) some in
          absurd (no_value lost)
      | inr f ↦ ap (λ b. cond b (Some v) (variable_named rest name)) f
    ]
  where
    no_value : IsSome {T = Ratio} None → ⊥
    no_value h = cc

    was_none : (o : Option Ratio) → value_of_name name before ≡ o → value_of_name name before ≡ None
    was_none None e = e
    was_none (Some r) e = let clash : ◌≡◌ {A = Option Ratio} None (Some r) = sym none ∙ keeps name r e in cc

pub fault-more : (vs rest : List Variable) (vars : List (List ℕ × Ratio)) (v : Variable) (first : Option StilFault)
    → AreKnown vs vars → IsSome (value_of_name v.name vars) → first ≡ first_in (own_fault vs) (v ∷ rest)
    → first ≡ first_in (own_fault vs) rest
fault-more vs rest vars v first known some is =
    is ∙ ap (λ o. or_else o (first_in (own_fault vs) rest)) (has-no-fault vs vars v known (value_of_name v.name vars) refl some)

-- its fault is the first
pub fault-here : (vs rest : List Variable) (v : Variable) (first : Option StilFault) (e : StilRefusal)
    → first ≡ first_in (own_fault vs) (v ∷ rest) → Blames (own_fault vs v) e → Blames first e
fault-here vs rest v first e is at = λ f same. is ∙ ap (λ o. or_else o (first_in (own_fault vs) rest)) (at f same)

-- all have values
pub all-found : (vs rest : List Variable) (vars : List (List ℕ × Ratio)) → AreKnown vs vars → rest ≡ []
    → ((name : List ℕ) → value_of_name name vars ≡ None → variable_named vs name ≡ variable_named rest name)
    → first_in (own_fault vs) vs ≡ first_in (own_fault vs) rest
    → AreValues vs (Ok vars)
all-found vs rest vars known end found fault =
    (fault ∙ ap (first_in (own_fault vs)) end, λ name. by_value name (value_of_name name vars) refl)
  where
    by_value : (name : List ℕ) (o : Option Ratio) → value_of_name name vars ≡ o
        → value_of times_of vs name ≡ met_of (named_of (value_of_name name vars))
    by_value name (Some r) at = known-value vs vars known name r at ∙ sym (ap (λ o. met_of (named_of o)) at)
    by_value name None at =
        unknown-value vs name (found name at ∙ ap (λ xs. variable_named xs name) end)
        ∙ sym (ap (λ o. met_of (named_of o)) at)

-- with what is said of the list of variables
pub chooses : (vs : List Variable) (r : Result (List (List ℕ × Ratio)) StilRefusal) → picked_fault [] vs ≡ None
    → AreValues vs r → Chooses vs r
chooses vs (Ok vars) apart h = (ap (λ o. or_else o (first_in (own_fault vs) vs)) apart ∙ h.0, h.1)
chooses vs (Err e) apart h = λ f same. ap (λ o. or_else o (first_in (own_fault vs) vs)) apart ∙ h f same

-- the loop over the variables, at one of them
module _ (vs : List Variable) (items : List Picked) (i : ℕ) (x : Picked) (within : i < length items)
    (is : x ≡ get_or items i x) where
  abbrev rest : List Variable
  rest = variables_of (drop (i + 1) items)

  here : variables_of (drop i items) ≡ variable_of x ∷ rest
  here = left-fewer items i x within is

  pub loop-refused : (q : Place) (e : StilRefusal) → q ≡ (variable_of x).place
      → first_in (own_fault vs) vs ≡ first_in (own_fault vs) (variables_of (drop i items))
      → Blames (value_fault q (value_of times_of vs x.name.now)) e → AreValues vs (Err e)
  loop-refused q e at fault told =
      fault-here vs rest (variable_of x) (first_in (own_fault vs) vs) e (fault ∙ ap (first_in (own_fault vs)) here)
      (subst (λ (p : Place). Blames (value_fault p (value_of times_of vs x.name.now)) e) at told)

  pub loop-found : (before now : List (List ℕ × Ratio)) → KeepsValues before now → IsSome (value_of_name x.name.now now)
      → ((name : List ℕ) → value_of_name name before ≡ None
      → variable_named vs name ≡ variable_named (variables_of (drop i items)) name)
      → (name : List ℕ) → value_of_name name now ≡ None → variable_named vs name ≡ variable_named rest name
  loop-found before now keeps some found =
      found-more vs rest before now (variable_of x) keeps some
      (λ name none. found name none ∙ ap (λ xs. variable_named xs name) here)

  pub loop-fault : (vars : List (List ℕ × Ratio)) → AreKnown vs vars → IsSome (value_of_name x.name.now vars)
      → first_in (own_fault vs) vs ≡ first_in (own_fault vs) (variables_of (drop i items))
      → first_in (own_fault vs) vs ≡ first_in (own_fault vs) rest
  loop-fault vars known some fault =
      fault-more vs rest vars (variable_of x) (first_in (own_fault vs) vs) known some (fault ∙ ap (first_in (own_fault vs)) here)
