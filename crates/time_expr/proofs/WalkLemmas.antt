-- The evaluation of a name, from variable to variable.
use Rattle.std.proofs.Common.{◌≡◌, ℕ, zero, suc, ◌+◌, ◌≤◌, Bool, true, false, not, ◌&&◌, ◌||◌, List, [], ◌∷◌, length, Some, None, Result, Ok, Err, refl, sym, ap, ◌∙◌, arith, count_by}
use Rattle.std.specs.Str.{bytes_eq}
use Rattle.std.proofs.lemmas.Bool.{and_from}
use Rattle.answers.specs.Answers.{Blames}
use Rattle.stil_ast.proofs.TextLemmas.{same-refl}
use Rattle.stil_ast.specs.Data.Places.{Place}
use Rattle.stil_ast.specs.Meaning.Times.{Met, in_text}
use Rattle.stil_ast.specs.Meaning.Variables.{Variable, value_within, value_of_found, value_of, value_fault}
use Rattle.stil_ast.specs.Data.Texts.{same, has_name}
use Rattle.stil_ast.specs.declared.fault.StilFault.{StilFault}
use Rattle.stil_ast.specs.Data.Refusal.{StilRefusal}
use Rattle.answers.specs.declared.short.Short.TheVariants as refusal
use Rattle.stil_ast.specs.declared.fault.StilKind.TheVariants.{UnknownName}
use Rattle.expr_text.specs.Ratio.{Ratio}
use Rattle.expr_text.specs.Vars.{value_of_name}
use Rattle.time_expr.specs.TimesOf.{times_of}
use Rattle.time_expr.specs.Choosing.{variable_named, IsOpen, HasValues, GoesUnless, IsNext, evaluated, AreKnown, has_no_value, is_free, IsWalk}
use Rattle.time_expr.proofs.KnownLemmas.{count-le, count-less, apart-more, none-is}

and_left : (a b : Bool) → (a && b) ≡ true → a ≡ true
and_left true b e = refl
and_left false b e = e

and_right : (a b : Bool) → (a && b) ≡ true → b ≡ true
and_right true b e = e
and_right false b e = cc

or-comm : (a b : Bool) → (a || b) ≡ (b || a)
or-comm true true = refl
or-comm true false = refl
or-comm false true = refl
or-comm false false = refl

not_or : (a b : Bool) → not (a || b) ≡ true → not a ≡ true
not_or true b e = e
not_or false b e = refl

or_right : (a b : Bool) → b ≡ true → (a || b) ≡ true
or_right true b e = refl
or_right false b e = e

module _ (vs : List Variable) (vars : List (List ℕ × Ratio)) (known : AreKnown vs vars) where
  -- at first nothing is being evaluated
  pub walk-starts : (p : Place) (v : Variable) (is_running : List ℕ → Bool) → ((other : List ℕ) → is_running other ≡ false)
      → IsOpen vs vars v → IsWalk vs vars p v.name is_running v p
  walk-starts p v is_running idle is_open = record {
    running = [];
    depth = length vs;
    runs = λ other. idle other;
    apart = λ other e. let clash : false ≡ true = e in cc;
    is_open = is_open;
    deep = omega arith;
    room = omega (
      arith,
      known.room,
      count-le (has_no_value vars) (is_free vars is_running) vs
          (λ u e. and_left (has_no_value vars u) (not (is_running u.name)) e),
    );
    leads = λ told e. e;
  }

  module _ (p : Place) (name : List ℕ) (is_running : List ℕ → Bool) (v : Variable) (q : Place)
      (walk : IsWalk vs vars p name is_running v q) where
    -- the names by which the variable is evaluated
    abbrev inner : List ℕ → Result Ratio Met
    inner = value_within times_of vs walk.depth (v.name ∷ walk.running)

    inner-apart : (other : List ℕ) → has_name (v.name ∷ walk.running) other ≡ true → value_of_name other vars ≡ None
    inner-apart = apart-more walk.running vars v.name walk.apart walk.is_open.no_value

    inner-known : HasValues vars inner
    inner-known = λ other r at.
        known.holds (v.name ∷ walk.running) walk.depth other r inner-apart (omega (arith, walk.deep, walk.room)) at

    -- its value, as it is evaluated
    own-value : value_within times_of vs (suc walk.depth) walk.running v.name ≡ evaluated (is_running v.name) v inner
    own-value =
        ap (λ b. value_of_found b (variable_named vs v.name) (times_of.value inner)) (sym (walk.runs v.name))
        ∙ ap (λ o. value_of_found (is_running v.name) o (times_of.value inner)) walk.is_open.first

    free-now : is_running v.name ≡ false → is_free vars is_running v ≡ true
    free-now idle =
        and_from (has_no_value vars v) (not (is_running v.name)) (none-is (value_of_name v.name vars) walk.is_open.no_value)
        (ap not idle)

    some-free : is_running v.name ≡ false → 1 ≤ count_by (is_free vars is_running) vs
    some-free idle =
        omega (
          arith,
          count-less (is_free vars is_running) (λ u. false) vs v (λ u. same u.name v.name)
              (λ u e. let no : ⊥ = cc in absurd no) walk.is_open.first (free-now idle) refl,
        )

    inner-unknown : (depth : ℕ) → walk.depth ≡ depth → is_running v.name ≡ false → (other : List ℕ)
        → variable_named vs other ≡ None
        → value_within times_of vs depth (v.name ∷ walk.running) other ≡ Err (in_text UnknownName)
    inner-unknown zero is idle other none = absurd (omega (arith, is, walk.deep, walk.room, some-free idle))
    inner-unknown (suc depth) is idle other none =
        ap (λ o. value_of_found (has_name (v.name ∷ walk.running) other) o
        (times_of.value (value_within times_of vs depth (other ∷ (v.name ∷ walk.running))))) none

    pub inner-goes : GoesUnless (is_running v.name) vs vars inner
    inner-goes idle = record {
      known = inner-known;
      unknown = λ other none.
          ap (λ d. value_within times_of vs d (v.name ∷ walk.running) other) refl
          ∙ inner-unknown walk.depth refl idle other none;
    }

    -- the evaluation ends with a refusal
    pub walk-ends : (e : StilRefusal)
        → ((names : List ℕ → Result Ratio Met) → GoesUnless (is_running v.name) vs vars names
        → Blames (value_fault q (evaluated (is_running v.name) v names)) e)
        → Blames (value_fault p (value_of times_of vs name)) e
    walk-ends e ends = λ told same.
        walk.leads told (ap (value_fault q) own-value ∙ ends inner inner-goes told same)

    -- it ends with a value
    pub walk-finds : (r : Ratio) → is_running v.name ≡ false
        → ((names : List ℕ → Result Ratio Met) → HasValues vars names → evaluated (is_running v.name) v names ≡ Ok r)
        → IsNext vs vars v r
    walk-finds r idle finds = record {
      is_open = walk.is_open;
      value = λ names has. ap (λ b. evaluated b v names) (sym idle) ∙ finds names has;
    }

    -- it goes on with another variable
    module _ (u : Variable) (place : Place) (idle : is_running v.name ≡ false) (is_open : IsOpen vs vars u)
        (down : (names : List ℕ → Result Ratio Met) → GoesUnless (is_running v.name) vs vars names → (told : StilFault)
        → value_fault place (names u.name) ≡ Some told
        → value_fault q (evaluated (is_running v.name) v names) ≡ Some told)
        (now_running : List ℕ → Bool)
        (now : (other : List ℕ) → now_running other ≡ (is_running other || bytes_eq other v.name)) where
      own-running : now_running v.name ≡ true
      own-running = now v.name ∙ or_right (is_running v.name) (bytes_eq v.name v.name) (same-refl v.name)

      -- one variable fewer is free
      pub walk-nears : count_by (is_free vars now_running) vs + 1 ≤ count_by (is_free vars is_running) vs
      walk-nears =
          count-less (is_free vars is_running) (is_free vars now_running) vs v (λ x. same x.name v.name)
          (λ x e. and_from (has_no_value vars x) (not (is_running x.name))
          (and_left (has_no_value vars x) (not (now_running x.name)) e)
          (not_or (is_running x.name) (bytes_eq x.name v.name)
          (ap not (sym (now x.name)) ∙ and_right (has_no_value vars x) (not (now_running x.name)) e)))
          walk.is_open.first (free-now idle) (not_both (has_no_value vars v) (now_running v.name) own-running)
        where
          not_both : (a b : Bool) → b ≡ true → (a && not b) ≡ false
          not_both true true e = refl
          not_both true false e = cc
          not_both false b e = refl

      goes-down : (depth : ℕ) → walk.depth ≡ depth → IsWalk vs vars p name now_running u place
      goes-down zero is = absurd (omega (arith, is, walk.deep, walk.room, some-free idle))
      goes-down (suc depth) is = record {
        running = v.name ∷ walk.running;
        depth = depth;
        runs = λ other.
            now other ∙ or-comm (is_running other) (bytes_eq other v.name)
            ∙ ap (λ b. bytes_eq other v.name || b) (walk.runs other);
        apart = inner-apart;
        is_open = is_open;
        deep = omega (arith, is, walk.deep);
        room = omega (arith, walk.room, walk-nears);
        leads = λ told e.
            walk.leads told (ap (value_fault q) own-value
            ∙ down inner inner-goes told
            (ap (λ d. value_fault place (value_within times_of vs d (v.name ∷ walk.running) u.name)) is ∙ e));
      }

      pub walk-goes-down : IsWalk vs vars p name now_running u place
      walk-goes-down = goes-down walk.depth refl
