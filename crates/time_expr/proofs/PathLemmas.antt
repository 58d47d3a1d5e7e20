-- The path of an evaluation from variable to variable.
use Rattle.std.proofs.Common.{◌≡◌, ℕ, ◌-◌, ◌<◌, Bool, false, ◌||◌, List, [], ◌∷◌, ◌++◌, length, Result, Ok, Err, sym, ap, subst, ◌∙◌, arith, count_by, length-append}
use Rattle.std.specs.Borrow.{Bor}
use Rattle.std.specs.Str.{bytes_eq}
use Rattle.std.specs.List.{list_any}
use Rattle.std.proofs.lemmas.List.{get_or_push}
use Rattle.answers.specs.Answers.{Blames}
use Rattle.indexmap.specs.IndexSet.{IndexSet, keys}
use Rattle.stil_ast.specs.Data.Places.{Place}
use Rattle.stil_ast.specs.Meaning.Variables.{Variable, value_of, value_fault}
use Rattle.stil_ast.specs.Data.Refusal.{StilRefusal}
use Rattle.expr_text.specs.Ratio.{Ratio}
use Rattle.time_expr.specs.TimesOf.{times_of}
use Rattle.text_bytes.specs.Texts.{is_among}
use Rattle.time_expr.specs.Picked.{variable_of, place_of}
use Rattle.time_expr.specs.Path.{last_of}
use Rattle.time_expr.specs.Choosing.{IsOpen, GoesUnless, Steps, IsFresh, evaluated, IsNext, AreKnown, is_free, IsWalk}
use Rattle.time_expr.specs.declared.picked.Picked.{Picked}
use Rattle.time_expr.specs.declared.picked.Spot.{Spot}
use Rattle.time_expr.specs.declared.walk.Visit.{Visit}
use Rattle.time_expr.specs.declared.walk.Step.{Step}
use Rattle.time_expr.specs.declared.walk.Step.TheVariants as step
use Rattle.time_expr.proofs.WalkLemmas.{walk-starts, walk-ends, walk-finds, walk-nears, walk-goes-down}

-- an empty index keeps nothing
pub none-running : {S : Type 0} (index : IndexSet (Bor (List ℕ)) S) → keys index ≡ [] → (name : List ℕ)
    → is_among (keys index) name ≡ false
none-running index empty name = ap (list_any (λ (k : Bor (List ℕ)). bytes_eq name k.now)) empty

last_of-push : (path : List Visit) (visit first : Visit) → last_of (path ++ visit ∷ []) first ≡ visit
last_of-push path visit first =
    get_or_push path visit first (length (path ++ visit ∷ []) - 1) (omega (arith, length-append path (visit ∷ [])))

-- at first it has come to the first visit
pub path-starts : (vs : List Variable) (vars : List (List ℕ × Ratio)) → AreKnown vs vars → (path : List Visit) (first : Visit)
    → (is_running : List ℕ → Bool) → path ≡ [] → ((other : List ℕ) → is_running other ≡ false)
    → IsOpen vs vars (variable_of first.variable.now)
    → IsWalk vs vars (place_of first.spot) first.variable.now.name.now is_running
    (variable_of (last_of path first).variable.now) (place_of (last_of path first).spot)
path-starts vs vars known path first is_running empty idle is_open =
    subst (λ (visit : Visit). IsWalk vs vars (place_of first.spot) first.variable.now.name.now is_running
    (variable_of visit.variable.now) (place_of visit.spot)) (sym (ap (λ xs. last_of xs first) empty))
    (walk-starts vs vars known (place_of first.spot) (variable_of first.variable.now) is_running idle is_open)

module _ (vs : List Variable) (vars : List (List ℕ × Ratio)) (known : AreKnown vs vars) (p : Place) (name : List ℕ) where
  -- the evaluation has come to this visit
  abbrev pub IsAt : (List ℕ → Bool) → Visit → Type 0
  IsAt is_running visit = IsWalk vs vars p name is_running (variable_of visit.variable.now) (place_of visit.spot)

  -- what is said of the value of the variable at this visit
  abbrev pub Looks : (List ℕ → Bool) → Visit → Result Ratio Step → Type 0
  Looks is_running visit r =
      Steps vs vars (GoesUnless (is_running visit.variable.now.name.now) vs vars)
      (evaluated (is_running visit.variable.now.name.now) (variable_of visit.variable.now)) (place_of visit.spot) r

  module _ (path : List Visit) (first here : Visit) (is_running : List ℕ → Bool) (is : here ≡ last_of path first)
      (at : IsAt is_running (last_of path first)) where
    at-here : IsAt is_running here
    at-here = subst (IsAt is_running) (sym is) at

    pub path-ends : (s : Step) (e : StilRefusal) → s ≡ step.Ends e → Looks is_running here (Err s)
        → Blames (value_fault p (value_of times_of vs name)) e
    path-ends s e ends looks =
        walk-ends vs vars known p name is_running (variable_of here.variable.now) (place_of here.spot) at-here e
        (subst (λ (x : Step). Looks is_running here (Err x)) ends looks)

    pub path-finds : (r : Ratio) → is_running here.variable.now.name.now ≡ false → Looks is_running here (Ok r)
        → IsNext vs vars (variable_of here.variable.now) r
    path-finds r idle looks =
        walk-finds vs vars known p name is_running (variable_of here.variable.now) (place_of here.spot) at-here r idle looks

    module _ (s : Step) (next : Bor Picked) (spot : Spot) (down : s ≡ step.Down next spot)
        (idle : IsFresh (is_running here.variable.now.name.now) (Err s)) (looks : Looks is_running here (Err s))
        (now_running : List ℕ → Bool)
        (now : (other : List ℕ)
        → now_running other ≡ (is_running other || bytes_eq other here.variable.now.name.now)) where
      idle-here : is_running here.variable.now.name.now ≡ false
      idle-here = subst (λ (x : Step). IsFresh (is_running here.variable.now.name.now) (Err x)) down idle

      looks-down : Looks is_running here (Err (step.Down next spot))
      looks-down = subst (λ (x : Step). Looks is_running here (Err x)) down looks

      pub path-goes-down : (now_path : List Visit) → now_path ≡ path ++ record { variable = next; spot = spot } ∷ []
          → IsAt now_running (last_of now_path first)
      path-goes-down now_path put =
          subst (IsAt now_running)
          (sym (ap (λ xs. last_of xs first) put ∙ last_of-push path (record { variable = next; spot = spot }) first))
          (walk-goes-down vs vars known p name is_running (variable_of here.variable.now) (place_of here.spot) at-here
          (variable_of next.now) (place_of spot) idle-here looks-down.0 looks-down.1 now_running now)

      pub path-nears : count_by (is_free vars now_running) vs < count_by (is_free vars is_running) vs
      path-nears =
          omega (
            arith,
            walk-nears vs vars known p name is_running (variable_of here.variable.now) (place_of here.spot)
                at-here (variable_of next.now) (place_of spot) idle-here looks-down.0 looks-down.1 now_running now,
          )
