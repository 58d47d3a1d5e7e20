-- A new table keeps the pool's rule, and so do the making of a pass, a take and a give.
use Rattle.std.proofs.Common.{◌≡◌, ℕ, zero, suc, ◌+◌, ◌≤◌, Bool, true, false, List, [], ◌∷◌, ◌++◌, cond, ◌==◌, set, slice_index, sym, refl, ap, ◌∙◌, subst, ⊎_elim, arith, length-append, length-set}
use mathlib.Core.Option.{Option, none, some, some-injective, some-ne-none}
use lib.ListN.{get_elem?}
use prog.Atomic.{either}
use Rattle.std.proofs.lemmas.List.{set-get_or}
use Rattle.std.proofs.lemmas.List.Sums.{sum_by_push}
use Rattle.text_bytes.proofs.SumLemmas.{sum_by-set_there, term-le-sum_by}
use Rattle.atomic_table.specs.Table.{State, Me, Act, keeps, takes, gives, step, Valid, stepped, carried_after, Allows, Splits, opening}
use Rattle.atomic_table.proofs.Lists.{at_set, at_snoc, set_again, exchanged}
use Rattle.pattern_mem.specs.Pool.{Pool, basis_of}
use Rattle.pattern_mem.specs.Rule.{opener_view, pass_view, as_opener, as_pass, first_view, if_holds, holders, IsPassOver, IsKept}
use Rattle.pattern_mem.specs.Steps.{IsPass, HoldsPool, Takes, Gives, opener_after_making, pass_made}
use Rattle.pattern_mem.specs.declared.view.View.{View}
use Rattle.pattern_mem.specs.declared.view.View.TheVariants.{Opener, Pass}
use Rattle.pattern_mem.specs.declared.view.Basis.{Basis}
use Rattle.pattern_mem.specs.declared.view.OpenerView.{OpenerView}
use Rattle.pattern_mem.specs.declared.view.PassView.{PassView}

-- ---- sums over views

-- ---- where views stand

-- a table's state, of its parts
abbrev state : List ℕ → List (Option Pool) → List View → State Pool View
state words homes views = record { words = words; homes = homes; views = views }

-- a pass's view stands behind the opener's
behind_opener : (opener : OpenerView) (passes : List View) (id : ℕ) (v : PassView) → get_elem? (Opener opener ∷ passes) id ≡ some (Pass v)
    → (k : ℕ) × (id ≡ suc k) × (get_elem? passes k ≡ some (Pass v))
behind_opener opener passes zero v e = let same : Opener opener ≡ Pass v = some-injective (Opener opener) (Pass v) e in cc
behind_opener opener passes (suc k) v e = (k, refl, e)

-- the opener's view stands first
opener_first : (opener : OpenerView) (passes : List View) → ((k : ℕ) (v : View) → get_elem? passes k ≡ some v → IsPassOver opener.basis v)
    → (id : ℕ) (o : OpenerView) → get_elem? (Opener opener ∷ passes) id ≡ some (Opener o) → (id ≡ 0) × (opener ≡ o)
opener_first opener passes bases zero o e = let same : Opener opener ≡ Opener o = some-injective (Opener opener) (Opener o) e in (refl, cc)
opener_first opener passes bases (suc k) o e = let never : Opener o ≡ Pass (pass_view opener.basis false) = bases k (Opener o) e in cc

module _ (s : State Pool View) (kept : IsKept s) where
  -- the turn is the number of passes that hold the pool
  turn_is : slice_index s.words 0 ≡ holders kept.passes
  turn_is = ap (λ (ws : List ℕ). slice_index ws 0) kept.turn

  -- where the view of a pass stands
  pass_place : (id : ℕ) (v : PassView) → get_elem? s.views id ≡ some (Pass v)
      → (k : ℕ) × (id ≡ suc k) × (get_elem? kept.passes k ≡ some (Pass v))
  pass_place id v there = behind_opener kept.opener kept.passes id v (ap (λ (vs : List View). get_elem? vs id) (sym kept.views) ∙ there)

  -- the pool of a pass is made of what the opener's is
  basis_is : (id : ℕ) (v : PassView) → get_elem? s.views id ≡ some (Pass v) → v.basis ≡ kept.opener.basis
  basis_is id v there =
      let here = pass_place id v there in
      ap (λ (u : View). (as_pass u).basis) (kept.bases here.0 (Pass v) here.2)

  -- where a pass takes the pool or gives it back, the rule is kept with the turn and the home that this makes
  pass_moves : (id : ℕ) (v : PassView) (holds : Bool) (words : List ℕ) (homes : List (Option Pool)) (count : ℕ)
      → get_elem? s.views id ≡ some (Pass v)
      → count + cond v.holds 1 0 ≡ holders kept.passes + cond holds 1 0 → words ≡ count ∷ [] → count ≤ 1
      → (count ≡ 0 → (pool : Pool) × (homes ≡ some pool ∷ []) × (basis_of pool ≡ kept.opener.basis))
      → (count ≡ 1 → homes ≡ none ∷ [])
      → IsKept (state words homes (set s.views id (Pass (pass_view v.basis holds))))
  pass_moves id v holds words homes count there counted turn once home out =
      let here = pass_place id v there in
      let k = here.0 in
      let w = Pass (pass_view v.basis holds) in
      let after = set kept.passes k w in
      let total : count ≡ holders after = omega (arith, counted, sum_by-set_there if_holds kept.passes k (Pass v) w here.2) in
      let basis = basis_is id v there in
      record {
        opener = kept.opener;
        passes = after;
        views = ap (λ (i : ℕ). set s.views i w) here.1 ∙ ap (λ (vs : List View). set vs (suc k) w) kept.views;
        all = length-set kept.passes k w ∙ kept.all;
        bases = λ j u e.
            ⊎_elim
            (λ t. subst (IsPassOver kept.opener.basis) t.1 (ap (λ (b : Basis). Pass (pass_view b holds)) basis))
            (λ t. kept.bases j u t.1) (at_set kept.passes k j w u e);
        turn = turn ∙ ap (λ (n : ℕ). n ∷ []) total;
        once = omega (arith, total, once);
        home = λ e. home (total ∙ e);
        out = λ e. out (total ∙ e);
      }

-- ---- the steps

-- a new table
pub begins : (basis : Basis) (pool : Pool) → basis_of pool ≡ basis → IsKept (opening (0 ∷ []) (pool ∷ []) (first_view basis))
begins basis pool over = record {
  opener = opener_view 0 basis;
  passes = [];
  views = refl;
  all = refl;
  bases = λ k v e. absurd (some-ne-none v (sym e));
  turn = refl;
  once = omega arith;
  home = λ e. (pool, refl, over);
  out = λ e. absurd (omega (arith, e));
}

-- the opener that has made one pass more
abbrev one_more : OpenerView → OpenerView
one_more o = opener_view (o.made + 1) o.basis

-- a pass is made
pub make_keeps : (id : ℕ) (v : View) → v ≡ Opener (as_opener v) → Splits IsKept id v (opener_after_making v) (pass_made v)
make_keeps id v is s kept there =
    let opener = kept.opener in
    let place = opener_first opener kept.passes kept.bases id (as_opener v)
    (ap (λ (vs : List View). get_elem? vs id) (sym kept.views) ∙ there ∙ ap (λ (w : View). some w) is) in
    let pass : OpenerView → View = λ o. Pass (pass_view o.basis false) in
    let passes = kept.passes ++ pass opener ∷ [] in
    let sum : holders passes ≡ holders kept.passes = omega (arith, sum_by_push if_holds kept.passes (pass opener)) in
    subst (λ (o : OpenerView). IsKept (state s.words s.homes (set s.views id (Opener (one_more o)) ++ pass o ∷ []))) place.1 record {
      opener = one_more opener;
      passes = passes;
      views = ap (λ (i : ℕ). set s.views i (Opener (one_more opener)) ++ pass opener ∷ []) place.0
          ∙ ap (λ (vs : List View). set vs 0 (Opener (one_more opener)) ++ pass opener ∷ []) kept.views;
      all = omega (arith, kept.all, length-append kept.passes (pass opener ∷ []));
      bases = λ k u e.
          ⊎_elim (λ t. kept.bases k u t) (λ (t : pass opener ≡ u). subst (IsPassOver opener.basis) t refl)
          (at_snoc kept.passes (pass opener) u k e);
      turn = kept.turn ∙ ap (λ (n : ℕ). n ∷ []) (sym sum);
      once = omega (arith, sum, kept.once);
      home = λ e. kept.home (sym sum ∙ e);
      out = λ e. kept.out (sym sum ∙ e);
    }

-- the rule is kept where nothing changes
same_kept : (s : State Pool View) (id : ℕ) (v : View) → IsKept s → get_elem? s.views id ≡ some v
    → IsKept (state (set s.words 0 (slice_index s.words 0)) s.homes (set s.views id v))
same_kept s id v kept there =
    subst (λ (ws : List ℕ). IsKept (state ws s.homes (set s.views id v))) (sym (set-get_or s.words 0 0))
    (subst (λ (vs : List View). IsKept (state s.words s.homes vs)) (sym (set_again s.views id v there)) kept)

-- what a step on the turn comes to, where the turn is then that number
abbrev Comes : State Pool View → ℕ → Me Pool View → (ℕ → Me Pool View → Type 0) → ℕ → Type 0
Comes s id me then n =
    (w : View) × (a : Act Pool) × Valid s.homes me.1 a × IsKept (stepped s 0 n id me.1 w a)
    × then (slice_index s.words 0) (w, carried_after me.1 a)

-- a pass tries to take the turn
take_there : (slots id : ℕ) (basis : Basis)
    → Allows IsKept slots id (Pass (pass_view basis false), []) 0 (λ n. either (n == 0) 1 n)
    (Takes (step slots 0 0 1 none) (Pass (pass_view basis false), []))
take_there slots id basis s kept wide there fits =
    let me : Me Pool View = (Pass (pass_view basis false), []) in
    let n : ℕ = slice_index s.words 0 in
    let turn = turn_is s kept in
    exchanged n 0 1 (Comes s id me (Takes (step slots 0 0 1 none) me))
    (λ hit.
    let home = kept.home (sym turn ∙ hit) in
    let pool = home.0 in
    let over : basis_of pool ≡ basis = home.2 ∙ sym (basis_is s kept id (pass_view basis false) there) in (
      Pass (pass_view basis true),
      takes 0 pool,
      ap (λ (hs : List (Option Pool)). get_elem? hs 0) home.1,
      pass_moves s kept id (pass_view basis false) true (set s.words 0 1) (set s.homes 0 none) 1 there (omega (arith, turn, hit))
          (ap (λ (ws : List ℕ). set ws 0 1) kept.turn) (omega arith) (λ e. absurd (omega (arith, e)))
          (λ _. ap (λ (hs : List (Option Pool)). set hs 0 none) home.1),
      ((λ _. (pool, refl, over)), (λ miss. absurd (miss hit))),
    ))
    (λ miss. (me.0, keeps, tt, same_kept s id me.0 kept there, ((λ hit. absurd (miss hit)), (λ _. refl))))

pub take_keeps : (slots id : ℕ) (me : Me Pool View) (basis : Basis) → IsPass me basis
    → Allows IsKept slots id me 0 (λ n. either (n == 0) 1 n) (Takes (step slots 0 0 1 none) me)
take_keeps slots id me basis is =
    subst (λ (m : Me Pool View). Allows IsKept slots id m 0 (λ n. either (n == 0) 1 n) (Takes (step slots 0 0 1 none) m)) (sym is)
    (take_there slots id basis)

-- a pass gives the turn back
give_there : (slots id : ℕ) (basis : Basis) (pool : Pool) → basis_of pool ≡ basis
    → Allows IsKept slots id (Pass (pass_view basis true), (0, pool) ∷ []) 0 (λ _. 0)
    (λ _. Gives (step slots 0 0 0 none) (Pass (pass_view basis true), (0, pool) ∷ []) 0)
give_there slots id basis pool over s kept wide there fits =
    let v = pass_view basis true in
    let here = pass_place s kept id v there in
    let one : holders kept.passes ≡ 1 = omega (arith, kept.once, term-le-sum_by if_holds kept.passes here.0 (Pass v) here.2) in (
      Pass (pass_view basis false),
      gives,
      tt,
      pass_moves s kept id v false (set s.words 0 0) (set s.homes 0 (some pool)) 0 there (omega (arith, one))
          (ap (λ (ws : List ℕ). set ws 0 0) kept.turn) (omega arith)
          (λ _. (
            pool,
            ap (λ (hs : List (Option Pool)). set hs 0 (some pool)) (kept.out one),
            over ∙ basis_is s kept id v there,
          )) (λ e. absurd (omega (arith, e))),
      refl,
    )

pub give_keeps : (slots id : ℕ) (me : Me Pool View) (basis : Basis) → HoldsPool me basis
    → Allows IsKept slots id me 0 (λ _. 0) (λ _. Gives (step slots 0 0 0 none) me 0)
give_keeps slots id me basis holds =
    subst (λ (m : Me Pool View). Allows IsKept slots id m 0 (λ _. 0) (λ _. Gives (step slots 0 0 0 none) m 0)) (sym holds.1)
    (give_there slots id basis holds.0 holds.2)
