-- A take and a give each keep the rule.
use Rattle.std.proofs.Common.{◌≡◌, ◌≢◌, ℕ, ◌==◌, List, [], ◌∷◌, Option, Some, None, is_some, cond, get_or, set, slice_index, sym, refl, ap, ◌∙◌, subst, ◌⊎◌, inl, inr, ⊎_elim, arith}
use mathlib.Core.Option.{none, some}
use lib.ListN.{get_elem?}
use prog.Atomic.{either}
use Rattle.std.proofs.lemmas.List.{set-get_or}
use Rattle.text_bytes.proofs.SumLemmas.{term-le-sum_by}
use Rattle.atomic_table.specs.Table.{State, Me, Act, keeps, takes, gives, step, Valid, stepped, carried_after, Allows}
use Rattle.atomic_table.proofs.Lists.{set_again, exchanged}
use Rattle.tester_types.specs.Records.{SiteRecords}
use Rattle.lot_book.specs.Rule.{if_holds, IsOfBook, IsKept}
use Rattle.lot_book.specs.Steps.{resting, holding, given_back, DiffersAt, IsShare, HasTaken, Takes, Gives}
use Rattle.lot_book.specs.declared.view.View.{View}
use Rattle.lot_book.specs.declared.view.View.TheVariants.{Share}
use Rattle.lot_book.specs.declared.view.ShareView.{ShareView}
use Rattle.lot_book.proofs.SumLemmas.{terms-le-sum_by}
use Rattle.lot_book.specs.Rule.{of_share}
use Rattle.lot_book.proofs.RuleLemmas.{Homes, state, holders, turn_is, share_place, site_made, two_sites, other_site_ended, share_moves}

-- the rule is kept where nothing changes
same_kept : (s : State (List SiteRecords) View) (id : ℕ) (v : View) → IsKept s → get_elem? s.views id ≡ some v
    → IsKept (state (set s.words 0 (slice_index s.words 0)) s.homes (set s.views id v))
same_kept s id v kept there =
    subst (λ (ws : List ℕ). IsKept (state ws s.homes (set s.views id v))) (sym (set-get_or s.words 0 0))
    (subst (λ (vs : List View). IsKept (state s.words s.homes vs)) (sym (set_again s.views id v there)) kept)

-- what a step on the turn comes to, where the turn is then that number
abbrev Comes : State (List SiteRecords) View → ℕ → Me (List SiteRecords) View → (ℕ → Me (List SiteRecords) View → Type 0) → ℕ → Type 0
Comes s id me then n =
    (w : View) × (a : Act (List SiteRecords)) × Valid s.homes me.1 a × IsKept (stepped s 0 n id me.1 w a)
    × then (slice_index s.words 0) (w, carried_after me.1 a)

-- a share tries to take the turn
take_there : (slots id : ℕ) (v : ShareView)
    → Allows IsKept slots id (Share (resting v), []) 0 (λ n. either (n == 0) 1 n) (Takes (step slots 0 0 1 none) (Share (resting v), []))
take_there slots id v s kept wide there fits =
    let me : Me (List SiteRecords) View = (Share (resting v), []) in
    let n : ℕ = slice_index s.words 0 in
    let turn = turn_is s kept in
    let book : List SiteRecords = kept.book in
    let place = share_place s kept id (resting v) there in
    let known : IsOfBook book (resting v) = kept.each place.0 (resting v) place.2 in
    exchanged n 0 1 (Comes s id me (Takes (step slots 0 0 1 none) me))
    (λ hit.
    let home = kept.home (sym turn ∙ hit) in (
      Share (holding v book),
      takes 0 book,
      ap (λ (hs : Homes). get_elem? hs 0) home,
      share_moves s kept id (resting v) (holding v book) book (set s.words 0 1) (set s.homes 0 none) 1 there refl
          (omega (arith, turn, hit)) (ap (λ (ws : List ℕ). set ws 0 1) kept.turn) (omega arith) (λ e. absurd (omega (arith, e)))
          (λ _. ap (λ (hs : Homes). set hs 0 none) home) kept.places
          (record { places = known.places; records = known.records; held = inr refl })
          (λ j k u _ _ e. kept.each j u e) kept.each_ended kept.beyond,
      ((λ _. (book, refl, record { places = sym known.places; records = sym known.records })), (λ miss. absurd (miss hit))),
    ))
    (λ miss. (me.0, keeps, tt, same_kept s id me.0 kept there, ((λ hit. absurd (miss hit)), (λ _. refl))))

pub take_keeps : (slots id : ℕ) (me : Me (List SiteRecords) View) (v : ShareView) → IsShare me v
    → Allows IsKept slots id me 0 (λ n. either (n == 0) 1 n) (Takes (step slots 0 0 1 none) me)
take_keeps slots id me v is =
    subst (λ (m : Me (List SiteRecords) View). Allows IsKept slots id m 0 (λ n. either (n == 0) 1 n) (Takes (step slots 0 0 1 none) m)) (sym is)
    (take_there slots id v)

-- what another share knows is so of a book that differs from the one that it knew elsewhere
still_of_book : (before after : List SiteRecords) (site : ℕ) (u : ShareView) → DiffersAt site before after → u.site ≢ site
    → u.held ≡ None → IsOfBook before u → IsOfBook after u
still_of_book before after site u differs apart rests known = record {
  places = known.places ∙ sym differs.places;
  records = known.records ∙ sym (differs.others u.site apart);
  held = inl rests;
}

-- a share that doesn't hold the book holds none
none_held : (v : ShareView) → if_holds v ≡ 0 → v.held ≡ None
none_held v e = go v.held e
  where
    go : (held : Option (List SiteRecords)) → cond {A = ℕ} (is_some held) 1 0 ≡ 0 → held ≡ None
    go None e = refl
    go (Some book) e = absurd (omega (arith, e))

-- the book that a share holds is the one that the rule speaks of
same_book : (taken book : List SiteRecords) → (Some taken ≡ None) ⊎ (Some taken ≡ Some book) → taken ≡ book
same_book taken book = ⊎_elim (λ never. cc) (λ same. cc)

module _ (s : State (List SiteRecords) View) (kept : IsKept s) (k : ℕ) (v : ShareView) (there : get_elem? kept.shares k ≡ some (Share v)) (holds : if_holds v ≡ 1) where
  -- one share holds the book
  one_holds : holders s kept ≡ 1
  one_holds = omega (arith, kept.most, term-le-sum_by (of_share if_holds) kept.shares k (Share v) there, holds)

  -- another share doesn't
  no_other : (j : ℕ) (u : ShareView) → j ≢ k → get_elem? kept.shares j ≡ some (Share u) → u.held ≡ None
  no_other j u apart here =
      none_held u (omega (
        arith,
        one_holds,
        terms-le-sum_by (of_share if_holds) kept.shares j k (Share u) (Share v) here there apart,
        holds,
      ))

-- a share gives the turn back
give_there : (slots id : ℕ) (v : ShareView) (taken now : List SiteRecords) → DiffersAt v.site taken now
    → Allows IsKept slots id (Share (holding v taken), (0, now) ∷ []) 0 (λ _. 0)
    (λ _. Gives (step slots 0 0 0 none) (Share (holding v taken), (0, now) ∷ []) 0)
give_there slots id v taken now differs s kept wide there fits =
    let u = holding v taken in
    let here = share_place s kept id u there in
    let k = here.0 in
    let known : IsOfBook kept.book u = kept.each k u here.2 in
    let same : taken ≡ kept.book = same_book taken kept.book known.held in
    let moved : DiffersAt v.site kept.book now = subst (λ (book : List SiteRecords). DiffersAt v.site book now) same differs in
    let one : holders s kept ≡ 1 = one_holds s kept k u here.2 refl in (
      Share (given_back u now),
      gives,
      tt,
      share_moves s kept id u (given_back u now) now (set s.words 0 0) (set s.homes 0 (some now)) 0 there refl
          (omega (arith, one)) (ap (λ (ws : List ℕ). set ws 0 0) kept.turn) (omega arith)
          (λ _. ap (λ (hs : Homes). set hs 0 (some now)) (kept.out one)) (λ e. absurd (omega (arith, e)))
          (moved.places ∙ kept.places)
          (record { places = known.places ∙ sym moved.places; records = refl; held = inl refl })
          (λ j i w at apart e.
          still_of_book kept.book now v.site w moved (two_sites s kept j i w u e at apart)
          (no_other s kept i u at refl j w apart e) (kept.each j w e))
          (λ j d inside.
          let w = get_or kept.opener.ended j d in
          still_of_book kept.book now v.site w moved (other_site_ended s kept k u here.2 j d inside)
          (kept.none_ended j d inside) (kept.each_ended j d inside))
          (λ site past.
          moved.others site (λ e. let made = site_made s kept k u here.2 in omega (arith, made, e, past))
          ∙ kept.beyond site past),
      refl,
    )

pub give_keeps : (slots id : ℕ) (me : Me (List SiteRecords) View) (v : ShareView) (taken now : List SiteRecords)
    → HasTaken me v taken now → DiffersAt v.site taken now
    → Allows IsKept slots id me 0 (λ _. 0) (λ _. Gives (step slots 0 0 0 none) me 0)
give_keeps slots id me v taken now has differs =
    subst (λ (m : Me (List SiteRecords) View). Allows IsKept slots id m 0 (λ _. 0) (λ _. Gives (step slots 0 0 0 none) m 0)) (sym has)
    (give_there slots id v taken now differs)
