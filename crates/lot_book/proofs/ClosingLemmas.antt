-- A share that comes back keeps the rule, and what the book has at the end.
use Rattle.std.proofs.Common.{◌≡◌, ℕ, ◌+◌, ◌≤◌, List, [], ◌∷◌, ◌++◌, None, is_some, cond, All, map, length, get_or, set, sum_by, mul-zero, ◌*◌, sym, refl, ap, ◌∙◌, subst, ⊎_elim, arith, length-append, append_assoc}
use mathlib.Core.Option.{some}
use lib.ListN.{get_elem?}
use Rattle.std.proofs.lemmas.List.{get_or-append-add, get_or-map, length-map, map-append}
use Rattle.std.proofs.lemmas.List.Sums.{sum_by-cons, sum_by_push, sum_by-le, sum_by-le-sum_by}
use Rattle.std.proofs.lemmas.List.Elements.{All-push}
use Rattle.text_bytes.proofs.SumLemmas.{sum_by-set_there}
use Rattle.atomic_table.specs.Table.{State, Me, Joins, Final, Seen}
use Rattle.atomic_table.proofs.Lists.{at_set}
use Rattle.tester_types.specs.Records.{SiteRecords}
use Rattle.floor_core.specs.Book.{at_site, places_in}
use Rattle.lot_book.specs.Rule.{opener_view, as_opener, as_share, of_share, over_shares, one, if_at, if_holds, IsOfBook, IsKept}
use Rattle.lot_book.specs.Steps.{opener_after_ending, spent}
use Rattle.lot_book.specs.Shares.{ShareFacts, view_of, after_return}
use Rattle.lot_book.specs.declared.view.View.{View}
use Rattle.lot_book.specs.declared.view.View.TheVariants.{Opener, Share, Spent}
use Rattle.lot_book.specs.declared.view.OpenerView.{OpenerView}
use Rattle.lot_book.specs.declared.view.ShareView.{ShareView}
use Rattle.lot_book.proofs.RuleLemmas.{state, holders, behind_opener, still_no_opener, opener_place, cond-le-one}

-- the opener with one more view that came back
abbrev with_view : ShareView → OpenerView → OpenerView
with_view v o = opener_view o.made o.places (o.ended ++ v ∷ [])

-- a sum over the shares, one of which comes back
over_shares_back : (f : ShareView → ℕ) (opener : OpenerView) (shares : List View) (k : ℕ) (v : ShareView) → get_elem? shares k ≡ some (Share v)
    → over_shares f (with_view v opener) (set shares k Spent) ≡ over_shares f opener shares
over_shares_back f opener shares k v there =
    omega (arith, sum_by_push f opener.ended v, sum_by-set_there (of_share f) shares k (Share v) Spent there)

-- a share comes back to the opener
pub joins : (id other : ℕ) (v w : View) → v ≡ Opener (as_opener v) → w ≡ Share (as_share w) → (as_share w).held ≡ None
    → Joins IsKept id v other w (opener_after_ending v w) spent
joins id other v w is is_share rests s kept there apart other_there =
    let u = as_share w in
    let place = opener_place s kept id (as_opener v) (there ∙ ap (λ (x : View). some x) is) in
    let both : OpenerView → View = λ x. Opener (with_view u x) in
    let opener = with_view u kept.opener in
    let views_then : set s.views id (both kept.opener) ≡ Opener opener ∷ kept.shares =
    ap (λ (i : ℕ). set s.views i (both kept.opener)) place.0 ∙ ap (λ (vs : List View). set vs 0 (both kept.opener)) kept.views in
    let at_other : get_elem? (Opener opener ∷ kept.shares) other ≡ some (Share u) =
    ap (λ (vs : List View). get_elem? vs other) (sym views_then)
    ∙ ap (λ (x : OpenerView). get_elem? (set s.views id (both x)) other) place.1
    ∙ other_there ∙ ap (λ (x : View). some x) is_share in
    let here = behind_opener opener kept.shares other u at_other in
    let k = here.0 in
    let sum : (f : ShareView → ℕ) → over_shares f opener (set kept.shares k Spent) ≡ over_shares f kept.opener kept.shares =
    λ f. over_shares_back f kept.opener kept.shares k u here.2 in
    subst (λ (x : OpenerView). IsKept (state s.words s.homes (set (set s.views id (both x)) other Spent))) place.1 record {
      opener = opener;
      shares = set kept.shares k Spent;
      book = kept.book;
      views = ap (λ (vs : List View). set vs other Spent) views_then ∙ ap (λ (i : ℕ). set (Opener opener ∷ kept.shares) i Spent) here.1;
      no_opener = still_no_opener kept.shares k Spent (λ o e. cc) kept.no_opener;
      once = λ site. omega (arith, sum (if_at site), kept.once site);
      all = omega (arith, sum one, kept.all);
      turn = kept.turn ∙ ap (λ (n : ℕ). n ∷ []) (sym (sum if_holds));
      most = omega (arith, sum if_holds, kept.most);
      none_ended = All-push (λ (x : ShareView). x.held ≡ None) kept.opener.ended u kept.none_ended rests;
      home = λ e. kept.home (sym (sum if_holds) ∙ e);
      out = λ e. kept.out (sym (sum if_holds) ∙ e);
      places = kept.places;
      each = λ j x e.
          ⊎_elim (λ t. let never : Spent ≡ Share x = t.1 in cc) (λ t. kept.each j x t.1) (at_set kept.shares k j Spent (Share x) e);
      each_ended = All-push (IsOfBook kept.book) kept.opener.ended u kept.each_ended (kept.each k u here.2);
      beyond = kept.beyond;
    }

-- one for each is how many there are
sum_by-one : (l : List ShareView) → sum_by one l ≡ length l
sum_by-one [] = refl
sum_by-one (x ∷ xs) = omega (arith, sum_by-cons one x xs, sum_by-one xs)

of_share-le : (w : View) → of_share if_holds w ≤ of_share one w
of_share-le (Share v) = cond-le-one (is_some v.held)
of_share-le (Opener o) = omega arith
of_share-le Spent = omega arith

-- where all shares came back, none holds the book
no_holders : (s : State (List SiteRecords) View) (kept : IsKept s) → length kept.opener.ended ≡ kept.opener.made → holders s kept ≡ 0
no_holders s kept all =
    let ended = kept.opener.ended in
    let ended_none : sum_by if_holds ended ≤ length ended * 0 =
    sum_by-le if_holds 0 ended (λ k d h. let e = ap (λ held. cond {A = ℕ} (is_some held) 1 0) (kept.none_ended k d h) in omega (arith, e)) in
    omega (
      arith,
      ended_none,
      mul-zero (length ended),
      sum_by-le-sum_by (of_share if_holds) (of_share one) kept.shares of_share-le,
      kept.all,
      sum_by-one ended,
      all,
    )

-- at the end the book lies in the slot, with the opener's places and what each share that came back knows
pub closes : (id : ℕ) (me : Me (List SiteRecords) View) (o : OpenerView) (words : List ℕ) (slots : List (List SiteRecords))
    → me.0 ≡ Opener o → length o.ended ≡ o.made → Final (Seen IsKept id me.0) words slots
    → (book : List SiteRecords) × (get_elem? slots 0 ≡ some book) × (places_in book ≡ o.places) × All (IsOfBook book) o.ended
closes id me o words slots is all final =
    let s : State (List SiteRecords) View = final.0 in
    let kept : IsKept s = final.1.0 in
    let same : kept.opener ≡ o = (opener_place s kept id o (final.1.1 ∙ ap (λ (v : View). some v) is)).1 in
    let home = no_holders s kept (ap (λ (x : OpenerView). length x.ended) same ∙ all ∙ sym (ap (λ (x : OpenerView). x.made) same)) in (
      kept.book,
      final.4 0 kept.book (ap (λ hs. get_elem? hs 0) (kept.home home)),
      kept.places ∙ ap (λ (x : OpenerView). x.places) same,
      subst (λ (x : OpenerView). All (IsOfBook kept.book) x.ended) same kept.each_ended,
    )

-- what is so of all views that came back is so of the shares that came last
pub filed_of_last : (book : List SiteRecords) (before : List ShareView) (shares : List ShareFacts)
    → All (IsOfBook book) (before ++ map view_of shares) → All (λ (share : ShareFacts). (at_site book share.site).records ≡ share.records) shares
filed_of_last book before shares all k d here =
    let views = map view_of shares in
    let place : get_or (before ++ views) (length before + k) (view_of d) ≡ view_of (get_or shares k d) =
    get_or-append-add before views k (view_of d) ∙ get_or-map view_of shares k d (view_of d) here in
    let known = subst (IsOfBook book) place
    (all (length before + k) (view_of d) (omega (arith, length-append before views, length-map shares view_of))) in
    sym known.records

-- one more share that comes back
pub one_more_back : (o first : OpenerView) (shares : List ShareFacts) (share : ShareFacts) (v : ShareView) → o ≡ after_return first shares
    → v ≡ view_of share → with_view v o ≡ after_return first (shares ++ share ∷ [])
one_more_back o first shares share v e same =
    let views = map view_of shares in
    let last : views ++ v ∷ [] ≡ map view_of (shares ++ share ∷ []) =
    ap (λ u. views ++ u ∷ []) same ∙ sym (map-append view_of shares (share ∷ [])) in
    ap (with_view v) e
    ∙ ap (λ l. opener_view first.made first.places l)
    (append_assoc first.ended views (v ∷ []) ∙ ap (λ l. first.ended ++ l) last)
