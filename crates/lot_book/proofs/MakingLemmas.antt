-- A new book keeps the rule, and so does the making of a share.
use Rattle.std.proofs.Common.{◌≡◌, ℕ, zero, suc, ◌+◌, List, [], ◌∷◌, ◌++◌, None, map, length, set, sym, refl, ap, ◌∙◌, subst, inl, ⊎_elim, arith}
use mathlib.Core.Option.{some, some-ne-none}
use Rattle.std.proofs.lemmas.List.Sums.{sum_by_push}
use Rattle.text_bytes.proofs.BoolLemmas.{below_no, below_one_more}
use Rattle.atomic_table.specs.Table.{Me, Splits, opening}
use Rattle.atomic_table.proofs.Lists.{at_snoc}
use Rattle.tester_types.specs.Records.{SiteRecords}
use Rattle.plan_rows.specs.declared.row.Row.{Row}
use Rattle.floor_core.specs.Book.{empty_site, at_site, places_of, places_in, planned, new_book}
use Rattle.lot_book.specs.Rule.{opener_view, share_view, as_opener, first_view, of_share, over_shares, one, if_at, if_holds, IsOfBook, IsKept}
use Rattle.lot_book.specs.Steps.{opener_after_making, share_made}
use Rattle.lot_book.specs.Shares.{made_opener, IsOpener}
use Rattle.lot_book.specs.declared.view.View.{View}
use Rattle.lot_book.specs.declared.view.View.TheVariants.{Opener, Share}
use Rattle.lot_book.specs.declared.view.OpenerView.{OpenerView}
use Rattle.lot_book.specs.declared.view.ShareView.{ShareView}
use Rattle.lot_book.proofs.RuleLemmas.{state, share-injective, opener_place}

-- a book without records has the places that it was made with
places_in-empty : (places : List ℕ) → places_in (map empty_site places) ≡ places
places_in-empty [] = refl
places_in-empty (p ∷ ps) =
    let first : places_of (empty_site p) ≡ p = omega arith in
    ap (λ x. x ∷ places_in (map empty_site ps)) first ∙ ap (λ l. p ∷ l) (places_in-empty ps)

-- it has no records at any site
at_site-empty : (places : List ℕ) (site : ℕ) → (at_site (map empty_site places) site).records ≡ []
at_site-empty [] site = refl
at_site-empty (p ∷ ps) zero = refl
at_site-empty (p ∷ ps) (suc site) = at_site-empty ps site

-- a new table
pub begins : (rows : List Row) → IsKept (opening (0 ∷ []) (new_book rows ∷ []) (first_view (planned rows)))
begins rows = record {
  opener = opener_view 0 (planned rows) [];
  shares = [];
  book = new_book rows;
  views = refl;
  no_opener = λ k o e. absurd (some-ne-none (Opener o) (sym e));
  once = λ site. sym (below_no site 0 (omega arith));
  all = refl;
  turn = refl;
  most = omega arith;
  none_ended = λ k v h. absurd (omega arith);
  home = λ e. refl;
  out = λ e. absurd (omega (arith, e));
  places = places_in-empty (planned rows);
  each = λ k v e. absurd (some-ne-none (Share v) (sym e));
  each_ended = λ k v h. absurd (omega arith);
  beyond = λ site past. at_site-empty (planned rows) site;
}

-- the new share of an opener
abbrev made_by : OpenerView → ShareView
made_by o = share_view o.made o.places [] None

-- the opener that has made one share more
abbrev one_more : OpenerView → OpenerView
one_more o = opener_view (o.made + 1) o.places o.ended

-- a sum over the shares and a new one
over_shares_more : (f : ShareView → ℕ) (opener : OpenerView) (shares : List View)
    → over_shares f (one_more opener) (shares ++ Share (made_by opener) ∷ []) ≡ over_shares f opener shares + f (made_by opener)
over_shares_more f opener shares = omega (arith, sum_by_push (of_share f) shares (Share (made_by opener)))

-- a share is made
pub make_keeps : (id : ℕ) (v : View) → v ≡ Opener (as_opener v) → Splits IsKept id v (opener_after_making v) (share_made v)
make_keeps id v is s kept there =
    let opener = kept.opener in
    let place = opener_place s kept id (as_opener v) (there ∙ ap (λ (w : View). some w) is) in
    let new = Share (made_by opener) in
    let shares = kept.shares ++ new ∷ [] in
    let sum : (f : ShareView → ℕ) → over_shares f (one_more opener) shares ≡ over_shares f opener kept.shares + f (made_by opener) =
    λ f. over_shares_more f opener kept.shares in
    let holders : over_shares if_holds (one_more opener) shares ≡ over_shares if_holds opener kept.shares = omega (arith, sum if_holds) in
    subst (λ (o : OpenerView). IsKept (state s.words s.homes (set s.views id (Opener (one_more o)) ++ Share (made_by o) ∷ []))) place.1 record {
      opener = one_more opener;
      shares = shares;
      book = kept.book;
      views = ap (λ (i : ℕ). set s.views i (Opener (one_more opener)) ++ new ∷ []) place.0
          ∙ ap (λ (vs : List View). set vs 0 (Opener (one_more opener)) ++ new ∷ []) kept.views;
      no_opener = λ k o e.
          ⊎_elim (λ t. kept.no_opener k o t) (λ (t : new ≡ Opener o). cc) (at_snoc kept.shares new (Opener o) k e);
      once = λ site. omega (arith, sum (if_at site), kept.once site, below_one_more site opener.made);
      all = omega (arith, sum one, kept.all);
      turn = kept.turn ∙ ap (λ (n : ℕ). n ∷ []) (sym holders);
      most = omega (arith, holders, kept.most);
      none_ended = kept.none_ended;
      home = λ e. kept.home (sym holders ∙ e);
      out = λ e. kept.out (sym holders ∙ e);
      places = kept.places;
      each = λ k u e.
          ⊎_elim (λ t. kept.each k u t)
          (λ (t : new ≡ Share u).
          subst (IsOfBook kept.book) (share-injective (made_by opener) u t)
          (record { places = sym kept.places; records = sym (kept.beyond opener.made (omega arith)); held = inl refl }))
          (at_snoc kept.shares new (Share u) k e);
      each_ended = kept.each_ended;
      beyond = λ site past. kept.beyond site (omega (arith, past));
    }

-- an opener that has made a share for each site
pub opener_is : (me : Me (List SiteRecords) View) (places : List ℕ) (sites : ℕ) → me ≡ (made_opener places sites, [])
    → length places ≡ sites → IsOpener me
opener_is me places sites is all =
    let view : (as_opener me.0).places ≡ places = ap (λ (m : Me (List SiteRecords) View). (as_opener m.0).places) is in
    is ∙ ap (λ n. (made_opener places n, [])) (sym all) ∙ ap (λ (l : List ℕ). (made_opener l (length l), [])) (sym view)

-- a table of a book of this plan keeps the rule at the start
pub begins_with : (rows : List Row) (slots books : List (List SiteRecords)) (book : List SiteRecords) → slots ≡ books ++ book ∷ []
    → books ≡ [] → book ≡ new_book rows → IsKept (opening (0 ∷ []) slots (first_view (planned rows)))
begins_with rows slots books book pushed empty new =
    let same : slots ≡ new_book rows ∷ [] = pushed ∙ ap (λ l. l ++ book ∷ []) empty ∙ ap (λ b. b ∷ []) new in
    subst (λ (l : List (List SiteRecords)). IsKept (opening (0 ∷ []) l (first_view (planned rows)))) (sym same) (begins rows)
