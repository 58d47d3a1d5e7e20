-- A site's seat that comes back keeps the rule, and what stands at the end of a board.
use Rattle.std.proofs.Common.{◌≡◌, ℕ, ◌+◌, ◌≤◌, List, [], ◌∷◌, ◌++◌, All, map, length, get_or, set, take, slice_index, sym, ap, ◌∙◌, subst, ⊎_elim, arith, length-append, append_assoc}
use mathlib.Core.Option.{some}
use lib.ListN.{get_elem?}
use Rattle.std.proofs.lemmas.List.{get_or-append-add, get_or-map, length-map, map-append, take_at}
use Rattle.std.proofs.lemmas.List.Sums.{sum_by_push}
use Rattle.std.proofs.lemmas.List.Elements.{All-push}
use Rattle.text_bytes.specs.Limits.{most_sites}
use Rattle.text_bytes.proofs.SumLemmas.{sum_by-set_there}
use Rattle.atomic_table.specs.Table.{State, Me, Joins, Final, Seen}
use Rattle.atomic_table.proofs.Lists.{at_set}
use Rattle.stop_board.specs.Rule.{desk_view, as_desk, as_site, of_site, over_seats, one, if_finished, if_at, IsWithin, IsKept}
use Rattle.stop_board.specs.Steps.{desk_after_ending, spent}
use Rattle.stop_board.specs.Seats.{SiteFacts, view_of, after_return, IsDeskSeat}
use Rattle.stop_board.specs.declared.view.View.{View}
use Rattle.stop_board.specs.declared.view.View.TheVariants.{Desk, Site, Spent}
use Rattle.stop_board.specs.declared.view.DeskView.{DeskView}
use Rattle.stop_board.specs.declared.view.SiteView.{SiteView}
use Rattle.stop_board.proofs.RuleLemmas.{state, finished, behind_desk, still_no_desk, desk_place}
use Rattle.stop_board.proofs.StepLemmas.{desk_there}

-- the desk with one more view that came back
abbrev with_view : SiteView → DeskView → DeskView
with_view v d = desk_view d.made d.asked d.looked (d.ended ++ v ∷ [])

-- a sum over the seats, one of which comes back
over_seats_back : (f : SiteView → ℕ) (desk : DeskView) (seats : List View) (k : ℕ) (v : SiteView) → get_elem? seats k ≡ some (Site v)
    → over_seats f (with_view v desk) (set seats k Spent) ≡ over_seats f desk seats
over_seats_back f desk seats k v there =
    omega (arith, sum_by_push f desk.ended v, sum_by-set_there (of_site f) seats k (Site v) Spent there)

-- a site's seat comes back to the desk's
pub joins : {S : Type 0} (id other : ℕ) (v w : View) → v ≡ Desk (as_desk v) → w ≡ Site (as_site w)
    → Joins {S = S} IsKept id v other w (desk_after_ending v w) spent
joins id other v w is is_site s kept there apart other_there =
    let u = as_site w in
    let place = desk_place s kept id (as_desk v) (there ∙ ap (λ (x : View). some x) is) in
    let both : DeskView → View = λ x. Desk (with_view u x) in
    let desk = with_view u kept.desk in
    let views_then : set s.views id (both kept.desk) ≡ Desk desk ∷ kept.seats =
    ap (λ i. set s.views i (both kept.desk)) place.0 ∙ ap (λ vs. set vs 0 (both kept.desk)) kept.views in
    let at_other : get_elem? (Desk desk ∷ kept.seats) other ≡ some (Site u) =
    ap (λ vs. get_elem? vs other) (sym views_then) ∙ ap (λ x. get_elem? (set s.views id (both x)) other) place.1
    ∙ other_there ∙ ap (λ (x : View). some x) is_site in
    let here = behind_desk desk kept.seats other u at_other in
    let k = here.0 in
    let sum : (f : SiteView → ℕ) → _ = λ f. over_seats_back f kept.desk kept.seats k u here.2 in
    subst (λ (x : DeskView). IsKept (state s.words s.homes (set (set s.views id (both x)) other Spent))) place.1 record {
      desk = desk;
      seats = set kept.seats k Spent;
      views = ap (λ vs. set vs other Spent) views_then ∙ ap (λ i. set (Desk desk ∷ kept.seats) i Spent) here.1;
      no_desk = still_no_desk kept.seats k Spent (λ d e. cc) kept.no_desk;
      words = kept.words ∙ ap (λ n. kept.desk.asked ++ n ∷ []) (sym (sum if_finished));
      each_site = kept.each_site;
      looked = omega (arith, sum if_finished, kept.looked);
      seen = λ j x e.
          ⊎_elim (λ t. let never : Spent ≡ Site x = t.1 in cc) (λ t. kept.seen j x t.1) (at_set kept.seats k j Spent (Site x) e);
      seen_ended = All-push (IsWithin kept.desk.asked) kept.desk.ended u kept.seen_ended (kept.seen k u here.2);
      once = λ site. omega (arith, sum (if_at site), kept.once site);
      all = omega (arith, sum one, kept.all);
      few = kept.few;
    }

-- at the end the words 0 to 15 are the desk's numbers, and no seat that came back saw more
pub closes : {S : Type 0} (id : ℕ) (me : Me S View) (words : List ℕ) (slots : List S) → IsDeskSeat me
    → Final (Seen IsKept id me.0) words slots
    → (take most_sites words ≡ (as_desk me.0).asked) × All (IsWithin (as_desk me.0).asked) (as_desk me.0).ended
closes {S = S} id me words slots is final =
    let s : State S View = final.0 in
    let kept : IsKept s = final.1.0 in
    let same = (desk_place s kept id (as_desk me.0) (desk_there s id me is final.1.1)).1 in (
      ap (λ ws. take most_sites ws) (sym final.2 ∙ kept.words) ∙ take_at kept.desk.asked (finished s kept ∷ []) most_sites kept.each_site
          ∙ ap (λ (x : DeskView). x.asked) same,
      subst (λ (x : DeskView). All (IsWithin x.asked) x.ended) same kept.seen_ended,
    )

-- what holds of all views that came back holds of the seats that came last
pub within_last : (asked : List ℕ) (before : List SiteView) (seats : List SiteFacts)
    → All (IsWithin asked) (before ++ map view_of seats) → All (λ (seat : SiteFacts). seat.seen ≤ slice_index asked seat.site) seats
within_last asked before seats all k d here =
    let views = map view_of seats in
    let place : get_or (before ++ views) (length before + k) (view_of d) ≡ view_of (get_or seats k d) =
    get_or-append-add before views k (view_of d) ∙ get_or-map view_of seats k d (view_of d) here in
    subst (IsWithin asked) place
    (all (length before + k) (view_of d) (omega (arith, length-append before views, length-map seats view_of)))

-- one more seat that comes back
pub one_more_back : (d first : DeskView) (seats : List SiteFacts) (seat : SiteFacts) (v : SiteView) → d ≡ after_return first seats
    → v ≡ view_of seat → with_view v d ≡ after_return first (seats ++ seat ∷ [])
one_more_back d first seats seat v e same =
    let views = map view_of seats in
    let last : views ++ v ∷ [] ≡ map view_of (seats ++ seat ∷ []) =
    ap (λ u. views ++ u ∷ []) same ∙ sym (map-append view_of seats (seat ∷ [])) in
    ap (with_view v) e
    ∙ ap (λ l. desk_view first.made first.asked first.looked l)
    (append_assoc first.ended views (v ∷ []) ∙ ap (λ l. first.ended ++ l) last)
