-- A new board keeps the rule, and so does the making of a site's seat.
use Rattle.std.proofs.Common.{◌≡◌, ℕ, ◌+◌, ◌<◌, List, [], ◌∷◌, ◌++◌, false, replicate, set, sym, refl, ap, ◌∙◌, subst, ⊎_elim, arith}
use mathlib.Core.Option.{some, some-ne-none}
use Rattle.std.proofs.lemmas.List.Sums.{sum_by_push}
use Rattle.text_bytes.specs.Limits.{most_sites}
use Rattle.text_bytes.proofs.BoolLemmas.{below_no, below_one_more}
use Rattle.atomic_table.specs.Table.{Splits}
use Rattle.atomic_table.proofs.Lists.{at_snoc}
use Rattle.stop_board.specs.Rule.{desk_view, site_view, as_desk, as_site, first_view, of_site, over_seats, one, if_finished, if_at, IsKept}
use Rattle.stop_board.specs.Steps.{desk_after_making, site_made}
use Rattle.stop_board.specs.declared.view.View.{View}
use Rattle.stop_board.specs.declared.view.View.TheVariants.{Desk, Site}
use Rattle.stop_board.specs.declared.view.DeskView.{DeskView}
use Rattle.stop_board.specs.declared.view.SiteView.{SiteView}
use Rattle.stop_board.proofs.RuleLemmas.{state, desk_place}

-- a board at the start
pub begins : {S : Type 0} → IsKept {S = S} (state (replicate (most_sites + 1) 0) [] (first_view ∷ []))
begins = record {
  desk = desk_view 0 (replicate most_sites 0) 0 [];
  seats = [];
  views = refl;
  no_desk = λ k d e. absurd (some-ne-none (Desk d) (sym e));
  words = refl;
  each_site = refl;
  looked = omega arith;
  seen = λ k v e. absurd (some-ne-none (Site v) (sym e));
  seen_ended = λ k v h. absurd (omega arith);
  once = λ site. sym (below_no site 0 (omega arith));
  all = refl;
  few = omega arith;
}

-- the new seat of a site
abbrev made_by : DeskView → View
made_by d = Site (site_view d.made 0 0 false)

-- the desk that has made one more
abbrev one_more : DeskView → DeskView
one_more d = desk_view (d.made + 1) d.asked d.looked d.ended

-- a sum over the seats and a new one
over_seats_more : (f : SiteView → ℕ) (desk : DeskView) (seats : List View)
    → over_seats f (one_more desk) (seats ++ made_by desk ∷ []) ≡ over_seats f desk seats + f (site_view desk.made 0 0 false)
over_seats_more f desk seats = omega (arith, sum_by_push (of_site f) seats (made_by desk))

-- a site's seat is made
pub splits : {S : Type 0} (id : ℕ) (v : View) → v ≡ Desk (as_desk v) → (as_desk v).made < most_sites
    → Splits {S = S} IsKept id v (desk_after_making v) (site_made v)
splits id v is room s kept there =
    let desk = kept.desk in
    let place = desk_place s kept id (as_desk v) (there ∙ ap (λ (w : View). some w) is) in
    let made_same : desk.made ≡ (as_desk v).made = ap (λ (x : DeskView). x.made) place.1 in
    let after : DeskView → List View → List View = λ x vs. set vs 0 (Desk (one_more x)) ++ made_by x ∷ [] in
    let sum : (f : SiteView → ℕ) → _ = λ f. over_seats_more f desk kept.seats in
    subst (λ (x : DeskView). IsKept (state s.words s.homes (set s.views id (Desk (one_more x)) ++ made_by x ∷ []))) place.1 record {
      desk = one_more desk;
      seats = kept.seats ++ made_by desk ∷ [];
      views = ap (λ i. set s.views i (Desk (one_more desk)) ++ made_by desk ∷ []) place.0 ∙ ap (after desk) kept.views;
      no_desk = λ k e there.
          ⊎_elim (λ t. kept.no_desk k e t) (λ (t : made_by desk ≡ Desk e). cc) (at_snoc kept.seats (made_by desk) (Desk e) k there);
      words = kept.words ∙ ap (λ n. desk.asked ++ n ∷ []) (omega (arith, sum if_finished));
      each_site = kept.each_site;
      looked = omega (arith, sum if_finished, kept.looked);
      seen = λ k u there.
          ⊎_elim (λ t. kept.seen k u t)
          (λ (t : made_by desk ≡ Site u). let none : u.seen ≡ 0 = ap (λ w. (as_site w).seen) (sym t) in omega arith)
          (at_snoc kept.seats (made_by desk) (Site u) k there);
      seen_ended = kept.seen_ended;
      once = λ site. omega (arith, sum (if_at site), kept.once site, below_one_more site desk.made);
      all = omega (arith, sum one, kept.all);
      few = omega arith;
    }
