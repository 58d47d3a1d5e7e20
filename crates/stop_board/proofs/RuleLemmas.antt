-- The rule is kept where one seat's view changes.
use Rattle.std.proofs.Common.{◌≡◌, ℕ, zero, suc, ◌+◌, ◌≤◌, List, [], ◌∷◌, ◌++◌, cond, ◌==◌, length, get_or, set, slice_index, sym, refl, ap, ◌∙◌, subst, ⊎_elim, arith}
use Rattle.text_bytes.specs.Limits.{most_sites}
use Rattle.text_bytes.proofs.SumLemmas.{sum_by-set_there}
use mathlib.Core.Option.{Option, some, some-injective}
use lib.ListN.{get_elem?}
use Rattle.atomic_table.specs.Table.{State}
use Rattle.atomic_table.proofs.Lists.{at_set}
use Rattle.stop_board.specs.Rule.{desk_view, of_site, over_seats, one, if_finished, if_at, IsWithin, IsKept}
use Rattle.stop_board.specs.declared.view.View.{View}
use Rattle.stop_board.specs.declared.view.View.TheVariants.{Desk, Site}
use Rattle.stop_board.specs.declared.view.DeskView.{DeskView}
use Rattle.stop_board.specs.declared.view.SiteView.{SiteView}

-- a table's state, of its parts
abbrev pub state : {S : Type 0} → List ℕ → List (Option S) → List View → State S View
state words homes views = record { words = words; homes = homes; views = views }

-- a site's view stands behind the desk's
pub behind_desk : (desk : DeskView) (seats : List View) (id : ℕ) (v : SiteView) → get_elem? (Desk desk ∷ seats) id ≡ some (Site v)
    → (k : ℕ) × (id ≡ suc k) × (get_elem? seats k ≡ some (Site v))
behind_desk desk seats zero v e = let same : Desk desk ≡ Site v = some-injective (Desk desk) (Site v) e in cc
behind_desk desk seats (suc k) v e = (k, refl, e)

-- the desk's view stands first
pub desk_first : (desk : DeskView) (seats : List View) → ((k : ℕ) (d : DeskView) → get_elem? seats k ≡ some (Desk d) → ⊥)
    → (id : ℕ) (d : DeskView) → get_elem? (Desk desk ∷ seats) id ≡ some (Desk d) → (id ≡ 0) × (desk ≡ d)
desk_first desk seats none zero d e = let same : Desk desk ≡ Desk d = some-injective (Desk desk) (Desk d) e in (refl, cc)
desk_first desk seats none (suc k) d e = absurd (none k d e)

-- two sites' views that are one view are one
pub site-injective : (v w : SiteView) → Site v ≡ Site w → v ≡ w
site-injective v w e = cc

-- a seat that becomes no desk's leaves no desk's among the seats
pub still_no_desk : (seats : List View) (k : ℕ) (w : View) → ((d : DeskView) → w ≡ Desk d → ⊥)
    → ((k : ℕ) (d : DeskView) → get_elem? seats k ≡ some (Desk d) → ⊥)
    → (j : ℕ) (d : DeskView) → get_elem? (set seats k w) j ≡ some (Desk d) → ⊥
still_no_desk seats k w not none j d e =
    ⊎_elim (λ t. not d t.1) (λ t. none j d t.1) (at_set seats k j w (Desk d) e)

module _ {S : Type 0} (s : State S View) (kept : IsKept s) where
  -- how many seats have finished
  abbrev pub finished : ℕ
  finished = over_seats if_finished kept.desk kept.seats

  -- where the view of a site stands
  pub site_place : (id : ℕ) (v : SiteView) → get_elem? s.views id ≡ some (Site v)
      → (k : ℕ) × (id ≡ suc k) × (get_elem? kept.seats k ≡ some (Site v))
  site_place id v there = behind_desk kept.desk kept.seats id v (ap (λ vs. get_elem? vs id) (sym kept.views) ∙ there)

  -- where the view of the desk stands, and that it is the desk's
  pub desk_place : (id : ℕ) (d : DeskView) → get_elem? s.views id ≡ some (Desk d) → (id ≡ 0) × (kept.desk ≡ d)
  desk_place id d there =
      desk_first kept.desk kept.seats kept.no_desk id d (ap (λ vs. get_elem? vs id) (sym kept.views) ∙ there)

  -- where the seat of a site learns more of the same site, the rule is kept with the words that this makes
  pub site_moves : (id : ℕ) (v w : SiteView) (words : List ℕ) (count : ℕ) → get_elem? s.views id ≡ some (Site v)
      → v.site ≡ w.site → IsWithin kept.desk.asked w → if_finished v ≤ if_finished w
      → count + if_finished v ≡ finished + if_finished w
      → words ≡ kept.desk.asked ++ count ∷ [] → IsKept (state words s.homes (set s.views id (Site w)))
  site_moves id v w words count there same within more counted wide =
      let here = site_place id v there in
      let k = here.0 in
      let after = set kept.seats k (Site w) in
      let sum : (f : SiteView → ℕ) → over_seats f kept.desk after + f v ≡ over_seats f kept.desk kept.seats + f w =
      λ f. omega (arith, sum_by-set_there (of_site f) kept.seats k (Site v) (Site w) here.2) in
      let total : count ≡ over_seats if_finished kept.desk after = omega (arith, sum if_finished) in
      record {
        desk = kept.desk;
        seats = after;
        views = ap (λ i. set s.views i (Site w)) here.1 ∙ ap (λ vs. set vs (suc k) (Site w)) kept.views;
        no_desk = still_no_desk kept.seats k (Site w) (λ d e. cc) kept.no_desk;
        words = wide ∙ ap (λ n. kept.desk.asked ++ n ∷ []) total;
        each_site = kept.each_site;
        looked = omega (arith, sum if_finished, kept.looked);
        seen = λ j u e.
            ⊎_elim (λ t. subst (IsWithin kept.desk.asked) (site-injective w u t.1) within) (λ t. kept.seen j u t.1)
            (at_set kept.seats k j (Site w) (Site u) e);
        seen_ended = kept.seen_ended;
        once = λ site.
            let as_before : if_at site v ≡ if_at site w = ap (λ x. cond (x == site) 1 0) same in
            omega (arith, sum (if_at site), kept.once site);
        all = omega (arith, sum one, kept.all);
        few = kept.few;
      }

  -- where the desk asks or looks, the rule is kept with the words that this makes
  pub desk_moves : (id : ℕ) (d : DeskView) (asked : List ℕ) (looked : ℕ) (words : List ℕ) → get_elem? s.views id ≡ some (Desk d)
      → length asked ≡ most_sites → looked ≤ finished → ((site : ℕ) → slice_index d.asked site ≤ slice_index asked site)
      → words ≡ asked ++ finished ∷ []
      → IsKept (state words s.homes (set s.views id (Desk (desk_view d.made asked looked d.ended))))
  desk_moves id d asked looked words there each_site least grows wide =
      let here = desk_place id d there in
      let after : DeskView → View = λ x. Desk (desk_view x.made asked looked x.ended) in
      let more : (site : ℕ) → slice_index kept.desk.asked site ≤ slice_index asked site =
      λ site. omega (arith, grows site, ap (λ (x : DeskView). slice_index x.asked site) here.1) in
      subst (λ (x : DeskView). IsKept (state words s.homes (set s.views id (after x)))) here.1 record {
        desk = desk_view kept.desk.made asked looked kept.desk.ended;
        seats = kept.seats;
        views = ap (λ i. set s.views i (after kept.desk)) here.0 ∙ ap (λ vs. set vs 0 (after kept.desk)) kept.views;
        no_desk = kept.no_desk;
        words = wide;
        each_site = each_site;
        looked = least;
        seen = λ k v e. omega (arith, kept.seen k v e, more v.site);
        seen_ended = λ k v h. omega (arith, kept.seen_ended k v h, more (get_or kept.desk.ended k v).site);
        once = kept.once;
        all = kept.all;
        few = kept.few;
      }
