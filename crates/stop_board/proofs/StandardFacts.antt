-- Known states of a board of two sites, which the rule must allow or refuse.
use Rattle.std.proofs.Common.{◌≡◌, ℕ, suc, zero, List, [], ◌∷◌, ◌++◌, true, false, cond, nat_lt, replicate, slice_index, refl, sym, ap, ◌∙◌, subst, arith}
use Rattle.text_bytes.proofs.BoolLemmas.{below_no, below_one_more}
use mathlib.Core.Option.{some, some-injective, some-ne-none}
use lib.ListN.{get_elem?}
use Rattle.atomic_table.specs.Table.{State}
use Rattle.text_bytes.specs.Limits.{most_sites}
use Rattle.stop_board.specs.Rule.{desk_view, site_view, over_seats, if_at, if_finished, IsWithin, IsKept}
use Rattle.stop_board.specs.Steps.{asked_once_more}
use Rattle.stop_board.specs.declared.view.View.{View}
use Rattle.stop_board.specs.declared.view.View.TheVariants.{Desk, Site}
use Rattle.stop_board.specs.declared.view.DeskView.{DeskView}
use Rattle.stop_board.specs.declared.view.SiteView.{SiteView}
use Rattle.stop_board.proofs.RuleLemmas.{state, site-injective}
use Rattle.stop_board.proofs.WordLemmas.{last_word}

-- one stop was asked for at site 1
abbrev asked : List ℕ
asked = 0 ∷ 1 ∷ replicate 14 0

-- the desk of two sites, which asked for one stop at site 1
abbrev desk : DeskView
desk = desk_view 2 asked 0 []

-- a board whose seats have these views, and where that many have finished
abbrev board : SiteView → SiteView → ℕ → State (Unit {0}) View
board first second count = state (asked ++ count ∷ []) [] (Desk desk ∷ Site first ∷ Site second ∷ [])

-- an ask at site 1 adds 1 to its number alone
an_ask : asked_once_more (replicate most_sites 0) 1 ≡ asked
an_ask = refl

-- among two sites' views none is a desk's
no_desk_of_two : (a b : SiteView) (k : ℕ) (d : DeskView) → get_elem? (Site a ∷ Site b ∷ []) k ≡ some (Desk d) → ⊥
no_desk_of_two a b zero d e = let same : Site a ≡ Desk d = some-injective (Site a) (Desk d) e in cc
no_desk_of_two a b (suc zero) d e = let same : Site b ≡ Desk d = some-injective (Site b) (Desk d) e in cc
no_desk_of_two a b (suc (suc k)) d e = some-ne-none (Desk d) (sym e)

-- what holds of both holds of each of two
each_of_two : (P : SiteView → Type 0) (a b : SiteView) → P a → P b
    → (k : ℕ) (v : SiteView) → get_elem? (Site a ∷ Site b ∷ []) k ≡ some (Site v) → P v
each_of_two P a b p q zero v e = subst P (site-injective a v (some-injective (Site a) (Site v) e)) p
each_of_two P a b p q (suc zero) v e = subst P (site-injective b v (some-injective (Site b) (Site v) e)) q
each_of_two P a b p q (suc (suc k)) v e = absurd (some-ne-none (Site v) (sym e))

-- a seat of site 0 that has finished, and one of site 1 that has seen its stop
abbrev has_finished : SiteView
has_finished = site_view 0 0 3 true

abbrev has_seen : SiteView
has_seen = site_view 1 1 2 false

-- there is such a board
allowed : IsKept (board has_finished has_seen 1)
allowed = record {
  desk = desk;
  seats = Site has_finished ∷ Site has_seen ∷ [];
  views = refl;
  no_desk = no_desk_of_two has_finished has_seen;
  words = refl;
  each_site = refl;
  looked = omega arith;
  seen = each_of_two (IsWithin asked) has_finished has_seen (omega arith) (omega arith);
  seen_ended = λ k v h. absurd (omega arith);
  once = λ site. omega (arith, below_no site 0 (omega arith), below_one_more site 0, below_one_more site 1);
  all = refl;
  few = omega arith;
}

module _ (first second : SiteView) (count : ℕ) (kept : IsKept (board first second count)) where
  -- the rule's desk is the board's
  its_desk : desk ≡ kept.desk
  its_desk = let e = kept.views in cc

  -- the rule's seats are the board's
  its_seats : Site first ∷ Site second ∷ [] ≡ kept.seats
  its_seats = let e = kept.views in cc

  -- the rule's sums are those of the board's seats
  its_sum : (f : SiteView → ℕ) → over_seats f desk (Site first ∷ Site second ∷ []) ≡ over_seats f kept.desk kept.seats
  its_sum f = ap (over_seats f desk) its_seats ∙ ap (λ d. over_seats f d kept.seats) its_desk

-- no seat has seen a stop that wasn't asked for
never_asked : IsKept (board (site_view 0 1 3 true) has_seen 1) → ⊥
never_asked kept =
    let first = site_view 0 1 3 true in
    let there : get_elem? kept.seats 0 ≡ some (Site first) = ap (λ vs. get_elem? vs 0) (sym (its_seats first has_seen 1 kept)) in
    omega (arith, kept.seen 0 first there, ap (λ (d : DeskView). slice_index d.asked 0) (its_desk first has_seen 1 kept))

-- no two seats are of one site
two_of_one_site : IsKept (board (site_view 1 0 3 true) has_seen 1) → ⊥
two_of_one_site kept =
    let first = site_view 1 0 3 true in
    let most : over_seats (if_at 1) kept.desk kept.seats ≡ 1 =
    kept.once 1 ∙ ap (λ (d : DeskView). cond (nat_lt 1 d.made) 1 0) (sym (its_desk first has_seen 1 kept)) in
    omega (arith, its_sum first has_seen 1 kept (if_at 1))

-- each seat that has finished is counted
not_counted : IsKept (board has_finished has_seen 0) → ⊥
not_counted kept =
    omega (arith, last_word (board has_finished has_seen 0) kept, its_sum has_finished has_seen 0 kept if_finished)
