-- Sums over the seats of a board, where one view changes, and where one is added.
use Rattle.std.proofs.Common.{ℕ, ◌≤◌, List, true, false, cond, arith}
use Rattle.std.proofs.lemmas.List.Sums.{sum_by-le-sum_by}
use Rattle.stop_board.specs.Rule.{of_site, over_seats, one, if_finished}
use Rattle.stop_board.specs.declared.view.View.{View}
use Rattle.stop_board.specs.declared.view.View.TheVariants.{Desk, Site, Spent}
use Rattle.stop_board.specs.declared.view.DeskView.{DeskView}
use Rattle.stop_board.specs.declared.view.SiteView.{SiteView}

-- one that has finished counts as one
if_finished-le-one : (v : SiteView) → if_finished v ≤ one v
if_finished-le-one v = elim v.finished as (λ b. cond b 1 0 ≤ 1) [ true ↦ omega arith | false ↦ omega arith ]

of_site-le : (f g : SiteView → ℕ) → ((v : SiteView) → f v ≤ g v) → (w : View) → of_site f w ≤ of_site g w
of_site-le f g h (Site v) = h v
of_site-le f g h (Desk d) = omega arith
of_site-le f g h Spent = omega arith

-- no more seats have finished than there are
pub finished-le-all : (desk : DeskView) (seats : List View) → over_seats if_finished desk seats ≤ over_seats one desk seats
finished-le-all desk seats =
    omega (
      arith,
      sum_by-le-sum_by if_finished one desk.ended if_finished-le-one,
      sum_by-le-sum_by (of_site if_finished) (of_site one) seats (of_site-le if_finished one if_finished-le-one),
    )
