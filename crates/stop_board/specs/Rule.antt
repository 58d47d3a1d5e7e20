-- The rule of a stop board, which holds between any two steps of any threads. It is this project's own.
-- A board has 17 words: word s below 16 counts the stops that were asked for at site s, and word 16 the seats that have
-- finished. The desk's view stands first, and the views of the sites' seats follow in the order of their making.
use Rattle.std.specs.Prelude.{◌≡◌, ℕ, ◌+◌, ◌≤◌, Bool, false, cond, ◌==◌, nat_lt, List, [], ◌∷◌, ◌++◌, length, replicate, slice_index, sum_by, All}
use Rattle.text_bytes.specs.Limits.{most_sites}
use mathlib.Core.Option.{some}
use lib.ListN.{get_elem?}
use Rattle.atomic_table.specs.Table.{State}
use Rattle.stop_board.specs.declared.view.View.{View}
use Rattle.stop_board.specs.declared.view.View.TheVariants.{Desk, Site, Spent}
use Rattle.stop_board.specs.declared.view.DeskView.{DeskView}
use Rattle.stop_board.specs.declared.view.SiteView.{SiteView}

-- the view of a desk's seat
abbrev pub desk_view : ℕ → List ℕ → ℕ → List SiteView → DeskView
desk_view made asked looked ended = record { made = made; asked = asked; looked = looked; ended = ended }

-- the view of a site's seat
abbrev pub site_view : ℕ → ℕ → ℕ → Bool → SiteView
site_view site seen polls finished = record { site = site; seen = seen; polls = polls; finished = finished }

-- what a desk's seat knows; of another seat, nothing
abbrev pub as_desk : View → DeskView
as_desk (Desk d) = d
as_desk (Site v) = desk_view 0 [] 0 []
as_desk Spent = desk_view 0 [] 0 []

-- what a site's seat knows; of another seat, nothing
abbrev pub as_site : View → SiteView
as_site (Site v) = v
as_site (Desk d) = site_view 0 0 0 false
as_site Spent = site_view 0 0 0 false

-- no stop was asked for, and no site has a seat
abbrev pub first_view : View
first_view = Desk (desk_view 0 (replicate most_sites 0) 0 [])

-- f of what the seat of a site knows; 0 where the seat has come back
abbrev pub of_site : (SiteView → ℕ) → View → ℕ
of_site f (Site v) = f v
of_site f (Desk d) = 0
of_site f Spent = 0

-- f of what each site's seat knows, of those that came back and of those that are out, added up
abbrev pub over_seats : (SiteView → ℕ) → DeskView → List View → ℕ
over_seats f desk seats = sum_by f desk.ended + sum_by (of_site f) seats

-- 1 for each seat
abbrev pub one : SiteView → ℕ
one v = 1

-- 1 where the seat has finished
abbrev pub if_finished : SiteView → ℕ
if_finished v = cond v.finished 1 0

-- 1 where the seat is that of the site
abbrev pub if_at : ℕ → SiteView → ℕ
if_at site v = cond (v.site == site) 1 0

-- the seat saw no more stops than were asked for at its site
abbrev pub IsWithin : List ℕ → SiteView → Type 0
IsWithin asked v = v.seen ≤ slice_index asked v.site

-- what holds of a board's words and views between any two steps
pub record IsKept {S : Type 0} (s : State S View) : Type 0 where
  pub desk : DeskView
  pub seats : List View
  -- one seat is the desk's, and the others are sites' or spent
  pub views : s.views ≡ Desk desk ∷ seats
  pub no_desk : (k : ℕ) (d : DeskView) → get_elem? seats k ≡ some (Desk d) → ⊥
  -- word s is the number of stops that the desk asked for at site s, and word 16 that of the seats that have finished
  pub words : s.words ≡ desk.asked ++ over_seats if_finished desk seats ∷ []
  pub each_site : length desk.asked ≡ most_sites
  -- the desk saw no more finished seats than there are
  pub looked : desk.looked ≤ over_seats if_finished desk seats
  -- no seat, out or back, saw more stops than were asked for
  pub seen : (k : ℕ) (v : SiteView) → get_elem? seats k ≡ some (Site v) → IsWithin desk.asked v
  pub seen_ended : All (IsWithin desk.asked) desk.ended
  -- each site below the number made has one seat, and no other site has any
  pub once : (site : ℕ) → over_seats (if_at site) desk seats ≡ cond (nat_lt site desk.made) 1 0
  pub all : over_seats one desk seats ≡ desk.made
  pub few : desk.made ≤ most_sites
