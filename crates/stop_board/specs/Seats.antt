-- Boards and their seats as clauses see them: plain data, and which board it is as an identity.
use Rattle.std.specs.Prelude.{◌≡◌, ℕ, ◌<◌, ◌≤◌, Bool, false, [], List, ◌++◌, replicate, map}
use Rattle.std.specs.List.{range_with_len}
use Rattle.text_bytes.specs.Limits.{most_sites}
use Rattle.atomic_table.specs.Seated.{TableId}
use Rattle.atomic_table.specs.Table.{Me}
use Rattle.stop_board.specs.Rule.{desk_view, site_view, as_desk, as_site}
use Rattle.stop_board.specs.declared.view.View.{View}
use Rattle.stop_board.specs.declared.view.View.TheVariants.{Desk, Site}
use Rattle.stop_board.specs.declared.view.DeskView.{DeskView}
use Rattle.stop_board.specs.declared.view.SiteView.{SiteView}

-- the seat of a site: its board, its site, the greatest number of stops that it saw, its polls, whether it has finished
pub record SiteFacts : Type 0 where
  pub board : TableId
  pub site : ℕ
  pub seen : ℕ
  pub polls : ℕ
  pub finished : Bool

-- the seat of the desk: its board, the number of sites, how many stops it asked for at each site, and the greatest
-- number of finished seats that it saw
pub record DeskFacts : Type 0 where
  pub board : TableId
  pub sites : ℕ
  pub asked : List ℕ
  pub looked : ℕ

-- the seat of a site, of its view
abbrev pub site_facts : TableId → View → SiteFacts
site_facts board w =
    let v = as_site w in
    record { board = board; site = v.site; seen = v.seen; polls = v.polls; finished = v.finished }

-- the seat of the desk, of its view
abbrev pub desk_facts : TableId → View → DeskFacts
desk_facts board w = let d = as_desk w in record { board = board; sites = d.made; asked = d.asked; looked = d.looked }

-- the seat of a site of a new board
abbrev pub new_seat : TableId → ℕ → SiteFacts
new_seat board site = record { board = board; site = site; seen = 0; polls = 0; finished = false }

-- the seats of a new board, one for each site in order
abbrev pub new_seats : TableId → ℕ → List SiteFacts
new_seats board sites = map (new_seat board) (range_with_len 0 sites)

-- the desk of a new board
abbrev pub new_desk : TableId → ℕ → DeskFacts
new_desk board sites = record { board = board; sites = sites; asked = replicate most_sites 0; looked = 0 }

-- a seat of the table that is a site's, holds no slot, and whose site is that number
abbrev pub IsSiteSeat : {S : Type 0} → Me S View → ℕ → Type 0
IsSiteSeat me site = (me ≡ (Site (as_site me.0), [])) × (site ≡ (as_site me.0).site) × (site < most_sites)

-- a seat of the table that is the desk's, and holds no slot
abbrev pub IsDeskSeat : {S : Type 0} → Me S View → Type 0
IsDeskSeat me = (me ≡ (Desk (as_desk me.0), [])) × ((as_desk me.0).made ≤ most_sites)

-- what a site's seat knows
abbrev pub view_of : SiteFacts → SiteView
view_of s = site_view s.site s.seen s.polls s.finished

-- the desk, after these seats came back
abbrev pub after_return : DeskView → List SiteFacts → DeskView
after_return d seats = desk_view d.made d.asked d.looked (d.ended ++ map view_of seats)

-- the desk's seat of a board with that many sites
abbrev pub made_desk : ℕ → View
made_desk made = Desk (desk_view made (replicate most_sites 0) 0 [])
