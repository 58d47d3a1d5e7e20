-- The six kinds of step on a stop board: of the step, the seat before, the number found and the seat after.
use Rattle.std.specs.Prelude.{◌≡◌, ℕ, ◌+◌, ◌≤◌, List, true, false, [], ◌∷◌, ◌++◌, slice_index, slice_set}
use Rattle.atomic_table.specs.Table.{Me, Step}
use Rattle.stop_board.specs.Rule.{desk_view, site_view, as_desk, as_site}
use Rattle.stop_board.specs.declared.view.View.{View}
use Rattle.stop_board.specs.declared.view.View.TheVariants.{Desk, Site, Spent}
use Rattle.stop_board.specs.declared.view.DeskView.{DeskView}
use Rattle.stop_board.specs.declared.view.SiteView.{SiteView}

-- the numbers of stops, with one more at the site
abbrev pub asked_once_more : List ℕ → ℕ → List ℕ
asked_once_more asked site = slice_set asked site (slice_index asked site + 1)

-- the desk, after it asked for a stop at the site
abbrev pub after_ask : DeskView → ℕ → DeskView
after_ask d site = desk_view d.made (asked_once_more d.asked site) d.looked d.ended

-- the desk, after it saw that many finished seats
abbrev pub after_look : DeskView → ℕ → DeskView
after_look d looked = desk_view d.made d.asked looked d.ended

-- a site's seat, after it saw that many stops
abbrev pub after_poll : SiteView → ℕ → SiteView
after_poll v seen = site_view v.site seen (v.polls + 1) v.finished

-- a site's seat, after it finished
abbrev pub after_finish : SiteView → SiteView
after_finish v = site_view v.site v.seen v.polls true

-- ask: the desk's number of the word's site is one more
abbrev pub Asks : {S : Type 0} → Step S → Me S View → ℕ → Me S View → Type 0
Asks st me found then = then ≡ (Desk (after_ask (as_desk me.0) st.word), me.1)

-- poll: what is seen is the loaded number, which is no less than what was seen, and the polls are one more
abbrev pub Polls : {S : Type 0} → Step S → Me S View → ℕ → Me S View → Type 0
Polls st me found then = (then ≡ (Site (after_poll (as_site me.0) found), me.1)) × ((as_site me.0).seen ≤ found)

-- finish: the seat has finished
abbrev pub Finishes : {S : Type 0} → Step S → Me S View → ℕ → Me S View → Type 0
Finishes st me found then = then ≡ (Site (after_finish (as_site me.0)), me.1)

-- look: the desk has seen the loaded number, which is no less than what it had seen, and no more than the seats
abbrev pub Looks : {S : Type 0} → Step S → Me S View → ℕ → Me S View → Type 0
Looks st me found then =
    let d = as_desk me.0 in (then ≡ (Desk (after_look d found), me.1)) × (d.looked ≤ found) × (found ≤ d.made)

-- split: the desk has made one more seat
abbrev pub desk_after_making : View → View
desk_after_making v = let d = as_desk v in Desk (desk_view (d.made + 1) d.asked d.looked d.ended)

-- split: the new seat is that of the next site, and has seen nothing
abbrev pub site_made : View → View
site_made v = Site (site_view (as_desk v).made 0 0 false)

-- join: what the site's seat knew is among what the ended seats knew
abbrev pub desk_after_ending : View → View → View
desk_after_ending v w = let d = as_desk v in Desk (desk_view d.made d.asked d.looked (d.ended ++ as_site w ∷ []))

-- join: the site's seat is spent
abbrev pub spent : View
spent = Spent
