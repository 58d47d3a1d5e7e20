-- The rule of the table in which a book stands, which holds between any two steps of any threads. It is this project's
-- own. The table has one word, the turn, and one slot, the book's. The opener's view stands first, and the views of the
-- shares follow in the order of their making.
use Rattle.std.specs.Prelude.{◌≡◌, ◌⊎◌, ℕ, ◌+◌, ◌≤◌, ◌==◌, nat_lt, cond, List, [], ◌∷◌, Option, Some, None, is_some, sum_by, All}
use mathlib.Core.Option.{none, some}
use lib.ListN.{get_elem?}
use Rattle.atomic_table.specs.Table.{State}
use Rattle.tester_types.specs.Records.{SiteRecords}
use Rattle.tester_types.specs.declared.record.Record.{Record}
use Rattle.floor_core.specs.Book.{at_site, places_in}
use Rattle.lot_book.specs.declared.view.View.{View}
use Rattle.lot_book.specs.declared.view.View.TheVariants.{Opener, Share, Spent}
use Rattle.lot_book.specs.declared.view.OpenerView.{OpenerView}
use Rattle.lot_book.specs.declared.view.ShareView.{ShareView}

-- the view of the opener's seat
abbrev pub opener_view : ℕ → List ℕ → List ShareView → OpenerView
opener_view made places ended = record { made = made; places = places; ended = ended }

-- the view of a share
abbrev pub share_view : ℕ → List ℕ → List Record → Option (List SiteRecords) → ShareView
share_view site places records held = record { site = site; places = places; records = records; held = held }

-- what the opener's seat knows; of another seat, nothing
abbrev pub as_opener : View → OpenerView
as_opener (Opener o) = o
as_opener (Share v) = opener_view 0 [] []
as_opener Spent = opener_view 0 [] []

-- what a share knows; of another seat, nothing
abbrev pub as_share : View → ShareView
as_share (Share v) = v
as_share (Opener o) = share_view 0 [] [] None
as_share Spent = share_view 0 [] [] None

-- no share was made of a book with these places
abbrev pub first_view : List ℕ → View
first_view places = Opener (opener_view 0 places [])

-- f of what a share knows; 0 where it has come back
abbrev pub of_share : (ShareView → ℕ) → View → ℕ
of_share f (Share v) = f v
of_share f (Opener o) = 0
of_share f Spent = 0

-- f of what each share knows, of those that came back and of those that are out, added up
abbrev pub over_shares : (ShareView → ℕ) → OpenerView → List View → ℕ
over_shares f opener shares = sum_by f opener.ended + sum_by (of_share f) shares

-- 1 for each share
abbrev pub one : ShareView → ℕ
one v = 1

-- 1 where the share is that of the site
abbrev pub if_at : ℕ → ShareView → ℕ
if_at site v = cond (v.site == site) 1 0

-- 1 where the share holds a book
abbrev pub if_holds : ShareView → ℕ
if_holds v = cond (is_some v.held) 1 0

-- what a share knows is so of the book: its places, and that the records at its site are the share's list. If the share
-- holds a book, it is this one
pub record IsOfBook (book : List SiteRecords) (v : ShareView) : Type 0 where
  pub places : v.places ≡ places_in book
  pub records : v.records ≡ (at_site book v.site).records
  pub held : (v.held ≡ None) ⊎ (v.held ≡ Some book)

-- what holds of the turn, the slot and the views between any two steps
pub record IsKept (s : State (List SiteRecords) View) : Type 0 where
  pub opener : OpenerView
  pub shares : List View
  -- the book, at home or held
  pub book : List SiteRecords
  -- one seat is the opener's, and the others are shares or spent
  pub views : s.views ≡ Opener opener ∷ shares
  pub no_opener : (k : ℕ) (o : OpenerView) → get_elem? shares k ≡ some (Opener o) → ⊥
  -- each site below the number made has one share, and no other site has any
  pub once : (site : ℕ) → over_shares (if_at site) opener shares ≡ cond (nat_lt site opener.made) 1 0
  pub all : over_shares one opener shares ≡ opener.made
  -- the turn is the number of shares that hold the book, at most 1; none that came back holds it
  pub turn : s.words ≡ over_shares if_holds opener shares ∷ []
  pub most : over_shares if_holds opener shares ≤ 1
  pub none_ended : All (λ v. v.held ≡ None) opener.ended
  -- where it is 0 the book is at home, and where it is 1 the book is out
  pub home : over_shares if_holds opener shares ≡ 0 → s.homes ≡ some book ∷ []
  pub out : over_shares if_holds opener shares ≡ 1 → s.homes ≡ none ∷ []
  -- the book has the opener's places, is as each share knows it, out or back, and has no records at a site without a
  -- share
  pub places : places_in book ≡ opener.places
  pub each : (k : ℕ) (v : ShareView) → get_elem? shares k ≡ some (Share v) → IsOfBook book v
  pub each_ended : All (IsOfBook book) opener.ended
  pub beyond : (site : ℕ) → opener.made ≤ site → (at_site book site).records ≡ []
