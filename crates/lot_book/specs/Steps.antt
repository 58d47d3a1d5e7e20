-- The kinds of step on the table of a book: of the step, the seat before, the number found and the seat after.
use Rattle.std.specs.Prelude.{◌≡◌, ◌≢◌, ℕ, ◌+◌, ◌<◌, List, [], ◌∷◌, ◌++◌, Some, None, length, slice_index}
use Rattle.atomic_table.specs.Table.{Me, Step, rest}
use Rattle.tester_types.specs.Records.{SiteRecords}
use Rattle.tester_types.specs.declared.record.Record.{Record}
use Rattle.floor_core.specs.Book.{at_site, places_in}
use Rattle.lot_book.specs.Rule.{opener_view, share_view, as_opener, as_share}
use Rattle.lot_book.specs.declared.view.View.{View}
use Rattle.lot_book.specs.declared.view.View.TheVariants.{Opener, Share, Spent}
use Rattle.lot_book.specs.declared.view.ShareView.{ShareView}

-- a share that holds no book
abbrev pub resting : ShareView → ShareView
resting v = share_view v.site v.places v.records None

-- a share that holds this book
abbrev pub holding : ShareView → List SiteRecords → ShareView
holding v book = share_view v.site v.places v.records (Some book)

-- a share that gave this book back: its list is what the book has at its site
abbrev pub given_back : ShareView → List SiteRecords → ShareView
given_back v book = share_view v.site v.places (at_site book v.site).records None

-- the book in the slot that a seat has; none where it has no slot
abbrev pub in_hand : List (ℕ × List SiteRecords) → List SiteRecords
in_hand [] = []
in_hand (slot ∷ slots) = slot.1

-- the book of a share, with the share's places and, at its site, the share's list
pub record IsBookOf (v : ShareView) (book : List SiteRecords) : Type 0 where
  pub places : places_in book ≡ v.places
  pub records : (at_site book v.site).records ≡ v.records

-- a book that differs from another in the records of one site alone
pub record DiffersAt (site : ℕ) (before after : List SiteRecords) : Type 0 where
  pub places : places_in after ≡ places_in before
  pub others : (other : ℕ) → other ≢ site → (at_site after other).records ≡ (at_site before other).records

-- a seat of a share that holds no book and no slot
abbrev pub IsShare : Me (List SiteRecords) View → ShareView → Type 0
IsShare me v = me ≡ (Share (resting v), [])

-- a seat of a share that took the book, and has this one in its slot now
abbrev pub HasTaken : Me (List SiteRecords) View → ShareView → List SiteRecords → List SiteRecords → Type 0
HasTaken me v taken now = me ≡ (Share (holding v taken), (0, now) ∷ [])

-- a seat of a share that holds a book, which is as the share knows it
abbrev pub HoldsBook : Me (List SiteRecords) View → ShareView → Type 0
HoldsBook me v = (book : List SiteRecords) × HasTaken me v book book × IsBookOf v book

-- the share's site has a place for a record more
abbrev pub HasRoom : ShareView → Type 0
HasRoom v = length v.records < slice_index v.places v.site

-- a seat of a share that took a book, and has one in its slot that differs at the share's site alone
abbrev pub HasChanged : Me (List SiteRecords) View → ShareView → Type 0
HasChanged me v =
    (taken : List SiteRecords) × (now : List SiteRecords) × HasTaken me v taken now × DiffersAt v.site taken now

-- a seat of a share that took a book and has one in its slot that differs at the share's site alone: there it has the
-- share's list and the entry behind it
abbrev pub HasWritten : Me (List SiteRecords) View → ShareView → Record → Type 0
HasWritten me v entry =
    (taken : List SiteRecords) × (now : List SiteRecords) × HasTaken me v taken now × DiffersAt v.site taken now
    × ((at_site now v.site).records ≡ v.records ++ entry ∷ [])

-- the seat of a share that filed the entry, and gave the book back
abbrev pub after_filing : ShareView → Record → Me (List SiteRecords) View
after_filing v entry = (Share (share_view v.site v.places (v.records ++ entry ∷ []) None), [])

-- take and busy: where 0 is found the share takes the book, and else nothing changes
abbrev pub Takes : Step (List SiteRecords) → Me (List SiteRecords) View → ℕ → Me (List SiteRecords) View → Type 0
Takes st me found then =
    (found ≡ 0 → HoldsBook then (as_share me.0)) × (found ≢ 0 → then ≡ me)

-- the seat of a share that gave this book back
abbrev pub given : ShareView → List SiteRecords → Me (List SiteRecords) View
given v book = (Share (given_back v book), [])

-- give: the share gives the book in its slot back
abbrev pub Gives : Step (List SiteRecords) → Me (List SiteRecords) View → ℕ → Me (List SiteRecords) View → Type 0
Gives st me found then = then ≡ (Share (given_back (as_share me.0) (in_hand me.1)), rest me.1)

-- split: the opener has made one more share
abbrev pub opener_after_making : View → View
opener_after_making v = let o = as_opener v in Opener (opener_view (o.made + 1) o.places o.ended)

-- split: the new share is that of the next site, with an empty list
abbrev pub share_made : View → View
share_made v = let o = as_opener v in Share (share_view o.made o.places [] None)

-- join: what the share knew is among what the ended shares knew
abbrev pub opener_after_ending : View → View → View
opener_after_ending v w = let o = as_opener v in Opener (opener_view o.made o.places (o.ended ++ as_share w ∷ []))

-- join: the share's seat is spent
abbrev pub spent : View
spent = Spent
