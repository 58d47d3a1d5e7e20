-- Books and their shares as clauses see them: plain data, and which book it is as an identity.
use Rattle.std.specs.Prelude.{◌≡◌, ℕ, List, [], ◌++◌, length, map, None}
use Rattle.std.specs.List.{range_with_len}
use Rattle.atomic_table.specs.Seated.{TableId}
use Rattle.atomic_table.specs.Table.{Me}
use Rattle.tester_types.specs.Records.{SiteRecords}
use Rattle.tester_types.specs.declared.record.Record.{Record}
use Rattle.lot_book.specs.Rule.{opener_view, share_view, as_opener, as_share}
use Rattle.lot_book.specs.declared.view.View.{View}
use Rattle.lot_book.specs.declared.view.View.TheVariants.{Opener}
use Rattle.lot_book.specs.declared.view.OpenerView.{OpenerView}
use Rattle.lot_book.specs.declared.view.ShareView.{ShareView}

-- a book that threads share: which one it is, and how many records each site has a place for
pub record BookFacts : Type 0 where
  pub table : TableId
  pub places : List ℕ

-- a share: the book whose making gave it, its site, and the records that were filed with it
pub record ShareFacts : Type 0 where
  pub book : BookFacts
  pub site : ℕ
  pub records : List Record

-- a book of these
abbrev pub book_facts : TableId → List ℕ → BookFacts
book_facts table places = record { table = table; places = places }

-- a share, of its view
abbrev pub share_facts : TableId → View → ShareFacts
share_facts table w =
    let v = as_share w in record { book = book_facts table v.places; site = v.site; records = v.records }

-- the opener of a book, of its view
abbrev pub opener_facts : TableId → View → BookFacts
opener_facts table w = book_facts table (as_opener w).places

-- the share of a site of a new book
abbrev pub new_share : BookFacts → ℕ → ShareFacts
new_share book site = record { book = book; site = site; records = [] }

-- the shares of a new book, one for each of so many sites in order
abbrev pub new_shares : BookFacts → ℕ → List ShareFacts
new_shares book sites = map (new_share book) (range_with_len 0 sites)

-- an opener that has made so many shares of a book with these places
abbrev pub made_opener : List ℕ → ℕ → View
made_opener places made = Opener (opener_view made places [])

-- a seat of the table that is the opener's, has made a share for each site, and holds no slot
abbrev pub IsOpener : Me (List SiteRecords) View → Type 0
IsOpener me = me ≡ (made_opener (as_opener me.0).places (length (as_opener me.0).places), [])

-- what a share knows that holds no book
abbrev pub view_of : ShareFacts → ShareView
view_of s = share_view s.site s.book.places s.records None

-- the opener, after these shares came back
abbrev pub after_return : OpenerView → List ShareFacts → OpenerView
after_return o shares = opener_view o.made o.places (o.ended ++ map view_of shares)
