-- What a book has once a record was filed.
use Rattle.std.proofs.Common.{◌≡◌, ◌≢◌, ℕ, ◌<◌, List, [], ◌∷◌, length, slice_index, ap, ◌∙◌, arith, length-append}
use mathlib.Core.Logic.{dite}
use native.Mathlib.Decide.{dec_le}
use Rattle.std.specs.List.{range_with_len}
use Rattle.std.proofs.lemmas.List.FromFn.{length-range_with_len, get_or-map-range_with_len}
use Rattle.std.proofs.lemmas.List.{length-map, get_or_past, get_or-set_same, get_or-set_other}
use Rattle.std.proofs.Math.ListN.{get_or-map}
use Rattle.std.proofs.Math.Seq.{map-set_same}
use Rattle.tester_types.specs.Records.{SiteRecords}
use Rattle.tester_types.specs.declared.record.Record.{Record}
use Rattle.plan_rows.specs.declared.row.Row.{Row}
use Rattle.plan_rows.specs.Rows.{sites_of, dies_at}
use Rattle.floor_core.specs.Book.{empty_site, at_site, places_of, places_in, with_record, filed, planned}

-- a site that has a spare place is one of the book's
pub site-lt-length : (book : List SiteRecords) (site : ℕ) → 0 < (at_site book site).spare → site < length book
site-lt-length book site spare =
    dite (dec_le (length book) site)
    (λ past. absurd (let none = ap (λ (s : SiteRecords). s.spare) (get_or_past book site (empty_site 0) past) in omega (arith, none)))
    (λ inside. omega arith)

-- the places of a site
pub slice_index-places_in : (book : List SiteRecords) (site : ℕ) → slice_index (places_in book) site ≡ places_of (at_site book site)
slice_index-places_in book site = get_or-map places_of book site (empty_site 0)

-- a record that is filed takes a place that was there
pub places_in-filed : (book : List SiteRecords) (entry : Record) → 0 < (at_site book entry.site).spare
    → places_in (filed book entry) ≡ places_in book
places_in-filed book entry spare =
    let s = at_site book entry.site in
    map-set_same places_of book entry.site (with_record s entry) (empty_site 0)
    (omega (arith, length-append s.records (entry ∷ []), spare))

-- its site has the record behind the others
pub at_site-filed : (book : List SiteRecords) (entry : Record) → 0 < (at_site book entry.site).spare
    → at_site (filed book entry) entry.site ≡ with_record (at_site book entry.site) entry
at_site-filed book entry spare =
    get_or-set_same book entry.site (with_record (at_site book entry.site) entry) (empty_site 0) (site-lt-length book entry.site spare)

-- every other site is as it was
pub at_site-filed_elsewhere : (book : List SiteRecords) (entry : Record) (site : ℕ) → site ≢ entry.site
    → at_site (filed book entry) site ≡ at_site book site
at_site-filed_elsewhere book entry site other =
    get_or-set_other book entry.site site (with_record (at_site book entry.site) entry) (empty_site 0) other

-- as many numbers of dies as sites
pub length-planned : (rows : List Row) → length (planned rows) ≡ sites_of rows
length-planned rows =
    length-map (range_with_len 0 (sites_of rows)) (λ site. length (dies_at site rows)) ∙ length-range_with_len 0 (sites_of rows)

-- how many dies are planned at a site
pub slice_index-planned : (rows : List Row) (site : ℕ) → site < sites_of rows → slice_index (planned rows) site ≡ length (dies_at site rows)
slice_index-planned rows site inside =
    get_or-map-range_with_len (λ s. length (dies_at s rows)) 0 (sites_of rows) site site 0 inside (omega arith)
