-- A share that takes a book, writes a record in it and gives it back.
use Rattle.std.proofs.Common.{◌≡◌, ℕ, ◌<◌, List, [], ◌∷◌, ◌++◌, None, length, slice_index, sym, ap, ◌∙◌, arith}
use Rattle.atomic_table.specs.Table.{Me, rest}
use Rattle.tester_types.specs.Records.{SiteRecords}
use Rattle.tester_types.specs.declared.record.Record.{Record}
use Rattle.floor_core.specs.Book.{at_site, places_of, places_in, filed}
use Rattle.floor_core.proofs.BookLemmas.{slice_index-places_in, places_in-filed, at_site-filed, at_site-filed_elsewhere}
use Rattle.lot_book.specs.Rule.{as_share}
use Rattle.lot_book.specs.Steps.{IsBookOf, HasTaken, HoldsBook, HasRoom, HasWritten, given, in_hand, after_filing}
use Rattle.lot_book.specs.declared.view.View.{View}
use Rattle.lot_book.specs.declared.view.View.TheVariants.{Share}
use Rattle.lot_book.specs.declared.view.ShareView.{ShareView}

-- a share with room has a spare place at its site in a book that is as it knows
pub room_is_spare : (v : ShareView) (book : List SiteRecords) (site : ℕ) → IsBookOf v book → HasRoom v → site ≡ v.site
    → 0 < (at_site book site).spare
room_is_spare v book site known room same =
    let here : slice_index v.places v.site ≡ places_of (at_site book v.site) =
    ap (λ (l : List ℕ). slice_index l v.site) (sym known.places) ∙ slice_index-places_in book v.site in
    let count : length (at_site book v.site).records ≡ length v.records = ap length known.records in
    let there : (at_site book site).spare ≡ (at_site book v.site).spare = ap (λ k. (at_site book k).spare) same in
    omega (arith, here, count, there, room)

-- once the record is written, the book in the slot differs at the share's site alone
pub is_written : (me : Me (List SiteRecords) View) (v : ShareView) (entry : Record) (book after : List SiteRecords)
    → HasTaken me v book book → IsBookOf v book → after ≡ filed book entry → entry.site ≡ v.site → HasRoom v
    → HasWritten (me.0, (0, after) ∷ rest me.1) v entry
is_written me v entry book after taken known same site room =
    let spare = room_is_spare v book entry.site known room site in (
      book,
      after,
      ap (λ (m : Me (List SiteRecords) View). (m.0, (0, after) ∷ rest m.1)) taken,
      record {
        places = ap places_in same ∙ places_in-filed book entry spare;
        others = λ other apart.
            ap (λ b. (at_site b other).records) same
            ∙ ap (λ (s : SiteRecords). s.records) (at_site-filed_elsewhere book entry other (λ e. apart (e ∙ site)));
      },
      ap (λ b. (at_site b v.site).records) same
          ∙ ap (λ k. (at_site (filed book entry) k).records) (sym site)
          ∙ ap (λ (s : SiteRecords). s.records) (at_site-filed book entry spare)
          ∙ ap (λ l. l ++ entry ∷ []) (ap (λ k. (at_site book k).records) site ∙ known.records),
    )

-- a share that took the book, wrote a record and gave the book back has filed the record
pub is_filed : (took wrote gave : Me (List SiteRecords) View) (v : ShareView) (entry : Record) → HoldsBook took v
    → HasWritten wrote (as_share took.0) entry → gave ≡ given (as_share wrote.0) (in_hand wrote.1) → gave ≡ after_filing v entry
is_filed took wrote gave v entry holds written back =
    let w = as_share took.0 in
    back ∙ ap (λ m. given (as_share m.0) (in_hand m.1)) written.2
    ∙ ap (λ l. (Share (record { site = w.site; places = w.places; records = l; held = None }), [])) written.4
    ∙ ap (λ m. after_filing (as_share m.0) entry) holds.1
