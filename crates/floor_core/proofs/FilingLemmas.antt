-- A book keeps the records that are filed into it, and has room for a journal.
use Rattle.std.proofs.Common.{◌≡◌, ℕ, ◌+◌, ◌<◌, ◌≤◌, List, [], ◌∷◌, ◌++◌, length, sym, refl, ap, ◌∙◌, arith, eq-eqb, ne_eqb, append_assoc}
use mathlib.Core.Logic.{dite}
use native.Mathlib.Decide.{ℕ_discrete, dec_le}
use Rattle.std.proofs.lemmas.List.{append-nil}
use Rattle.std.proofs.Math.ListN.{get_or-map}
use Rattle.tester_types.specs.Records.{SiteRecords}
use Rattle.tester_types.specs.declared.record.Record.{Record}
use Rattle.plan_rows.specs.declared.row.Row.{Row}
use Rattle.plan_rows.specs.Rows.{sites_of, dies_at}
use Rattle.lot_plan.proofs.GroupLemmas.{site-below}
use Rattle.floor_core.specs.Book.{empty_site, at_site, filed, planned, new_book}
use Rattle.floor_core.specs.World.{World, Event, after, is_at, at_site_of}
use Rattle.floor_core.specs.Filing.{filed_all, HasRoomFor, HasKept, KeepsJournal}
use Rattle.floor_core.proofs.ListLemmas.{filter-yes, filter-no}
use Rattle.floor_core.proofs.BookLemmas.{at_site-filed, at_site-filed_elsewhere, slice_index-planned}
use Rattle.floor_core.proofs.HistoryLemmas.{Follow, Histories}
use Rattle.floor_core.proofs.TotalLemmas.{planned_dies}

-- ---- one record and the others

module _ (book : List SiteRecords) (entry : Record) (later : List Record) (room : HasRoomFor book (entry ∷ later)) where
  -- the first record has a place
  first_place : 0 < (at_site book entry.site).spare
  first_place =
      let here = ap (λ (l : List Record). length l) (filter-yes (is_at entry.site) entry later (eq-eqb entry.site entry.site refl)) in
      omega (arith, room entry.site, here)

  -- the others have theirs behind it
  room_behind : HasRoomFor (filed book entry) later
  room_behind site =
      dite (ℕ_discrete site entry.site)
      (λ same.
      let here = ap (λ (l : List Record). length l) (filter-yes (is_at site) entry later (eq-eqb entry.site site (sym same))) in
      let left = ap (λ (k : ℕ). (at_site (filed book entry) k).spare) same ∙ ap (λ (s : SiteRecords). s.spare) (at_site-filed book entry first_place) in
      let before = ap (λ (k : ℕ). (at_site book k).spare) same in
      omega (arith, room site, here, left, before))
      (λ other.
      let here = ap (λ (l : List Record). length l) (filter-no (is_at site) entry later (ne_eqb entry.site site (λ e. other (sym e)))) in
      let left = ap (λ (s : SiteRecords). s.spare) (at_site-filed_elsewhere book entry site other) in
      omega (arith, room site, here, left))

  -- what each site has once the first is filed, and the others behind it
  kept_behind : (site : ℕ) → (at_site (filed book entry) site).records ++ at_site_of site later
      ≡ (at_site book site).records ++ at_site_of site (entry ∷ later)
  kept_behind site =
      dite (ℕ_discrete site entry.site)
      (λ same.
      ap (λ (k : ℕ). (at_site (filed book entry) k).records ++ at_site_of site later) same
      ∙ ap (λ (s : SiteRecords). s.records ++ at_site_of site later) (at_site-filed book entry first_place)
      ∙ append_assoc (at_site book entry.site).records (entry ∷ []) (at_site_of site later)
      ∙ ap (λ (k : ℕ). (at_site book k).records ++ (entry ∷ at_site_of site later)) (sym same)
      ∙ ap (λ l. (at_site book site).records ++ l) (sym (filter-yes (is_at site) entry later (eq-eqb entry.site site (sym same)))))
      (λ other.
      ap (λ (s : SiteRecords). s.records ++ at_site_of site later) (at_site-filed_elsewhere book entry site other)
      ∙ ap (λ l. (at_site book site).records ++ l) (sym (filter-no (is_at site) entry later (ne_eqb entry.site site (λ e. other (sym e))))))

-- a book with room keeps records
pub has_kept : (book : List SiteRecords) (records : List Record) → HasRoomFor book records → HasKept book records
unfolding filed_all
has_kept book [] room site = sym (append-nil (at_site book site).records)
has_kept book (entry ∷ later) room site =
    has_kept (filed book entry) later (room_behind book entry later room) site ∙ kept_behind book entry later room site

-- ---- a journal

-- records whose dies follow one another are as many as these dies
follow-length : (from to : ℕ) (records : List Record) → Follow from records to → to ≡ from + length records
follow-length from to [] follow = omega (arith, follow)
follow-length from to (r ∷ records) follow = omega (arith, follow-length (from + 1) to records follow.1)

-- a new book has as many spare places at a site as dies are planned there
spare-new_book : (rows : List Row) (site : ℕ) → length (dies_at site rows) ≤ (at_site (new_book rows) site).spare
spare-new_book rows site =
    let spare = ap (λ (s : SiteRecords). s.spare) (get_or-map empty_site (planned rows) site 0) in
    dite (dec_le (sites_of rows) site)
    (λ past.
    dite (dec_le 1 (length (dies_at site rows)))
    (λ planned_there. absurd (let inside = site-below rows site 0 (omega (arith, planned_there)) in omega (arith, inside, past)))
    (λ nothing. omega arith))
    (λ inside. let here = slice_index-planned rows site (omega arith) in omega (arith, spare, here))

pub keeps_journal : (world : World) (events : List Event) → Histories world events (after world events) → KeepsJournal world events
keeps_journal world events all =
    let journal = (after world events).journal in
    let room : HasRoomFor (new_book world.plan.rows) journal =
    λ site.
    let told = planned_dies world events all site in
    omega (arith, follow-length 0 told.0 (at_site_of site journal) told.1, told.2, spare-new_book world.plan.rows site) in
    record { room = room; kept = has_kept (new_book world.plan.rows) journal room }
