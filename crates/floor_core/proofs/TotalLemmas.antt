-- The records of all sites, counted site by site, are those of a journal.
use Rattle.std.proofs.Common.{◌≡◌, ℕ, zero, suc, ◌+◌, ◌<◌, ◌≤◌, Bool, List, [], ◌∷◌, cond, length, refl, ap, arith, eq-eqb, ne_eqb}
use mathlib.Core.Logic.{dite}
use native.Mathlib.Decide.{ℕ_discrete}
use Rattle.std.specs.List.{AllByRecursion, count_by, flat_map, range_with_len}
use Rattle.std.proofs.lemmas.List.Sums.{sum_by-append, sum_by-cons}
use Rattle.text_bytes.proofs.ListLemmas.{all_from}
use Rattle.tester_types.specs.declared.record.Record.{Record}
use Rattle.plan_rows.specs.Rows.{sites_of, dies_at}
use Rattle.lot_plan.proofs.GroupLemmas.{site-below}
use Rattle.floor_core.specs.World.{World, Event, after, is_at, at_site_of}
use Rattle.floor_core.specs.Interleavings.{IsRecordIn, IsJournal, AreTotals}
use Rattle.floor_core.proofs.ListLemmas.{filter-yes, filter-no}
use Rattle.site_meaning.proofs.PartLemmas.{dies_in-part_of}
use Rattle.floor_core.proofs.HistoryLemmas.{Follow, Histories}
use Rattle.floor_core.proofs.JournalLemmas.{IsToldAt, filed_are_told, filed_follow}
use Rattle.floor_core.proofs.DieLemmas.{count_is_dies}

module _ (counts : Record → Bool) where
  -- 1 where a record is counted
  abbrev weight : Record → ℕ
  weight entry = cond (counts entry) 1 0

  -- how many of the records of these sites are counted
  abbrev over_sites : List Record → ℕ → ℕ → ℕ
  over_sites journal from sites = count_by counts (flat_map (λ site. at_site_of site journal) (range_with_len from sites))

  -- the first site, and those behind it
  over_sites-suc : (journal : List Record) (from sites : ℕ)
      → over_sites journal from (suc sites) ≡ count_by counts (at_site_of from journal) + over_sites journal (from + 1) sites
  over_sites-suc journal from sites =
      sum_by-append weight (at_site_of from journal) (flat_map (λ site. at_site_of site journal) (range_with_len (from + 1) sites))

  -- no records
  over_sites-nil : (from sites : ℕ) → over_sites [] from sites ≡ 0
  over_sites-nil from zero = refl
  over_sites-nil from (suc sites) = omega (arith, over_sites-suc [] from sites, over_sites-nil (from + 1) sites)

  -- a record of an earlier site counts at none of these
  over_sites-before : (entry : Record) (journal : List Record) (from sites : ℕ) → entry.site < from
      → over_sites (entry ∷ journal) from sites ≡ over_sites journal from sites
  over_sites-before entry journal from zero before = refl
  over_sites-before entry journal from (suc sites) before =
      let same = ap (count_by counts) (filter-no (is_at from) entry journal (ne_eqb entry.site from (λ e. omega (arith, e, before)))) in
      omega (
        arith,
        over_sites-suc (entry ∷ journal) from sites,
        over_sites-suc journal from sites,
        over_sites-before entry journal (from + 1) sites (omega (arith, before)),
        same,
      )

  -- a record of one of these sites counts once
  over_sites-cons : (entry : Record) (journal : List Record) (from sites : ℕ) → from ≤ entry.site → entry.site < from + sites
      → over_sites (entry ∷ journal) from sites ≡ over_sites journal from sites + weight entry
  over_sites-cons entry journal from zero least most = absurd (omega (arith, least, most))
  over_sites-cons entry journal from (suc sites) least most =
      dite (ℕ_discrete entry.site from)
      (λ here.
      let more = ap (count_by counts) (filter-yes (is_at from) entry journal (eq-eqb entry.site from here)) in
      omega (
        arith,
        over_sites-suc (entry ∷ journal) from sites,
        over_sites-suc journal from sites,
        over_sites-before entry journal (from + 1) sites (omega (arith, here)),
        more,
        sum_by-cons weight entry (at_site_of from journal),
      ))
      (λ elsewhere.
      let same = ap (count_by counts) (filter-no (is_at from) entry journal (ne_eqb entry.site from elsewhere)) in
      omega (
        arith,
        over_sites-suc (entry ∷ journal) from sites,
        over_sites-suc journal from sites,
        over_sites-cons entry journal (from + 1) sites (omega (arith, least, elsewhere)) (omega (arith, most)),
        same,
      ))

  -- where all records are of these sites, each counts once
  over_sites-all : (journal : List Record) (sites : ℕ) → AllByRecursion (λ entry. entry.site < sites) journal
      → over_sites journal 0 sites ≡ count_by counts journal
  over_sites-all [] sites inside = over_sites-nil 0 sites
  over_sites-all (entry ∷ journal) sites inside =
      omega (
        arith,
        over_sites-cons entry journal 0 sites (omega arith) (omega (arith, inside.0)),
        over_sites-all journal sites inside.1,
        sum_by-cons weight entry journal,
      )

-- a sound record's site is one of the plan's
sites_inside : (world : World) (entry : Record) → IsRecordIn world entry → entry.site < sites_of world.plan.rows
sites_inside world entry is =
    site-below world.plan.rows entry.site entry.die
    (omega (arith, is.sound.die, dies_in-part_of world.plan entry.site))

-- dies that follow one another and are below a bound end at it or before
follow-most : (from to bound : ℕ) (records : List Record) → Follow from records to → AllByRecursion (λ r. r.die < bound) records
    → from ≤ bound → to ≤ bound
follow-most from to bound [] follow below least = omega (arith, follow, least)
follow-most from to bound (r ∷ records) follow below least =
    follow-most (from + 1) to bound records follow.1 below.1 (omega (arith, follow.0, below.0))

-- the dies of a site's records follow one another, and are planned
pub planned_dies : (world : World) (events : List Event) → Histories world events (after world events) → (site : ℕ)
    → (to : ℕ) × Follow 0 (at_site_of site (after world events).journal) to × (to ≤ length (dies_at site world.plan.rows))
planned_dies world events all site =
    let follows = filed_follow world events (after world events) all site in
    let below = all_from (IsToldAt world site) (λ r. r.die < length (dies_at site world.plan.rows))
    (λ r told. let sound = told.0 in omega (arith, sound.die, dies_in-part_of world.plan site)) (at_site_of site (after world events).journal)
    (filed_are_told world events (after world events) site all) in (
      follows.0,
      follows.1,
      follow-most 0 follows.0 (length (dies_at site world.plan.rows)) (at_site_of site (after world events).journal) follows.1 below (omega arith),
    )

pub totals_are_counts : (world : World) (events : List Event) → Histories world events (after world events) → IsJournal world events
    → (counts : Record → Bool) → AreTotals world events counts
totals_are_counts world events all is counts = record {
  records = over_sites-all counts (after world events).journal (sites_of world.plan.rows)
      (all_from (IsRecordIn world) (λ entry. entry.site < sites_of world.plan.rows) (sites_inside world) (after world events).journal is.each);
  dies = count_is_dies counts world.plan (after world events).journal (planned_dies world events all);
}
