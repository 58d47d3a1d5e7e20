-- The book of the whole plan, of the books of its parts, and its text: `written`.
use Rattle.std.proofs.Common.{◌≡◌, ◌⊎◌, ℕ, ◌+◌, ◌/◌, ◌%◌, ◌<◌, ◌≤◌, Bool, true, false, List, [], ◌∷◌, ◌++◌, length, map, Option, Some, None, refl, sym, ap, ◌∙◌, subst, arith, inl, inr, zero, suc}
use Rattle.std.specs.Prelude.{slice_get, nat_lt}
use Rattle.std.specs.List.{flat_map, range_with_len}
use Rattle.std.proofs.lemmas.Bool.{cases_Bool, lt-ltb}
use Rattle.std.proofs.lemmas.List.FromFn.{length-map-range_with_len, get_or-map-range_with_len}
use Rattle.std.proofs.lemmas.Nat.{mod_below}
use Rattle.tester_types.specs.Outside.{Files}
use Rattle.tester_types.specs.Records.{SiteRecords, records_of}
use Rattle.tester_types.specs.declared.record.Record.{Record}
use Rattle.die_sim.specs.Socket.{Told}
use Rattle.plan_rows.specs.Rows.{dies_at, sites_of}
use Rattle.plan_rows.specs.Judging.{names_at}
use Rattle.site_meaning.specs.Part.{part_of, dies_in}
use Rattle.site_meaning.proofs.PartLemmas.{dies_in-part_of}
use Rattle.floor_core.specs.Book.{at_site, empty_site}
use Rattle.tester_run.specs.Work.{AreRecords}
use Rattle.datalog.specs.DatalogText.{die_bin, record_text, totals_text, lot_text}
use Rattle.tool_inputs.specs.Inputs.{Inputs, bound_of}
use Rattle.lot_laws.specs.Moved.{moved_record}
use Rattle.stil_tool.specs.Alone.{LotRun, records_at}
use Rattle.plan_parts.specs.Cut.{has_dies, rank_of, sites_with_dies}
use Rattle.log_parts.specs.Log.{DieLog, dies_text, bins_of}
use Rattle.log_parts.specs.Merged.{log_of_rank, merged_sites, merged_text}
use Rattle.part_laws.specs.Runs.{AreRunsOfParts}
use Rattle.part_laws.specs.Laws.{AreLogsOf}
use Rattle.part_laws.proofs.LogSites.{all_text}
use Rattle.part_laws.proofs.PartSite.{records_there, some_records, own_texts, own_bins, own_is}
use Rattle.part_laws.proofs.Ranks.{by_rank}
use Rattle.part_laws.proofs.SiteBack.{records_none}
use Rattle.std.proofs.lemmas.List.{get_or_past}
use Rattle.text_bytes.proofs.ListLemmas.{slice_get-there}

-- ---- the book of all sites

module _ {S : Type 0} (tells : S → Told) (files : Files) (program plan : List ℕ) (inputs : Inputs) (runs : List (LotRun tells))
    (given : AreRunsOfParts tells files program plan inputs runs) where
  -- the records of a site, by the run of its part and by whether it has dies
  abbrev records_by : Option (LotRun tells) → Bool → ℕ → List Record
  records_by None has site = []
  records_by (Some run) false site = []
  records_by (Some run) true site = map (moved_record site) (records_at run (rank_of inputs.rows site / length runs))

  -- the records of a site
  pub entries : ℕ → List Record
  entries site = records_by (slice_get runs (rank_of inputs.rows site % length runs)) (has_dies inputs.rows site) site

  -- a site without dies has none
  pub entries_none : (site : ℕ) → has_dies inputs.rows site ≡ false → entries site ≡ []
  unfolding entries
  entries_none site none = by (slice_get runs (rank_of inputs.rows site % length runs))
    where
      by : (o : Option (LotRun tells)) → records_by o (has_dies inputs.rows site) site ≡ []
      by None = refl
      by (Some run) = ap (λ (b : Bool). records_by (Some run) b site) none

  -- one with dies has those of its number, under its own
  pub entries_some : (site : ℕ) → has_dies inputs.rows site ≡ true → (run : LotRun tells)
      → slice_get runs (rank_of inputs.rows site % length runs) ≡ Some run
      → entries site
      ≡ map (moved_record site) (records_at run (rank_of inputs.rows site / length runs))
  unfolding entries
  entries_some site has run got =
      ap (λ (o : Option (LotRun tells)). records_by o (has_dies inputs.rows site) site) got
      ∙ ap (λ (b : Bool). records_by (Some run) b site) has

  -- the run of its part
  pub run_for : (site : ℕ)
      → (run : LotRun tells) × (slice_get runs (rank_of inputs.rows site % length runs) ≡ Some run)
  run_for site = slice_get-there runs (rank_of inputs.rows site % length runs) (mod_below (rank_of inputs.rows site) (length runs) given.some)

  -- the records as they are filed
  filed : ℕ → SiteRecords
  filed site = record { records = entries site; spare = 0 }

  -- the book
  pub book : List SiteRecords
  book = map filed (range_with_len 0 (sites_of inputs.rows))

  -- it has all sites
  pub book_long : length book ≡ sites_of inputs.rows
  unfolding book
  book_long = length-map-range_with_len filed 0 (sites_of inputs.rows)

  -- what it has of a site
  pub book_at : (site : ℕ) → site < sites_of inputs.rows
      → (at_site book site).records ≡ entries site
  unfolding book filed
  book_at site within =
      ap (λ (s : SiteRecords). s.records) (get_or-map-range_with_len filed 0 (sites_of inputs.rows) site site (empty_site 0) within (omega arith))

  -- and past the last
  pub book_past : (site : ℕ) → sites_of inputs.rows ≤ site → (at_site book site).records ≡ []
  book_past site past = ap (λ (s : SiteRecords). s.records) (get_or_past book site (empty_site 0) (omega (arith, past, book_long)))

  -- the records as they are filed, site by site
  records_filed : (a n : ℕ)
      → records_of (map filed (range_with_len a n)) ≡ map entries (range_with_len a n)
  unfolding filed
  records_filed a zero = refl
  records_filed a (suc n) = ap (λ (l : List (List Record)). entries a ∷ l) (records_filed (a + 1) n)

  -- the records of all sites
  book_records : records_of book ≡ map entries (range_with_len 0 (sites_of inputs.rows))
  unfolding book
  book_records = records_filed 0 (sites_of inputs.rows)

  -- ---- its records

  -- a site without dies
  pub no_dies : (site : ℕ) → has_dies inputs.rows site ≡ false
      → dies_in (part_of (bound_of inputs) site) ≡ 0
  no_dies site none = dies_in-part_of (bound_of inputs) site ∙ none_of (length (dies_at site inputs.rows)) none
    where
      none_of : (n : ℕ) → nat_lt 0 n ≡ false → n ≡ 0
      none_of zero e = refl
      none_of (suc n) e = let t = lt-ltb 0 (suc n) (omega arith) in cc

  -- each site's whole list
  pub all_records : (site : ℕ) → AreRecords (part_of (bound_of inputs) site) (entries site)
  all_records site = by (cases_Bool (has_dies inputs.rows site))
    where
      by : (has_dies inputs.rows site ≡ true) ⊎ (has_dies inputs.rows site ≡ false)
          → AreRecords (part_of (bound_of inputs) site) (entries site)
      by (inl has) =
          let found = run_for site in
          subst (AreRecords (part_of (bound_of inputs) site)) (sym (entries_some site has found.0 found.1))
          (records_there tells files program plan inputs runs given site has found.0 found.1)
      by (inr none) =
          subst (AreRecords (part_of (bound_of inputs) site)) (sym (entries_none site none)) (records_none (part_of (bound_of inputs) site) (no_dies site none))

  -- ---- its text

  module _ (logs : List (List (List DieLog))) (are : AreLogsOf inputs runs logs) where
    -- what the parts say of a site
    abbrev said_of : ℕ → List DieLog
    said_of site = log_of_rank logs (rank_of inputs.rows site)

    -- the merged text is that of the book
    pub written : merged_text inputs.rows logs
        ≡ lot_text inputs.code (bound_of inputs) (records_of book)
    unfolding merged_text
    written =
        ap (λ (l : List (List DieLog)). merged_sites inputs.rows (sites_with_dies inputs.rows) l ++ totals_text (bins_of l))
        (by_rank (log_of_rank logs) inputs.rows [])
        ∙ all_text inputs.code (bound_of inputs) entries said_of entries_none
        (λ site has.
        let found = run_for site in
        subst (λ (l : List Record). 0 < length l) (sym (entries_some site has found.0 found.1))
        (some_records tells files program plan inputs runs given site has found.0 found.1))
        (λ site has.
        let found = run_for site in
        ap (dies_text (names_at site inputs.rows)) (own_is tells files program plan inputs runs given site has found.0 found.1 logs are)
        ∙ own_texts tells files program plan inputs runs given site has found.0 found.1
        ∙ ap (flat_map (record_text inputs.code (bound_of inputs))) (sym (entries_some site has found.0 found.1)))
        (λ site has.
        let found = run_for site in
        ap (map (λ (log : DieLog). log.bin)) (own_is tells files program plan inputs runs given site has found.0 found.1 logs are)
        ∙ own_bins tells files program plan inputs runs given site has found.0 found.1
        ∙ ap (map (die_bin (bound_of inputs))) (sym (entries_some site has found.0 found.1)))
        ∙ ap (lot_text inputs.code (bound_of inputs)) (sym book_records)
