-- A site of the plan with dies, by the run of its part: where it is there, what it records and prints, and what its
-- socket tells.
use Rattle.std.proofs.Common.{◌≡◌, ℕ, ◌/◌, ◌%◌, ◌<◌, true, List, [], ◌∷◌, length, map, get_or, refl, sym, ap, ◌∙◌, subst, arith}
use Rattle.std.specs.Prelude.{Some, slice_get}
use Rattle.std.specs.List.{AllByRecursion, flat_map}
use Rattle.std.proofs.lemmas.Bool.{ltb-true}
use Rattle.std.proofs.lemmas.List.{length-map}
use Rattle.std.proofs.lemmas.Option.{slice_get_within}
use Rattle.tester_types.specs.Outside.{Files}
use Rattle.tester_types.specs.declared.record.Record.{Record}
use Rattle.die_sim.specs.Socket.{Told}
use Rattle.plan_rows.specs.Rows.{dies_at}
use Rattle.plan_rows.specs.Judging.{names_at}
use Rattle.site_meaning.specs.Part.{part_of, rows_for}
use Rattle.site_meaning.specs.Alike.{AreCodesAlike, ArePartsAlike}
use Rattle.tester_run.specs.Work.{AreRecords}
use Rattle.tester_run.specs.Lot.{AreOfSite, said_since}
use Rattle.datalog.specs.DatalogText.{die_bin, record_text}
use Rattle.tool_inputs.specs.Inputs.{Inputs, bound_of}
use Rattle.lot_laws.specs.Alone.{AreUncut}
use Rattle.lot_laws.specs.Moved.{moved_record}
use Rattle.lot_laws.proofs.MovedRows.{rows_of}
use Rattle.lot_laws.proofs.MovedLemmas.{there}
use Rattle.lot_laws.proofs.OtherSite.{dies_lines, dies_bins}
use Rattle.stil_tool.specs.Alone.{LotRun, said, sites_in, records_at}
use Rattle.plan_parts.specs.Moved.{moved}
use Rattle.plan_parts.specs.Cut.{has_dies, rank_of, site_at}
use Rattle.plan_parts.proofs.CountLemmas.{number_of_site}
use Rattle.log_parts.specs.Log.{DieLog, dies_text}
use Rattle.log_parts.specs.Merged.{names_in, log_of_rank}
use Rattle.part_laws.specs.Runs.{IsRunOfPart, AreRunsOfParts}
use Rattle.part_laws.specs.Laws.{AreLogsOf}
use Rattle.part_laws.proofs.OneLog.{one_log}
use Rattle.part_laws.proofs.LogSites.{AreShown, logs_at, site_dies, log_bins}
use Rattle.part_laws.proofs.RunParts.{all_at, sites_are, says, has_there, run_alike, run_code, shown_at, logs_made, run_is_log, made_at}
use Rattle.part_laws.proofs.SiteBack.{records_back, site_back}

-- ---- records under another number

-- they are of its site
moved_own : (site : ℕ) (entries : List Record)
    → AllByRecursion (λ (e : Record). e.site ≡ site) (map (moved_record site) entries)
moved_own site [] = tt
moved_own site (e ∷ entries) = (refl, moved_own site entries)

-- those of a site stay where its number is put back
stay : (site place : ℕ) (entries : List Record)
    → AllByRecursion (λ (e : Record). e.site ≡ place) entries
    → map (moved_record place) (map (moved_record site) entries) ≡ entries
stay site place [] own = refl
stay site place (e ∷ entries) own =
    ap (λ (s : ℕ). (record e { site = s }) ∷ map (moved_record place) (map (moved_record site) entries)) (sym own.0)
    ∙ ap (λ (l : List Record). e ∷ l) (stay site place entries own.1)

-- they are as little cut
pub uncut_moved : (site : ℕ) (entries : List Record) → AreUncut entries
    → AreUncut (map (moved_record site) entries)
uncut_moved site [] none = tt
uncut_moved site (e ∷ entries) none = (none.0, uncut_moved site entries none.1)

-- ---- a site with dies

module _ {S : Type 0} (tells : S → Told) (files : Files) (program plan : List ℕ) (inputs : Inputs) (runs : List (LotRun tells))
    (given : AreRunsOfParts tells files program plan inputs runs) (site : ℕ) (has : has_dies inputs.rows site ≡ true) (run : LotRun tells)
    (got : slice_get runs (rank_of inputs.rows site % length runs) ≡ Some run) where
  -- its part, and its number there
  abbrev part : ℕ
  part = rank_of inputs.rows site % length runs

  abbrev pub number : ℕ
  number = rank_of inputs.rows site / length runs

  -- there is such a part
  less : part < length runs
  less = slice_get_within runs part run got

  -- its run
  abbrev own_run : IsRunOfPart tells files program plan inputs (length runs) part run
  own_run = given.each part run got

  -- the number is one of its sites
  pub low : number < sites_in run
  low =
      let both = number_of_site inputs.rows (length runs) site given.some has in
      omega (arith, both.0, sites_are tells files program plan inputs given.are (length runs) part less run own_run)

  -- which is this site
  here : site_at (length runs) part inputs.rows number ≡ site
  here = (number_of_site inputs.rows (length runs) site given.some has).1

  -- and has dies there too
  pub some_dies : 0 < length (dies_at number (said run).rows)
  some_dies = ltb-true 0 (length (dies_at number (said run).rows))
      (has_there tells files program plan inputs given.are (length runs) part less run own_run number low)

  -- ---- what both say

  -- their parts are alike
  alike : ArePartsAlike (there (part_of (bound_of inputs) site) number (rows_of site inputs.rows))
      (part_of (bound_of (said run)) number)
  alike =
      subst (λ (s : ℕ). ArePartsAlike (there (part_of (bound_of inputs) s) number (rows_of s inputs.rows)) (part_of (bound_of (said run)) number)) here
      (run_alike tells files program plan inputs given.are (length runs) part less run own_run number low)

  -- the rows of both
  rows_there : map (moved number) (rows_for site inputs.rows) ≡ rows_for number (said run).rows
  rows_there =
      ap (λ (s : ℕ). map (moved number) (rows_for s inputs.rows)) (sym here)
      ∙ (says tells files program plan inputs given.are (length runs) part less run own_run number low).rows

  -- the codes of both
  codes : AreCodesAlike inputs.code (said run).code
  codes = run_code tells files program plan inputs given.are (length runs) part less run own_run number low

  -- ---- its records

  -- those of its number, under its own
  abbrev pub own_records : List Record
  own_records = map (moved_record site) (records_at run number)

  -- they are the whole list of the site
  pub records_there : AreRecords (part_of (bound_of inputs) site) own_records
  records_there =
      records_back (part_of (bound_of inputs) site) number (rows_of site inputs.rows) (part_of (bound_of (said run)) number) alike
      (records_at run number) (all_at run number low)

  -- what its number left there is what the site leaves
  pub of_site : (socket : S)
      → AreOfSite (bound_of inputs) site (said_since run.old.stops run.new.stops number)
      (tells (get_or run.old.sockets number socket)) (tells (get_or run.new.sockets number socket)) own_records
  of_site socket =
      site_back (bound_of inputs) (bound_of (said run)) site number (said_since run.old.stops run.new.stops number)
      (rows_of site inputs.rows) alike (tells (get_or run.old.sockets number socket)) (tells (get_or run.new.sockets number socket))
      (records_at run number) (run.is.lot.is.records number socket low)

  -- ---- its lines

  -- what its part says of it
  abbrev pub own_logs : List DieLog
  own_logs = logs_at (said run).code (bound_of (said run)) (records_at run) number

  -- what their text takes of the records
  shown : AreShown (bound_of (said run))
      (names_at (site_at (length runs) part inputs.rows number) inputs.rows)
      number (records_at run number)
  shown = shown_at tells files program plan inputs given.are (length runs) part less run own_run number low

  -- put back, they are those of the number
  back : map (moved_record number) own_records ≡ records_at run number
  back = stay site number (records_at run number) shown.own

  -- there are some
  pub some_records : 0 < length own_records
  some_records = omega (arith, shown.some, length-map (records_at run number) (moved_record site))

  -- the lines of its dies
  pub own_texts : dies_text (names_at site inputs.rows) own_logs
      ≡ flat_map (record_text inputs.code (bound_of inputs)) own_records
  own_texts =
      ap (λ (s : ℕ). dies_text (names_at s inputs.rows) own_logs) (sym here)
      ∙ sym (site_dies (said run).code (bound_of (said run)) (names_at (site_at (length runs) part inputs.rows number) inputs.rows) number
      (records_at run number) shown)
      ∙ ap (flat_map (record_text (said run).code (bound_of (said run)))) (sym back)
      ∙ dies_lines (bound_of inputs) (bound_of (said run)) site number rows_there inputs.code (said run).code codes own_records
      (moved_own site (records_at run number))

  -- and their bins
  pub own_bins : map (λ (log : DieLog). log.bin) own_logs
      ≡ map (die_bin (bound_of inputs)) own_records
  own_bins =
      log_bins (said run).code (bound_of (said run)) (records_at run number)
      ∙ ap (map (die_bin (bound_of (said run)))) (sym back)
      ∙ dies_bins (bound_of inputs) (bound_of (said run)) site number rows_there own_records

  -- it is what logs of the parts say of the site's rank
  pub own_is : (logs : List (List (List DieLog))) → AreLogsOf inputs runs logs
      → log_of_rank logs (rank_of inputs.rows site) ≡ own_logs
  own_is logs are =
      ap (λ (n : ℕ). get_or (get_or logs (rank_of inputs.rows site % n) []) (rank_of inputs.rows site / n) []) are.0
      ∙ ap (λ (l : List (List DieLog)). get_or l number [])
      (one_log (names_in (length runs) part inputs.rows) run.text (get_or logs part [])
      (logs_made tells files program plan inputs given.are (length runs) part less run own_run) (are.1 part run got)
      (run_is_log tells files program plan inputs given.are (length runs) part less run own_run))
      ∙ made_at tells files program plan inputs given.are (length runs) part less run own_run number low
