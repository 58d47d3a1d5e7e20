-- Lots with one plan and the same netlists, on codes with the same signals whose cycles have the same moments, have books that
-- differ in marks alone, where tries are cut alike: `same_books`.
use Rattle.std.proofs.Common.{◌≡◌, ℕ, ◌<◌, List, [], length, map, get_or, Some, refl, sym, ap, ◌∙◌, subst, arith}
use Rattle.std.proofs.lemmas.List.{get_or-map, length-map}
use Rattle.std.proofs.lemmas.Option.{same_Some}
use Rattle.tester_types.specs.Outside.{Files, file_of}
use Rattle.tester_types.specs.Records.{SiteRecords, records_of}
use Rattle.bench_net.specs.Circuit.{Circuit}
use Rattle.plan_rows.specs.declared.row.Row.{Row}
use Rattle.plan_rows.specs.Rows.{dies_at, sites_of}
use Rattle.plan_rows.specs.Plan.{IsPlan}
use Rattle.plan_rows.proofs.PlanLemmas.{one_plan}
use Rattle.lot_plan.specs.Bound.{circuit_of, die_at}
use Rattle.site_meaning.specs.Part.{Part, rows_for, part_of, circuit_in, dies_in}
use Rattle.site_meaning.specs.Records.{TryCut, records, cuts_of}
use Rattle.site_meaning.specs.Alike.{AreCircuitsAlike, ArePartsAlike}
use Rattle.site_meaning.proofs.AlikeLemmas.{records_alike}
use Rattle.site_meaning.proofs.PartLemmas.{circuit_in-part_of, dies_in-part_of}
use Rattle.floor_core.specs.Book.{at_site, empty_site}
use Rattle.tester_run.specs.Work.{AreRecords}
use Rattle.tool_inputs.specs.Inputs.{Inputs, AreInputs, bound_of}
use Rattle.lot_laws.specs.Alone.{AreOneNets}
use Rattle.lot_laws.proofs.CodeLemmas.{code_alike}
use Rattle.lot_laws.proofs.LotLemmas.{same_places}
use Rattle.lot_laws.proofs.SiteLemmas.{one_circuit, die_net}
use Rattle.flat_lots.specs.Unmarked.{unmarked_record}
use Rattle.flat_lots.proofs.TryLemmas.{CodesBeside, other, records_beside}

-- the records at a place of a book, without their marks
record_at : (book : List SiteRecords) (k : ℕ) → k < length book
    → get_or (map (map unmarked_record) (records_of book)) k [] ≡ map unmarked_record (at_site book k).records
record_at book k within =
    get_or-map (map unmarked_record) (records_of book) k [] [] (omega (arith, within, length-map book (λ (s : SiteRecords). s.records)))
    ∙ ap (map unmarked_record) (get_or-map (λ (s : SiteRecords). s.records) book k (empty_site 0) [] within)

module _ (files others : Files) (program plan program' plan' : List ℕ) (inputs inputs' : Inputs)
    (are : AreInputs (Some files) program plan inputs) (are' : AreInputs (Some others) program' plan' inputs')
    (planned : file_of files plan ≡ file_of others plan') (nets : (site : ℕ) → AreOneNets files others inputs.rows site)
    (signals : inputs.code.signals ≡ inputs'.code.signals) (beside : CodesBeside inputs.code inputs'.code) where
  pub rows_are : inputs.rows ≡ inputs'.rows
  rows_are =
      let bytes : are'.rows.bytes ≡ are.rows.bytes = same_Some are'.rows.bytes are.rows.bytes (sym are'.rows.file.are ∙ sym planned ∙ are.rows.file.are) in
      one_plan are.rows.bytes inputs.rows inputs'.rows are.rows.plan (subst (λ (x : List ℕ). IsPlan x inputs'.rows) bytes are'.rows.plan)

  -- the dies of a site have the same netlists
  circuits_are : (site die : ℕ) → die < dies_in (part_of (bound_of inputs) site)
      → AreCircuitsAlike (circuit_in (part_of (bound_of inputs) site) die) (circuit_in (part_of (bound_of inputs') site) die)
  circuits_are site die here =
      let within : die < length (dies_at site inputs.rows) = subst (λ (n : ℕ). die < n) (dies_in-part_of (bound_of inputs) site) here in
      let within' : die < length (dies_at site inputs'.rows) = subst (λ (rows : List Row). die < length (dies_at site rows)) rows_are within in
      let name : (die_at inputs.rows site die).file ≡ (die_at inputs'.rows site die).file =
      ap (λ (rows : List Row). (die_at rows site die).file) rows_are in
      let bytes : file_of files (die_at inputs.rows site die).file ≡ file_of others (die_at inputs'.rows site die).file =
      nets site die within ∙ ap (file_of others) name in
      subst (λ (c : Circuit). AreCircuitsAlike c (circuit_in (part_of (bound_of inputs') site) die)) (sym (circuit_in-part_of (bound_of inputs) site die within))
      (subst (λ (c : Circuit). AreCircuitsAlike (circuit_of (bound_of inputs) site die) c) (sym (circuit_in-part_of (bound_of inputs') site die within'))
      (one_circuit files others (die_at inputs.rows site die).file (die_at inputs'.rows site die).file (circuit_of (bound_of inputs) site die)
      (circuit_of (bound_of inputs') site die) bytes (die_net files program plan inputs are site die within)
      (die_net others program' plan' inputs' are' site die within')))

  -- the part of a site in one lot, with the code of the other
  between : ℕ → Part
  between site = other (part_of (bound_of inputs) site) inputs'.code signals beside

  parts_are : (site : ℕ) → ArePartsAlike (between site) (part_of (bound_of inputs') site)
  unfolding between
  parts_are site = record {
    site = refl;
    rows = ap (rows_for site) rows_are;
    code = code_alike inputs'.code;
    circuits = circuits_are site;
  }

  module _ (book book' : List SiteRecords) (all : length book ≡ sites_of inputs.rows) (all' : length book' ≡ sites_of inputs'.rows)
      (each : (site : ℕ) → site < sites_of inputs.rows → AreRecords (part_of (bound_of inputs) site) (at_site book site).records)
      (each' : (site : ℕ) → site < sites_of inputs'.rows → AreRecords (part_of (bound_of inputs') site) (at_site book' site).records)
      (cuts : (site : ℕ) → site < sites_of inputs.rows → cuts_of (at_site book site).records ≡ cuts_of (at_site book' site).records) where
    site_same : (site : ℕ) → site < sites_of inputs.rows
        → map unmarked_record (at_site book site).records ≡ map unmarked_record (at_site book' site).records
    unfolding between
    site_same site within =
        let within' : site < sites_of inputs'.rows = subst (λ (n : ℕ). site < n) (ap sites_of rows_are) within in
        let own = cuts_of (at_site book site).records in
        let part = part_of (bound_of inputs) site in
        let part' = part_of (bound_of inputs') site in
        ap (map unmarked_record) (each site within).whole
        ∙ records_beside part inputs'.code signals beside own
        ∙ ap (map unmarked_record) (records_alike (between site) part' (parts_are site) own)
        ∙ ap (λ (cs : List TryCut). map unmarked_record (records part' cs)) (cuts site within)
        ∙ sym (ap (map unmarked_record) (each' site within').whole)

    pub same_books : map (map unmarked_record) (records_of book) ≡ map (map unmarked_record) (records_of book')
    same_books =
        let long : length (map (map unmarked_record) (records_of book)) ≡ length book =
        length-map (records_of book) (map unmarked_record) ∙ length-map book (λ (s : SiteRecords). s.records) in
        let long' : length (map (map unmarked_record) (records_of book')) ≡ length book' =
        length-map (records_of book') (map unmarked_record) ∙ length-map book' (λ (s : SiteRecords). s.records) in
        let sites : length book ≡ length book' = all ∙ ap sites_of rows_are ∙ sym all' in
        same_places [] (map (map unmarked_record) (records_of book)) (map (map unmarked_record) (records_of book')) (long ∙ sites ∙ sym long')
        (λ k within.
        let here : k < length book = omega (arith, within, long) in
        record_at book k here ∙ site_same k (omega (arith, here, all)) ∙ sym (record_at book' k (omega (arith, here, sites))))
