-- A run of a part: its rows are the part's, at each of its numbers it says what the plan says of the number's site, and
-- its text is a datalog of the part.
use Rattle.std.proofs.Common.{◌≡◌, ℕ, ◌<◌, true, List, [], length, map, get_or, sym, ap, ◌∙◌, subst, arith}
use Rattle.std.specs.Prelude.{Some}
use Rattle.std.specs.List.{range_with_len}
use Rattle.std.proofs.lemmas.Bool.{ltb-true}
use Rattle.std.proofs.lemmas.List.{get_or-map, length-map}
use Rattle.std.proofs.lemmas.List.FromFn.{fill_by_all, get_or-map-range_with_len}
use Rattle.std.proofs.lemmas.Option.{same_Some}
use Rattle.tester_types.specs.Outside.{Files}
use Rattle.tester_types.specs.Records.{SiteRecords, records_of}
use Rattle.die_sim.specs.Socket.{Told}
use Rattle.plan_rows.specs.declared.row.Row.{Row}
use Rattle.plan_rows.specs.Rows.{AreKept, dies_at, sites_of}
use Rattle.plan_rows.specs.Judging.{names_at}
use Rattle.plan_rows.specs.Plan.{IsPlan}
use Rattle.plan_rows.proofs.KeptLemmas.{kept_where_read}
use Rattle.plan_rows.proofs.PlanLemmas.{one_plan}
use Rattle.site_meaning.specs.Part.{part_of, rows_for}
use Rattle.site_meaning.specs.Alike.{AreCodesAlike, ArePartsAlike}
use Rattle.site_meaning.proofs.PartLemmas.{dies_in-part_of}
use Rattle.floor_core.specs.Book.{empty_site}
use Rattle.tester_run.specs.Work.{AreRecords}
use Rattle.datalog.specs.DatalogText.{lot_text}
use Rattle.tool_inputs.specs.Inputs.{Inputs, AreInputs, bound_of}
use Rattle.text_bytes.proofs.ListLemmas.{all_from}
use Rattle.site_meaning.specs.Records.{Sound}
use Rattle.lot_laws.specs.Moved.{SayTheSameMoved}
use Rattle.lot_laws.proofs.SiteLemmas.{sound_own}
use Rattle.lot_laws.proofs.MovedRows.{rows_of}
use Rattle.lot_laws.proofs.MovedLemmas.{there}
use Rattle.lot_laws.proofs.OtherSite.{moved_code}
use Rattle.stil_tool.specs.Alone.{LotRun, said, sites_in, records_at}
use Rattle.stil_tool.proofs.RunLemmas.{some_item}
use Rattle.plan_parts.specs.Cut.{has_dies, part_rows, site_at, sites_in_part, sites_with_dies}
use Rattle.plan_parts.proofs.PartLemmas.{part_is_plan}
use Rattle.plan_parts.proofs.CountLemmas.{names_of_part, sites_of_part}
use Rattle.log_parts.specs.Log.{DieLog, IsLog}
use Rattle.log_parts.specs.Merged.{names_in}
use Rattle.part_laws.specs.Runs.{IsRunOfPart}
use Rattle.part_laws.proofs.LogLines.{IsTried, sound_tried}
use Rattle.part_laws.proofs.LogSites.{AreShown, logs_at, text_is, logs_are}
use Rattle.part_laws.proofs.PartAlike.{moved_alike}
use Rattle.part_laws.proofs.PartRows.{rows_of_number}
use Rattle.part_laws.proofs.TextNames.{file_shows}

-- ---- any run

-- the records of its sites
pub records_are : {S : Type 0} {tells : S → Told} (run : LotRun tells)
    → records_of run.is.lot.book ≡ map (records_at run) (range_with_len 0 (sites_in run))
records_are run =
    fill_by_all (records_at run) (records_of run.is.lot.book) (sites_in run) []
    (length-map run.is.lot.book (λ (s : SiteRecords). s.records) ∙ run.is.lot.is.all)
    (λ k low. get_or-map (λ (s : SiteRecords). s.records) run.is.lot.book k (empty_site 0) [] (omega (arith, low, run.is.lot.is.all)))

-- the whole list of a site
pub all_at : {S : Type 0} {tells : S → Told} (run : LotRun tells) (site : ℕ) → site < sites_in run
    → AreRecords (part_of (bound_of (said run)) site) (records_at run site)
all_at run site within =
    (run.is.lot.is.records site (some_item run.old.sockets (omega (arith, within, run.is.enough))) within).records_are

-- ---- a run of a part

module _ {S : Type 0} (tells : S → Told) (files : Files) (program plan : List ℕ) (inputs : Inputs)
    (are : AreInputs (Some files) program plan inputs) (parts part : ℕ) (less : part < parts) (run : LotRun tells)
    (is : IsRunOfPart tells files program plan inputs parts part run) where
  -- the plan's bytes are those of its rows
  plan_is : IsPlan is.bytes inputs.rows
  plan_is = record { records = is.is.records; are = is.is.are; read = is.is.read }

  -- its rows are those of the part
  rows_are : (said run).rows ≡ part_rows parts part inputs.rows
  rows_are =
      let bytes : run.is.are.rows.bytes ≡ is.text = same_Some run.is.are.rows.bytes is.text (sym run.is.are.rows.file.are ∙ is.of_part) in
      one_plan is.text (said run).rows (part_rows parts part inputs.rows)
      (subst (λ (x : List ℕ). IsPlan x (said run).rows) bytes run.is.are.rows.plan)
      (part_is_plan is.bytes is.text inputs.rows parts part (omega (arith, less)) less is.is)

  -- it has so many sites
  pub sites_are : sites_in run ≡ sites_in_part parts part (length (sites_with_dies inputs.rows))
  sites_are = ap sites_of rows_are ∙ sites_of_part is.bytes inputs.rows parts part less plan_is

  -- a number is one of the part
  low_in : (number : ℕ) → number < sites_in run
      → number < sites_in_part parts part (length (sites_with_dies inputs.rows))
  low_in number low = omega (arith, low, sites_are)

  -- the names of a number's dies
  abbrev names : ℕ → List (List ℕ)
  names number = names_at (site_at parts part inputs.rows number) inputs.rows

  -- what it says of a number
  pub says : (number : ℕ) → number < sites_in run
      → SayTheSameMoved files run.files program run.program inputs (said run)
      (site_at parts part inputs.rows number) number
  says number low = record {
    one_program = is.one_program;
    rows = rows_of_number is.bytes inputs.rows parts part number less plan_is (low_in number low) ∙ ap (rows_for number) (sym rows_are);
    nets = is.nets number low;
  }

  -- the number has dies
  pub has_there : (number : ℕ) → number < sites_in run → has_dies (said run).rows number ≡ true
  has_there number low =
      ap (λ (r : List Row). has_dies r number) rows_are ∙ (names_of_part is.bytes inputs.rows parts part number less plan_is (low_in number low)).0

  -- so its part is alike
  pub run_alike : (number : ℕ) (low : number < sites_in run)
      → ArePartsAlike (there (part_of (bound_of inputs) (site_at parts part inputs.rows number)) number
      (rows_of (site_at parts part inputs.rows number) inputs.rows)) (part_of (bound_of (said run)) number)
  run_alike number low =
      moved_alike files run.files program plan run.program run.plan inputs (said run) are run.is.are
      (site_at parts part inputs.rows number) number (says number low)

  -- and its code
  pub run_code : (number : ℕ) → number < sites_in run → AreCodesAlike inputs.code (said run).code
  run_code number low =
      moved_code files run.files program plan run.program run.plan inputs (said run) are run.is.are
      (site_at parts part inputs.rows number) number (says number low)

  -- ---- its text

  -- the records of a number, by what their text takes of them
  pub shown_at : (number : ℕ) → number < sites_in run
      → AreShown (bound_of (said run)) (names number) number (records_at run number)
  shown_at number low =
      let there = all_at run number low in
      let all : length (records_at run number) ≡ length (dies_at number (said run).rows) =
      there.all ∙ dies_in-part_of (bound_of (said run)) number in
      record {
        own = sound_own (part_of (bound_of (said run)) number) (records_at run number) there.each;
        order = there.order;
        all = all;
        some = omega (arith, all, ltb-true 0 (length (dies_at number (said run).rows)) (has_there number low));
        named = sym (names_of_part is.bytes inputs.rows parts part number less plan_is (low_in number low)).1
            ∙ ap (names_at number) (sym rows_are);
        tried = all_from (Sound (part_of (bound_of (said run)) number)) IsTried (sound_tried (part_of (bound_of (said run)) number))
            (records_at run number) there.each;
      }

  -- what it says
  pub logs_made : List (List DieLog)
  logs_made = map (logs_at (said run).code (bound_of (said run)) (records_at run))
      (range_with_len 0 (sites_in run))

  -- what its rows keep
  kept : AreKept (said run).rows
  kept = kept_where_read run.is.are.rows.bytes (said run).rows run.is.are.rows.plan

  -- the names of all dies
  names_are : map names (range_with_len 0 (sites_in run)) ≡ names_in parts part inputs.rows
  unfolding names_in
  names_are = ap (λ (n : ℕ). map names (range_with_len 0 n)) sites_are

  -- it is a datalog of the part
  pub run_is_log : IsLog (names_in parts part inputs.rows) run.text logs_made
  unfolding logs_made
  run_is_log =
      subst (λ (l : List (List (List ℕ))). IsLog l run.text logs_made) names_are (record {
        are = logs_are (said run).code (bound_of (said run)) names (records_at run) (sites_in run) shown_at
            (file_shows (Some run.files) run.program (said run).code run.is.are.code) kept;
        is = run.is.lot.written ∙ ap (lot_text (said run).code (bound_of (said run))) (records_are run)
            ∙ text_is (said run).code (bound_of (said run)) names (records_at run) (sites_in run) shown_at;
      })

  -- what it says at a number
  pub made_at : (number : ℕ) → number < sites_in run
      → get_or logs_made number []
      ≡ logs_at (said run).code (bound_of (said run)) (records_at run) number
  unfolding logs_made
  made_at number low = get_or-map-range_with_len
      (logs_at (said run).code (bound_of (said run)) (records_at run)) 0 (sites_in run) number number [] low (omega arith)
