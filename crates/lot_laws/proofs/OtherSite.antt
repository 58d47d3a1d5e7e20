-- Lots that say the same of two sites record the same there, but for the site's number, and print the same of their dies.
use Rattle.std.proofs.Common.{◌≡◌, ℕ, zero, suc, ◌<◌, List, [], ◌∷◌, ◌++◌, length, map, get_or, refl, sym, ap, ◌∙◌, subst}
use Rattle.std.specs.Prelude.{Some}
use Rattle.std.specs.List.{AllByRecursion, find, flat_map}
use Rattle.std.specs.Option.{option_map_or}
use Rattle.std.proofs.lemmas.List.{length-map}
use Rattle.tester_types.specs.Outside.{Files, file_of}
use Rattle.tester_types.specs.declared.record.Record.{Record}
use Rattle.tester_types.specs.declared.record.Verdict.{Verdict}
use Rattle.packed_code.specs.Program.{Program}
use Rattle.bench_net.specs.Circuit.{Circuit}
use Rattle.plan_rows.specs.declared.row.Row.{Row}
use Rattle.plan_rows.specs.declared.row.BinRow.{BinRow}
use Rattle.plan_rows.specs.declared.row.DieRow.{DieRow}
use Rattle.plan_rows.specs.Rows.{dies_at}
use Rattle.lot_plan.specs.Bound.{Bound, die_at, circuit_of}
use Rattle.lot_plan.specs.Readings.{bin_of, ends_so, usual_bin}
use Rattle.site_meaning.specs.Part.{Part, rows_for, part_of, circuit_in, dies_in}
use Rattle.site_meaning.specs.Records.{records, cuts_of}
use Rattle.site_meaning.specs.Alike.{AreCodesAlike, AreCircuitsAlike, ArePartsAlike}
use Rattle.site_meaning.proofs.AlikeLemmas.{records_alike}
use Rattle.site_meaning.proofs.RowLemmas.{dies-same}
use Rattle.site_meaning.proofs.PartLemmas.{circuit_in-part_of, dies_in-part_of}
use Rattle.tester_run.specs.Work.{AreRecords}
use Rattle.datalog.specs.DatalogText.{final_verdict, die_bin, die_line, bin_line, trial_text, record_text}
use Rattle.tool_inputs.specs.Inputs.{Inputs, AreInputs, bound_of}
use Rattle.plan_parts.specs.Moved.{moved}
use Rattle.lot_laws.specs.Moved.{moved_record, SayTheSameMoved}
use Rattle.lot_laws.proofs.SiteLemmas.{one_code, one_circuit, die_net, all_trials, bin_here}
use Rattle.lot_laws.proofs.MovedRows.{rows_of, dies_moved, bins_moved}
use Rattle.lot_laws.proofs.MovedLemmas.{there, dies_is, records_is}

-- a die under another site's number
abbrev as_die_of : ℕ → DieRow → DieRow
as_die_of place d = record d { site = place }

-- no die
abbrev no_die : DieRow
no_die = record { site = 0; name = []; file = [] }

-- it has its name and its file
name_at : (place : ℕ) (dies : List DieRow) (k : ℕ) → (get_or (map (as_die_of place) dies) k no_die).name ≡ (get_or dies k no_die).name
name_at place [] k = refl
name_at place (d ∷ dies) zero = refl
name_at place (d ∷ dies) (suc k) = name_at place dies k

file_at : (place : ℕ) (dies : List DieRow) (k : ℕ) → (get_or (map (as_die_of place) dies) k no_die).file ≡ (get_or dies k no_die).file
file_at place [] k = refl
file_at place (d ∷ dies) zero = refl
file_at place (d ∷ dies) (suc k) = file_at place dies k

module _ (plan plan' : Bound) (site place : ℕ) (rows : map (moved place) (rows_for site plan.rows) ≡ rows_for place plan'.rows) where
  -- the dies of both sites
  pub both_dies : dies_at place plan'.rows ≡ map (as_die_of place) (dies_at site plan.rows)
  both_dies =
      sym (dies-same place plan'.rows) ∙ ap (dies_at place) (sym rows)
      ∙ dies_moved site place (rows_for site plan.rows) (rows_of site plan.rows)
      ∙ ap (map (as_die_of place)) (dies-same site plan.rows)

  names_are : (die : ℕ) → (die_at plan'.rows place die).name ≡ (die_at plan.rows site die).name
  names_are die = ap (λ (l : List DieRow). (get_or l die no_die).name) both_dies ∙ name_at place (dies_at site plan.rows) die

  pub files_are : (die : ℕ) → (die_at plan'.rows place die).file ≡ (die_at plan.rows site die).file
  files_are die = ap (λ (l : List DieRow). (get_or l die no_die).file) both_dies ∙ file_at place (dies_at site plan.rows) die

  bins_are : (v : Verdict) → bin_of plan'.rows v ≡ bin_of plan.rows v
  bins_are v =
      sym (bin_here plan'.rows place v) ∙ ap (λ (l : List Row). bin_of l v) (sym rows)
      ∙ ap (λ (l : List BinRow). option_map_or (λ b. b.bin) (find (λ b. ends_so v b.ending) l) (usual_bin v))
      (bins_moved place (rows_for site plan.rows))
      ∙ bin_here plan.rows site v

  module _ (code other : Program) (alike : AreCodesAlike code other) where
    record_lines : (entry : Record) → entry.site ≡ site → record_text other plan' (moved_record place entry) ≡ record_text code plan entry
    record_lines entry own =
        let name : (die_at plan'.rows place entry.die).name ≡ (die_at plan.rows entry.site entry.die).name =
        names_are entry.die ∙ ap (λ (s : ℕ). (die_at plan.rows s entry.die).name) (sym own) in
        ap (λ (n : List ℕ). die_line n ++ flat_map (trial_text other) entry.trials ++ bin_line (bin_of plan'.rows (final_verdict entry.trials))) name
        ∙ ap (λ (l : List ℕ). die_line (die_at plan.rows entry.site entry.die).name ++ l ++ bin_line (bin_of plan'.rows (final_verdict entry.trials)))
        (sym (all_trials code other alike entry.trials))
        ∙ ap (λ (b : ℕ). die_line (die_at plan.rows entry.site entry.die).name ++ flat_map (trial_text code) entry.trials ++ bin_line b)
        (bins_are (final_verdict entry.trials))

    -- the lines of the dies
    pub dies_lines : (entries : List Record) → AllByRecursion (λ (entry : Record). entry.site ≡ site) entries
        → flat_map (record_text other plan') (map (moved_record place) entries) ≡ flat_map (record_text code plan) entries
    dies_lines [] own = refl
    dies_lines (entry ∷ entries) own =
        ap (λ (l : List ℕ). l ++ flat_map (record_text other plan') (map (moved_record place) entries)) (record_lines entry own.0)
        ∙ ap (λ (l : List ℕ). record_text code plan entry ++ l) (dies_lines entries own.1)

  -- and their bins
  pub dies_bins : (entries : List Record) → map (die_bin plan') (map (moved_record place) entries) ≡ map (die_bin plan) entries
  dies_bins [] = refl
  dies_bins (entry ∷ entries) =
      ap (λ (b : ℕ). b ∷ map (die_bin plan') (map (moved_record place) entries)) (bins_are (final_verdict entry.trials))
      ∙ ap (λ (l : List ℕ). die_bin plan entry ∷ l) (dies_bins entries)

module _ (files others : Files) (program plan program' plan' : List ℕ) (inputs inputs' : Inputs)
    (are : AreInputs (Some files) program plan inputs) (are' : AreInputs (Some others) program' plan' inputs') (site place : ℕ)
    (says : SayTheSameMoved files others program program' inputs inputs' site place) where
  pub moved_code : AreCodesAlike inputs.code inputs'.code
  moved_code = one_code files others program program' inputs.code inputs'.code says.one_program are.code are'.code

  abbrev here : Part
  here = part_of (bound_of inputs) site

  circuits_are : (die : ℕ) → die < dies_in (there here place (rows_of site inputs.rows))
      → AreCircuitsAlike (circuit_in here die) (circuit_in (part_of (bound_of inputs') place) die)
  circuits_are die planned =
      let within : die < length (dies_at site inputs.rows) =
      subst (λ (n : ℕ). die < n) (dies_is here place (rows_of site inputs.rows) ∙ dies_in-part_of (bound_of inputs) site) planned in
      let many : length (dies_at site inputs.rows) ≡ length (dies_at place inputs'.rows) =
      sym (length-map (dies_at site inputs.rows) (as_die_of place))
      ∙ sym (ap (λ (l : List DieRow). length l) (both_dies (bound_of inputs) (bound_of inputs') site place says.rows)) in
      let within' : die < length (dies_at place inputs'.rows) = subst (λ (n : ℕ). die < n) many within in
      let bytes : file_of files (die_at inputs.rows site die).file ≡ file_of others (die_at inputs'.rows place die).file =
      says.nets die within ∙ ap (file_of others) (sym (files_are (bound_of inputs) (bound_of inputs') site place says.rows die)) in
      subst (λ (c : Circuit). AreCircuitsAlike c (circuit_in (part_of (bound_of inputs') place) die)) (sym (circuit_in-part_of (bound_of inputs) site die within))
      (subst (λ (c : Circuit). AreCircuitsAlike (circuit_of (bound_of inputs) site die) c) (sym (circuit_in-part_of (bound_of inputs') place die within'))
      (one_circuit files others (die_at inputs.rows site die).file (die_at inputs'.rows place die).file (circuit_of (bound_of inputs) site die)
      (circuit_of (bound_of inputs') place die) bytes (die_net files program plan inputs are site die within)
      (die_net others program' plan' inputs' are' place die within')))

  moved_alike : ArePartsAlike (there here place (rows_of site inputs.rows)) (part_of (bound_of inputs') place)
  moved_alike = record { site = refl; rows = says.rows; code = moved_code; circuits = circuits_are }

  -- equal cuts give equal records, but for the site's number
  pub moved_records : (entries entries' : List Record) → AreRecords here entries → AreRecords (part_of (bound_of inputs') place) entries'
      → cuts_of entries ≡ cuts_of entries' → entries' ≡ map (moved_record place) entries
  moved_records entries entries' a b cuts =
      b.whole ∙ ap (records (part_of (bound_of inputs') place)) (sym cuts)
      ∙ sym (records_alike (there here place (rows_of site inputs.rows)) (part_of (bound_of inputs') place) moved_alike (cuts_of entries))
      ∙ records_is here place (rows_of site inputs.rows) (cuts_of entries)
      ∙ ap (map (moved_record place)) (sym a.whole)
