-- What lots that say the same of a site have there: parts that are alike, and equal lines of equal records.
use Rattle.std.proofs.Common.{◌≡◌, ℕ, zero, suc, ◌<◌, Bool, true, false, List, [], ◌∷◌, ◌++◌, length, get_or, Some, refl, sym, ap, ◌∙◌, subst, arith}
use Rattle.std.specs.Prelude.{◌==◌, map, codes, decimal, slice_get}
use Rattle.std.specs.List.{AllByRecursion, find, flat_map}
use Rattle.std.specs.Option.{option_map_or, option_and_then}
use Rattle.std.proofs.lemmas.Option.{same_Some}
use Rattle.tester_types.specs.Outside.{Files, file_of}
use Rattle.tester_types.specs.Printing.{printed_name}
use Rattle.tester_types.specs.declared.record.Fail.{Fail}
use Rattle.tester_types.specs.declared.record.Record.{Record}
use Rattle.tester_types.specs.declared.record.Trial.{Trial}
use Rattle.tester_types.specs.declared.record.Verdict.{Verdict}
use Rattle.packed_code.specs.Program.{Program}
use Rattle.packed_code.specs.Cycles.{exec_of}
use Rattle.packed_code.specs.declared.parts.CodeChain.{CodeChain}
use Rattle.packed_code.specs.declared.parts.CodeSignal.{CodeSignal}
use Rattle.bench_net.specs.Circuit.{Circuit}
use Rattle.bench_net.specs.Net.{IsNet}
use Rattle.bench_net.proofs.ReadLemmas.{one_net}
use Rattle.plan_rows.specs.declared.row.Row.{Row}
use Rattle.plan_rows.specs.declared.row.DieRow.{DieRow}
use Rattle.plan_rows.specs.declared.row.BinRow.{BinRow}
use Rattle.plan_rows.specs.Rows.{dies_at, files_of}
use Rattle.lot_plan.specs.Bound.{Bound, no_circuit, die_at, file_of as file_number, circuit_of}
use Rattle.lot_plan.specs.Readings.{bin_of, ends_so, usual_bin}
use Rattle.lot_plan.proofs.ReadyLemmas.{number-at, file-below}
use Rattle.site_meaning.specs.Part.{Part, rows_for, part_of, circuit_in, dies_in}
use Rattle.site_meaning.specs.Records.{Sound}
use Rattle.site_meaning.specs.Alike.{AreCodesAlike, AreCircuitsAlike, ArePartsAlike}
use Rattle.site_meaning.proofs.RowLemmas.{dies-same, bins-same}
use Rattle.site_meaning.proofs.PartLemmas.{circuit_in-part_of, dies_in-part_of}
use Rattle.tester_types.specs.Acts.{look_letter}
use Rattle.datalog.specs.DatalogText.{seen_letter, cell_in, cell_words, fail_line, try_line, verdict_line, trial_text, final_verdict, die_bin, die_line, bin_line, record_text, site_line, site_text}
use Rattle.tool_inputs.specs.Inputs.{is_saved, IsCodeBy, IsProgramFile, IsNetFile, AreNetFiles, Inputs, AreInputs, bound_of}
use Rattle.lot_laws.specs.Alone.{IsOneProgram, same, saved, SayTheSame}
use Rattle.lot_laws.proofs.CodeLemmas.{codes_of_text, code_of_saved, code_alike}

-- ---- one program

-- codes of the same bytes
codes_of_bytes : (by : Bool) (bytes : List ℕ) (code other : Program) → IsCodeBy by bytes code → IsCodeBy by bytes other
    → AreCodesAlike code other
codes_of_bytes true bytes code other a b =
    subst (λ (c : Program). AreCodesAlike code c) (sym (code_of_saved bytes code other a b)) (code_alike code)
codes_of_bytes false bytes code other a b = codes_of_text bytes code other a b

by_is : (by by' : Bool) (bytes : List ℕ) (code : Program) → by ≡ by' → IsCodeBy by bytes code → IsCodeBy by' bytes code
by_is by by' bytes code equal is = subst (λ (b : Bool). IsCodeBy b bytes code) equal is

-- codes of one program
pub one_code : (files others : Files) (program other : List ℕ) (code code' : Program) → IsOneProgram files others program other
    → IsProgramFile (Some files) program code → IsProgramFile (Some others) other code' → AreCodesAlike code code'
one_code files others program other code code' (same is) a b =
    let bytes : b.bytes ≡ a.bytes = same_Some b.bytes a.bytes (sym b.file.are ∙ sym is ∙ a.file.are) in
    codes_of_bytes (is_saved a.bytes) a.bytes code code' a.reads
    (subst (λ (x : List ℕ). IsCodeBy (is_saved x) x code') bytes b.reads)
one_code files others program other code code' (saved text bytes is plain is' mark compiled of_text to_bytes) a b =
    let here : a.bytes ≡ text = same_Some a.bytes text (sym a.file.are ∙ is) in
    let there : b.bytes ≡ bytes = same_Some b.bytes bytes (sym b.file.are ∙ is') in
    let reads = by_is (is_saved text) false text code plain (subst (λ (x : List ℕ). IsCodeBy (is_saved x) x code) here a.reads) in
    let loads = by_is (is_saved bytes) true bytes code' mark (subst (λ (x : List ℕ). IsCodeBy (is_saved x) x code') there b.reads) in
    subst (λ (c : Program). AreCodesAlike code c) (sym (code_of_saved bytes compiled code' to_bytes loads))
    (codes_of_text text code compiled reads of_text)

-- ---- one netlist

-- circuits of the same bytes
pub one_circuit : (files others : Files) (name other : List ℕ) (c d : Circuit) → file_of files name ≡ file_of others other
    → IsNetFile (Some files) name c → IsNetFile (Some others) other d → AreCircuitsAlike c d
one_circuit files others name other c d is a b =
    let bytes : b.bytes ≡ a.bytes = same_Some b.bytes a.bytes (sym b.file.are ∙ sym is ∙ a.file.are) in
    record {
      net = one_net a.bytes c.net d.net a.net (subst (λ (x : List ℕ). IsNet x d.net) bytes b.net);
      whole = a.whole;
      other_whole = b.whole;
    }

-- the circuits of files one by one
nets_at : (files : Files) (names : List (List ℕ)) (circuits : List Circuit) → AreNetFiles (Some files) names circuits
    → (k : ℕ) → k < length names → IsNetFile (Some files) (get_or names k []) (get_or circuits k no_circuit)
nets_at files [] [] are k within = absurd (omega (arith, within))
nets_at files [] (c ∷ circuits) are k within = absurd are
nets_at files (n ∷ names) [] are k within = absurd are
nets_at files (n ∷ names) (c ∷ circuits) are zero within = are.0
nets_at files (n ∷ names) (c ∷ circuits) are (suc k) within = nets_at files names circuits are.1 k (omega (arith, within))

-- the circuit of a planned die
pub die_net : (files : Files) (program plan : List ℕ) (inputs : Inputs) → AreInputs (Some files) program plan inputs → (site die : ℕ)
    → die < length (dies_at site inputs.rows)
    → IsNetFile (Some files) (die_at inputs.rows site die).file (circuit_of (bound_of inputs) site die)
die_net files program plan inputs are site die planned =
    subst (λ (name : List ℕ). IsNetFile (Some files) name (circuit_of (bound_of inputs) site die))
    (number-at (files_of inputs.rows) (die_at inputs.rows site die).file (file-below inputs.rows site die planned))
    (nets_at files (files_of inputs.rows) inputs.circuits are.nets (file_number inputs.rows site die) (file-below inputs.rows site die planned))

-- ---- the part of the site

-- the same rows of a site say the same of its dies
rows_dies : (site : ℕ) (rows rows' : List Row) → rows_for site rows ≡ rows_for site rows' → dies_at site rows ≡ dies_at site rows'
rows_dies site rows rows' same_rows =
    sym (dies-same site rows) ∙ ap (λ (l : List Row). dies_at site l) same_rows ∙ dies-same site rows'

module _ (files others : Files) (program plan program' plan' : List ℕ) (inputs inputs' : Inputs)
    (are : AreInputs (Some files) program plan inputs) (are' : AreInputs (Some others) program' plan' inputs') (site : ℕ)
    (says : SayTheSame files others program program' inputs inputs' site) where
  pub code_is : AreCodesAlike inputs.code inputs'.code
  code_is = one_code files others program program' inputs.code inputs'.code says.one_program are.code are'.code

  dies_are : dies_at site inputs.rows ≡ dies_at site inputs'.rows
  dies_are = rows_dies site inputs.rows inputs'.rows says.rows

  circuits_are : (die : ℕ) → die < dies_in (part_of (bound_of inputs) site)
      → AreCircuitsAlike (circuit_in (part_of (bound_of inputs) site) die) (circuit_in (part_of (bound_of inputs') site) die)
  circuits_are die planned =
      let within : die < length (dies_at site inputs.rows) = subst (λ (n : ℕ). die < n) (dies_in-part_of (bound_of inputs) site) planned in
      let within' : die < length (dies_at site inputs'.rows) = subst (λ (l : List DieRow). die < length l) dies_are within in
      let name : (die_at inputs.rows site die).file ≡ (die_at inputs'.rows site die).file =
      ap (λ (l : List DieRow). (get_or l die (record { site = 0; name = []; file = [] })).file) dies_are in
      let bytes : file_of files (die_at inputs.rows site die).file ≡ file_of others (die_at inputs'.rows site die).file =
      says.nets die within ∙ ap (file_of others) name in
      subst (λ (c : Circuit). AreCircuitsAlike c (circuit_in (part_of (bound_of inputs') site) die)) (sym (circuit_in-part_of (bound_of inputs) site die within))
      (subst (λ (c : Circuit). AreCircuitsAlike (circuit_of (bound_of inputs) site die) c) (sym (circuit_in-part_of (bound_of inputs') site die within'))
      (one_circuit files others (die_at inputs.rows site die).file (die_at inputs'.rows site die).file (circuit_of (bound_of inputs) site die)
      (circuit_of (bound_of inputs') site die) bytes (die_net files program plan inputs are site die within)
      (die_net others program' plan' inputs' are' site die within')))

  pub parts_alike : ArePartsAlike (part_of (bound_of inputs) site) (part_of (bound_of inputs') site)
  parts_alike = record { site = refl; rows = says.rows; code = code_is; circuits = circuits_are }

-- ---- the lines of a site

-- what stands behind a fail, by the chains of its executive
cell_by : Fail → List CodeChain → List ℕ
cell_by f chains = cell_words (option_and_then (cell_in f.mark) (find (λ chain. chain.out == f.signal) chains))

-- a fail, by the signals and the chains
line_by : Fail → List CodeSignal → List CodeChain → List ℕ
line_by f signals chains =
    codes "fail " ++ decimal f.cycle ++ codes " " ++ decimal f.at ++ codes " "
    ++ printed_name (option_map_or (λ s. s.name) (slice_get signals f.signal) []) ++ codes " "
    ++ look_letter f.want ++ codes " " ++ seen_letter f.seen ++ cell_by f chains ++ codes "\n"

-- the rows of a site and of no site say of a die's name and of bins what all say
name_here : (plan : Bound) (site die : ℕ) → (die_at (rows_for site plan.rows) site die).name ≡ (die_at plan.rows site die).name
name_here plan site die =
    ap (λ (l : List DieRow). (get_or l die (record { site = 0; name = []; file = [] })).name) (dies-same site plan.rows)

pub bin_here : (rows : List Row) (site : ℕ) (v : Verdict) → bin_of (rows_for site rows) v ≡ bin_of rows v
bin_here rows site v =
    ap (λ (l : List BinRow). option_map_or (λ b. b.bin) (find (λ b. ends_so v b.ending) l) (usual_bin v)) (bins-same site rows)

module _ (code other : Program) (alike : AreCodesAlike code other) where
  fail_lines : (f : Fail) → fail_line code f ≡ fail_line other f
  unfolding line_by cell_by
  fail_lines f =
      ap (λ (signals : List CodeSignal). line_by f signals (exec_of code f.exec).chains) alike.signals
      ∙ ap (λ (chains : List CodeChain). line_by f other.signals chains) (alike.chains f.exec)

  all_fails : (fs : List Fail) → flat_map (fail_line code) fs ≡ flat_map (fail_line other) fs
  all_fails [] = refl
  all_fails (f ∷ fs) =
      ap (λ (l : List ℕ). l ++ flat_map (fail_line code) fs) (fail_lines f) ∙ ap (λ (l : List ℕ). fail_line other f ++ l) (all_fails fs)

  trial_texts : (t : Trial) → trial_text code t ≡ trial_text other t
  trial_texts t = ap (λ (l : List ℕ). try_line t ++ l ++ verdict_line t.verdict) (all_fails t.kept)

  pub all_trials : (ts : List Trial) → flat_map (trial_text code) ts ≡ flat_map (trial_text other) ts
  all_trials [] = refl
  all_trials (t ∷ ts) =
      ap (λ (l : List ℕ). l ++ flat_map (trial_text code) ts) (trial_texts t) ∙ ap (λ (l : List ℕ). trial_text other t ++ l) (all_trials ts)

  module _ (plan plan' : Bound) (site : ℕ) (same_rows : rows_for site plan.rows ≡ rows_for site plan'.rows) where
    record_texts : (entry : Record) → entry.site ≡ site → record_text code plan entry ≡ record_text other plan' entry
    record_texts entry own =
        let name : (die_at plan.rows entry.site entry.die).name ≡ (die_at plan'.rows entry.site entry.die).name =
        subst (λ (s : ℕ). (die_at plan.rows s entry.die).name ≡ (die_at plan'.rows s entry.die).name) (sym own)
        (sym (name_here plan site entry.die) ∙ ap (λ (l : List Row). (die_at l site entry.die).name) same_rows ∙ name_here plan' site entry.die) in
        let bin : bin_of plan.rows (final_verdict entry.trials) ≡ bin_of plan'.rows (final_verdict entry.trials) =
        sym (bin_here plan.rows site (final_verdict entry.trials)) ∙ ap (λ (l : List Row). bin_of l (final_verdict entry.trials)) same_rows
        ∙ bin_here plan'.rows site (final_verdict entry.trials) in
        ap (λ (n : List ℕ). die_line n ++ flat_map (trial_text code) entry.trials ++ bin_line (bin_of plan.rows (final_verdict entry.trials))) name
        ∙ ap (λ (l : List ℕ). die_line (die_at plan'.rows entry.site entry.die).name ++ l ++ bin_line (bin_of plan.rows (final_verdict entry.trials)))
        (all_trials entry.trials)
        ∙ ap (λ (b : ℕ). die_line (die_at plan'.rows entry.site entry.die).name ++ flat_map (trial_text other) entry.trials ++ bin_line b) bin

    all_records : (entries : List Record) → AllByRecursion (λ (entry : Record). entry.site ≡ site) entries
        → flat_map (record_text code plan) entries ≡ flat_map (record_text other plan') entries
    all_records [] own = refl
    all_records (entry ∷ entries) own =
        ap (λ (l : List ℕ). l ++ flat_map (record_text code plan) entries) (record_texts entry own.0)
        ∙ ap (λ (l : List ℕ). record_text other plan' entry ++ l) (all_records entries own.1)

    -- equal records of the site give equal lines
    pub site_texts : (entries : List Record) → AllByRecursion (λ (entry : Record). entry.site ≡ site) entries
        → site_text code plan site entries ≡ site_text other plan' site entries
    site_texts [] own = refl
    site_texts (entry ∷ entries) own = ap (λ (l : List ℕ). site_line site ++ l) (all_records (entry ∷ entries) own)

    -- and equal bins
    pub site_bins : (entries : List Record) → map (die_bin plan) entries ≡ map (die_bin plan') entries
    site_bins [] = refl
    site_bins (entry ∷ entries) =
        let bin : die_bin plan entry ≡ die_bin plan' entry =
        sym (bin_here plan.rows site (final_verdict entry.trials)) ∙ ap (λ (l : List Row). bin_of l (final_verdict entry.trials)) same_rows
        ∙ bin_here plan'.rows site (final_verdict entry.trials) in
        ap (λ (b : ℕ). b ∷ map (die_bin plan) entries) bin ∙ ap (λ (l : List ℕ). die_bin plan' entry ∷ l) (site_bins entries)

-- sound records of a site are of the site
pub sound_own : (part : Part) (entries : List Record) → AllByRecursion (Sound part) entries
    → AllByRecursion (λ (entry : Record). entry.site ≡ part.site) entries
sound_own part [] sound = tt
sound_own part (entry ∷ entries) sound = (sound.0.site, sound_own part entries sound.1)
