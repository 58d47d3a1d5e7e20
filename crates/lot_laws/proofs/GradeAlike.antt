-- Parts that are alike have one grade, of whole lists and of runs of neighbours: `grade_alike`, `run_alike`; so have files
-- of the same bytes: `first_parts`.
use Rattle.std.proofs.Common.{◌≡◌, ℕ, ◌-◌, ◌<◌, List, [], ◌∷◌, length, map, Option, Some, None, refl, sym, ap, ◌∙◌, subst, arith}
use Rattle.std.specs.Prelude.{Result}
use Rattle.std.specs.List.{flat_map, range_with_len}
use Rattle.std.specs.Option.{option_map_or}
use Rattle.tester_types.specs.Outside.{Files, file_of}
use Rattle.tester_types.specs.declared.cycle.Cycle.{Cycle}
use Rattle.packed_code.specs.Program.{Program}
use Rattle.packed_code.specs.Cycles.{cycles_of}
use Rattle.packed_code.specs.declared.parts.CodeSignal.{CodeSignal}
use Rattle.bench_net.specs.Circuit.{Net, Circuit, IsWhole}
use Rattle.die_sim.specs.Die.{Device, fixed_of}
use Rattle.die_sim.specs.declared.image.Bind.{Bind}
use Rattle.die_sim.specs.declared.image.StuckAt.{StuckAt}
use Rattle.plan_rows.specs.declared.row.Row.{Row}
use Rattle.plan_rows.specs.Rows.{sites_of, skews_at, lot_of}
use Rattle.lot_plan.specs.Needs.{needs_of, clock_of}
use Rattle.lot_plan.specs.Binds.{binds_of, list_of}
use Rattle.lot_plan.specs.Bound.{Bound}
use Rattle.lot_plan.specs.Readings.{first_of}
use Rattle.lot_plan.specs.Skews.{skews_of}
use Rattle.site_meaning.specs.Playing.{Stand, Going, starting}
use Rattle.site_meaning.specs.Part.{Part, part_of, dies_in, skews_in, circuit_in, image_in}
use Rattle.site_meaning.specs.Trials.{Batch, uncut, tried, execs_of, more_in, with_cut, recorded}
use Rattle.site_meaning.specs.Alike.{AreCodesAlike, AreCircuitsAlike, ArePartsAlike}
use Rattle.site_meaning.proofs.AlikeDies.{twin, twins, tried_alike, starting_alike}
use Rattle.site_meaning.proofs.AlikeLemmas.{binds_alike, of_net, say_execs}
use Rattle.site_meaning.proofs.PartLemmas.{dies_in-part_of}
use Rattle.word_run.specs.First.{first_fail}
use Rattle.fault_grade.specs.Grade.{first, graded, faults_of_net, nets_in, faults_in, grade_in, first_site, first_part}
use Rattle.fault_grade.specs.Run.{fault_at, run_of}
use Rattle.fault_grade.specs.declared.graded.Graded.{Graded}
use Rattle.fault_grade.proofs.DieLemmas.{first-die}
use Rattle.tool_inputs.specs.Inputs.{Inputs, AreInputs, bound_of}
use Rattle.lot_laws.specs.Alone.{IsOneProgram, AreOneNets}
use Rattle.lot_laws.proofs.SiteLemmas.{parts_alike}
use Rattle.lot_laws.proofs.LotLemmas.{rows_are, says}

-- ---- a die with these faults

-- the die of a circuit, by what the rows say of it and by the signals of a code
abbrev device_with : List Row → List StuckAt → List CodeSignal → Circuit → Device
device_with rows faults signals c = record {
  circuit = c;
  clock = clock_of rows signals;
  binds = list_of (binds_of c (needs_of rows signals));
  fixed = fixed_of (length c.net.names) faults;
}

-- what a try of it runs on
abbrev stand_with : List Row → ℕ → List StuckAt → Program → Circuit → Stand
stand_with rows site faults code c =
    record { code = code; skews = skews_of code.signals (skews_at site rows); device = device_with rows faults code.signals c }

-- the batches of a try on a stand
batches_with : Stand → ℕ → List (List Cycle) → List Batch
batches_with s more execs = tried s more 0 (starting s.device) execs

-- those on dies of one netlist, with codes that say the same
batches_alike : (rows : List Row) (site : ℕ) (faults : List StuckAt) (more : ℕ) (code other : Program) (c d : Circuit)
    → AreCodesAlike code other → AreCircuitsAlike c d
    → batches_with (stand_with rows site faults code c) more (execs_of code)
    ≡ batches_with (stand_with rows site faults other d) more (execs_of other)
unfolding batches_with execs_of
batches_alike rows site faults more code other c d codes circuits =
    let d' : Circuit = record { net = c.net; order = d.order; readers = d.readers } in
    let whole' : IsWhole d' = subst IsWhole (sym (of_net c d circuits.net)) circuits.other_whole in
    let clock = clock_of rows code.signals in
    let binds = list_of (binds_of c (needs_of rows code.signals)) in
    let fixed = fixed_of (length c.net.names) faults in
    let skews = skews_of code.signals (skews_at site rows) in
    let execs : List ℕ = range_with_len 0 (length code.execs) in
    let die_is : device_with rows faults code.signals d' ≡ twin c.net c.order d.order c.readers d.readers clock binds fixed =
    ap (λ (r : Result (List Bind) (List ℕ)). record { circuit = d'; clock = clock; binds = list_of r; fixed = fixed })
    (sym (binds_alike c d' refl [] (needs_of rows code.signals))) in
    let stand_is : twins c.net c.order d.order c.readers d.readers clock binds fixed circuits.whole whole' code other skews codes.tables
    ≡ stand_with rows site faults other d =
    (λ i. record { code = other; skews = skews; device = sym die_is i })
    ∙ (λ i. record {
      code = other;
      skews = skews_of (codes.signals i) (skews_at site rows);
      device = device_with rows faults (codes.signals i) (of_net c d circuits.net i);
    }) in
    tried_alike c.net c.order d.order c.readers d.readers clock binds fixed circuits.whole whole' code other skews codes.tables
    more 0 (starting (stand_with rows site faults code c).device) (map (cycles_of code) execs) (map (cycles_of other) execs)
    (say_execs code other codes.cycles execs)
    ∙ ap (λ (g : Going). tried (twins c.net c.order d.order c.readers d.readers clock binds fixed circuits.whole whole'
    code other skews codes.tables) more 0 g (map (cycles_of other) execs))
    (starting_alike c.net c.order d.order c.readers d.readers clock binds fixed circuits.whole whole' code other skews codes.tables)
    ∙ ap (λ (n : ℕ). batches_with (twins c.net c.order d.order c.readers d.readers clock binds fixed circuits.whole whole' code other skews codes.tables)
    more (map (cycles_of other) (range_with_len 0 n))) codes.execs
    ∙ ap (λ (s : Stand). batches_with s more (execs_of other)) stand_is

-- ---- the first fail of a try

-- of batches
abbrev first_in : List Batch → Option ℕ
first_in batches = first_fail (recorded 1 1 (with_cut None batches uncut)).kept

-- of the first die with these faults, by what the rows say, a code and a circuit
abbrev first_by : List Row → ℕ → List StuckAt → Program → Circuit → Option ℕ
first_by rows site faults code c =
    first_in (batches_with (stand_with rows site faults code c) ((lot_of rows).batch - 1) (execs_of code))

first-by : (part : Part) (faults : List StuckAt)
    → first part 0 faults ≡ first_by part.rows part.site faults part.code (circuit_in part 0)
unfolding first batches_with skews_in image_in
first-by part faults = refl

module _ (part other : Part) (alike : ArePartsAlike part other) (some : 0 < dies_in part) where
  first_alike : (faults : List StuckAt) → first part 0 faults ≡ first other 0 faults
  first_alike faults =
      first-by part faults
      ∙ ap first_in (batches_alike part.rows part.site faults (more_in part) part.code other.code (circuit_in part 0) (circuit_in other 0)
      alike.code (alike.circuits 0 some))
      ∙ (λ i. first_by (alike.rows i) (alike.site i) faults other.code (circuit_in other 0))
      ∙ sym (first-by other faults)

  -- the die without a fault
  pub good_alike : first part 0 [] ≡ first other 0 []
  good_alike = first_alike []

  -- a fault
  one_graded : (fault : StuckAt) → graded part fault ≡ graded other fault
  one_graded fault = λ i. record { net = fault.net; value = fault.value; first = first_alike (fault ∷ []) i }

  all_graded : (faults : List StuckAt) → map (graded part) faults ≡ map (graded other) faults
  all_graded [] = refl
  all_graded (fault ∷ faults) =
      ap (λ (g : Graded). g ∷ map (graded part) faults) (one_graded fault)
      ∙ ap (λ (l : List Graded). graded other fault ∷ l) (all_graded faults)

  -- the nets, and how many there are
  pub names_alike : (circuit_in part 0).net.names ≡ (circuit_in other 0).net.names
  names_alike = ap (λ (n : Net). n.names) (alike.circuits 0 some).net

  pub nets_alike : nets_in part ≡ nets_in other
  nets_alike = ap (λ (l : List (List ℕ)). length l) names_alike

  -- the whole grade
  pub grade_alike : grade_in part ≡ grade_in other
  unfolding faults_in
  grade_alike =
      let faults : map (graded part) (faults_in part) ≡ map (graded other) (faults_in other) =
      all_graded (faults_in part)
      ∙ ap (λ (n : ℕ). map (graded other) (flat_map faults_of_net (range_with_len 0 n))) nets_alike in
      λ i. record { good = good_alike i; faults = faults i }

  -- and a run of neighbours
  graded_from : (numbers : List ℕ)
      → map (λ k. graded part (fault_at k)) numbers ≡ map (λ k. graded other (fault_at k)) numbers
  graded_from [] = refl
  graded_from (k ∷ numbers) =
      ap (λ (g : Graded). g ∷ map (λ k. graded part (fault_at k)) numbers) (one_graded (fault_at k))
      ∙ ap (λ (l : List Graded). graded other (fault_at k) ∷ l) (graded_from numbers)

  pub run_alike : (from to : ℕ) → run_of part from to ≡ run_of other from to
  unfolding run_of
  run_alike from to = graded_from (range_with_len from (to - from))

-- ---- files of the same bytes

module _ (files others : Files) (program plan program' plan' : List ℕ) (inputs inputs' : Inputs)
    (are : AreInputs (Some files) program plan inputs) (are' : AreInputs (Some others) program' plan' inputs')
    (one : IsOneProgram files others program program') (planned : file_of files plan ≡ file_of others plan')
    (nets : (site : ℕ) → AreOneNets files others inputs.rows site) where
  -- the parts of the first die are alike
  pub first_parts : ArePartsAlike (first_part (bound_of inputs)) (first_part (bound_of inputs'))
  first_parts =
      subst (λ (s : ℕ). ArePartsAlike (first_part (bound_of inputs)) (part_of (bound_of inputs') s))
      (ap (λ (rows : List Row). option_map_or (λ d. d.0) (first_of rows) 0)
      (rows_are files others program plan program' plan' inputs inputs' are are' one planned nets))
      (parts_alike files others program plan program' plan' inputs inputs' are are' (first_site (bound_of inputs))
      (says files others program plan program' plan' inputs inputs' are are' one planned nets (first_site (bound_of inputs))))

-- a plan with dies has a first one
pub first_there : (plan : Bound) → 0 < sites_of plan.rows → 0 < dies_in (first_part plan)
first_there plan some = omega (arith, dies_in-part_of plan (first_site plan), first-die plan some)
