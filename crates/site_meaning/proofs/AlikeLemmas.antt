-- Parts that are alike record alike: `trials_alike`, `touchdowns_alike`, `records_alike`.
use Rattle.std.proofs.Common.{◌≡◌, ℕ, zero, suc, ◌+◌, ◌<◌, ◌≤◌, List, [], ◌∷◌, ◌++◌, length, map, Option, Some, None, refl, sym, ap, ◌∙◌, subst, arith}
use Rattle.std.specs.Prelude.{Result}
use Rattle.std.specs.List.{range_with_len}
use Rattle.tester_types.specs.declared.cycle.Cycle.{Cycle}
use Rattle.tester_types.specs.declared.record.Record.{Record}
use Rattle.tester_types.specs.declared.record.Trial.{Trial}
use Rattle.packed_code.specs.Program.{Program}
use Rattle.packed_code.specs.Cycles.{cycles_of}
use Rattle.packed_code.specs.declared.parts.CodeSignal.{CodeSignal}
use Rattle.bench_net.specs.Circuit.{Net, Circuit, IsWhole}
use Rattle.die_sim.specs.Die.{Device, fixed_of}
use Rattle.die_sim.specs.declared.image.Bind.{Bind}
use Rattle.plan_rows.specs.declared.row.Row.{Row}
use Rattle.plan_rows.specs.Rows.{faults_at, skews_at}
use Rattle.lot_plan.specs.Needs.{PinNeed, needs_of, clock_of}
use Rattle.lot_plan.specs.Binds.{bound_or, bind_to, is_driven, binds_from, binds_of, list_of}
use Rattle.lot_plan.specs.Bound.{numbered, active_at}
use Rattle.lot_plan.specs.Skews.{skews_of}
use Rattle.site_meaning.specs.Playing.{Stand, Going, starting}
use Rattle.site_meaning.specs.Part.{Part, lot_in, dies_in, skews_in, circuit_in, image_in, order_in}
use Rattle.site_meaning.specs.Trials.{Batch, Cut, tried, execs_of, more_in, batches_of, with_cut, recorded, trial}
use Rattle.site_meaning.specs.Records.{TryCut, cut_at, then_again, tries_from, touchdown, records}
use Rattle.site_meaning.specs.Alike.{said_cycles, AreCodesAlike, AreCircuitsAlike, ArePartsAlike}
use Rattle.site_meaning.proofs.AlikeDies.{twin, twins, SayExecs, say_all, tried_alike, starting_alike}

-- ---- a die of the part

-- signals are bound to circuits of one netlist alike
pub binds_alike : (c d : Circuit) → c.net ≡ d.net → (before : List Bind) (needs : List PinNeed)
    → binds_from c before needs ≡ binds_from d before needs
binds_alike c d net before [] = refl
binds_alike c d net before (w ∷ needs) =
    by (bind_to c (is_driven before) w.role w.net) (λ b. binds_from c (before ++ b ∷ []) needs) (λ b. binds_from d (before ++ b ∷ []) needs)
    (λ b. binds_alike c d net (before ++ b ∷ []) needs)
    ∙ ap (λ (n : Net). bound_or w.name
    (bind_to (record { net = n; order = []; readers = [] }) (is_driven before) w.role w.net) (λ b. binds_from d (before ++ b ∷ []) needs)) net
  where
    by : (o : Option Bind) (next next' : Bind → Result (List Bind) (List ℕ)) → ((b : Bind) → next b ≡ next' b)
        → bound_or w.name o next ≡ bound_or w.name o next'
    by None next next' same = refl
    by (Some b) next next' same = same b

-- the die that a circuit gives in a try, by what the rows say of it and by the signals of a code
device_by : List Row → ℕ → ℕ → ℕ → List CodeSignal → Circuit → Device
device_by rows site die number signals c = record {
  circuit = c;
  clock = clock_of rows signals;
  binds = list_of (binds_of c (needs_of rows signals));
  fixed = fixed_of (length c.net.names) (active_at number (map (numbered c) (faults_at site die rows)));
}

-- what a try runs on, by the same
stand_by : List Row → ℕ → ℕ → ℕ → Program → Circuit → Stand
stand_by rows site die number code c =
    record { code = code; skews = skews_of code.signals (skews_at site rows); device = device_by rows site die number code.signals c }

-- the cycles of the executives of codes that say the same
pub say_execs : (code other : Program) → ((exec : ℕ) → said_cycles code exec ≡ said_cycles other exec) → (execs : List ℕ)
    → SayExecs code.rows other.rows (map (cycles_of code) execs) (map (cycles_of other) execs)
say_execs code other same [] = tt
say_execs code other same (e ∷ execs) =
    (say_all code.rows other.rows (cycles_of code e) (cycles_of other e) (same e), say_execs code other same execs)

-- a circuit has the netlist of another one
pub of_net : (c d : Circuit) → c.net ≡ d.net → record { net = c.net; order = d.order; readers = d.readers } ≡ d
of_net c d net = λ i. record { net = net i; order = d.order; readers = d.readers }

-- the batches of a try on a stand
unfoldable pub batches_on : Stand → ℕ → Program → List Batch
batches_on s more code = tried s more 0 (starting s.device) (execs_of code)

-- the batches of tries on dies of one netlist, with codes that say the same
on_alike : (rows : List Row) (site die number more : ℕ) (code other : Program) (c d : Circuit) → AreCodesAlike code other
    → AreCircuitsAlike c d
    → batches_on (stand_by rows site die number code c) more code ≡ batches_on (stand_by rows site die number other d) more other
unfolding batches_on stand_by device_by execs_of
on_alike rows site die number more code other c d codes circuits =
    let d' : Circuit = record { net = c.net; order = d.order; readers = d.readers } in
    let whole' : IsWhole d' = subst IsWhole (sym (of_net c d circuits.net)) circuits.other_whole in
    let clock = clock_of rows code.signals in
    let binds = list_of (binds_of c (needs_of rows code.signals)) in
    let fixed = fixed_of (length c.net.names) (active_at number (map (numbered c) (faults_at site die rows))) in
    let skews = skews_of code.signals (skews_at site rows) in
    let execs : List ℕ = range_with_len 0 (length code.execs) in
    let die_is : device_by rows site die number code.signals d' ≡ twin c.net c.order d.order c.readers d.readers clock binds fixed =
    ap (λ (r : Result (List Bind) (List ℕ)). record { circuit = d'; clock = clock; binds = list_of r; fixed = fixed })
    (sym (binds_alike c d' refl [] (needs_of rows code.signals))) in
    let stand_is : twins c.net c.order d.order c.readers d.readers clock binds fixed circuits.whole whole' code other skews codes.tables
    ≡ stand_by rows site die number other d =
    (λ i. record { code = other; skews = skews; device = sym die_is i })
    ∙ (λ i. record {
      code = other;
      skews = skews_of (codes.signals i) (skews_at site rows);
      device = device_by rows site die number (codes.signals i) (of_net c d circuits.net i);
    }) in
    tried_alike c.net c.order d.order c.readers d.readers clock binds fixed circuits.whole whole' code other skews codes.tables
    more 0 (starting (stand_by rows site die number code c).device) (map (cycles_of code) execs) (map (cycles_of other) execs)
    (say_execs code other codes.cycles execs)
    ∙ ap (λ (g : Going). tried (twins c.net c.order d.order c.readers d.readers clock binds fixed circuits.whole whole'
    code other skews codes.tables) more 0 g (map (cycles_of other) execs))
    (starting_alike c.net c.order d.order c.readers d.readers clock binds fixed circuits.whole whole' code other skews codes.tables)
    ∙ ap (λ (n : ℕ). batches_with (twins c.net c.order d.order c.readers d.readers clock binds fixed circuits.whole whole' code other skews codes.tables)
    more (map (cycles_of other) (range_with_len 0 n))) codes.execs
    ∙ ap (λ (s : Stand). batches_with s more (execs_of other)) stand_is
  where
    batches_with : Stand → ℕ → List (List Cycle) → List Batch
    batches_with s n execs = tried s n 0 (starting s.device) execs

-- ---- a part

module _ (part other : Part) (alike : ArePartsAlike part other) where
  -- the other part, of the same site and with the same rows by what they are
  placed : Part
  placed = record { site = part.site; code = other.code; rows = part.rows; circuits = other.circuits }

  placed_is : placed ≡ other
  unfolding placed
  placed_is = λ i. record { site = alike.site i; code = other.code; rows = alike.rows i; circuits = other.circuits }

  batches_alike : (die number : ℕ) → die < dies_in part → batches_of part die number ≡ batches_of placed die number
  unfolding batches_of placed batches_on stand_by device_by skews_in image_in
  batches_alike die number planned =
      on_alike part.rows part.site die number (more_in part) part.code other.code (circuit_in part die) (circuit_in other die)
      alike.code (alike.circuits die planned)

  trial_placed : (die number : ℕ) (cut : Cut) → die < dies_in part → trial part die number cut ≡ trial placed die number cut
  unfolding trial placed order_in
  trial_placed die number cut planned =
      ap (λ (bs : List Batch). recorded (lot_in part).keep number (with_cut (order_in part die number) bs cut)) (batches_alike die number planned)

  tries_placed : (cuts : List TryCut) (die number left : ℕ) → die < dies_in part
      → tries_from part cuts die number left ≡ tries_from placed cuts die number left
  unfolding tries_from
  tries_placed cuts die number zero planned = refl
  tries_placed cuts die number (suc left) planned =
      ap (λ (l : List Trial). then_again (trial part die number (cut_at cuts die number)) l) (tries_placed cuts die (number + 1) left planned)
      ∙ ap (λ (t : Trial). then_again t (tries_from placed cuts die (number + 1) left)) (trial_placed die number (cut_at cuts die number) planned)

  touchdown_placed : (cuts : List TryCut) (die : ℕ) → die < dies_in part → touchdown part cuts die ≡ touchdown placed cuts die
  unfolding placed
  touchdown_placed cuts die planned = λ i. record {
    site = part.site;
    die = die;
    trials = tries_placed cuts die 1 (lot_in part).tries planned i;
  }

  -- the records of these dies
  each_placed : (cuts : List TryCut) (from count : ℕ) → from + count ≤ dies_in part
      → map (touchdown part cuts) (range_with_len from count) ≡ map (touchdown placed cuts) (range_with_len from count)
  each_placed cuts from zero few = refl
  each_placed cuts from (suc count) few =
      ap (λ (l : List Record). touchdown part cuts from ∷ l) (each_placed cuts (from + 1) count (omega (arith, few)))
      ∙ ap (λ (r : Record). r ∷ map (touchdown placed cuts) (range_with_len (from + 1) count)) (touchdown_placed cuts from (omega (arith, few)))

  pub trials_alike : (die number : ℕ) (cut : Cut) → die < dies_in part → trial part die number cut ≡ trial other die number cut
  trials_alike die number cut planned = trial_placed die number cut planned ∙ ap (λ (p : Part). trial p die number cut) placed_is

  pub touchdowns_alike : (cuts : List TryCut) (die : ℕ) → die < dies_in part → touchdown part cuts die ≡ touchdown other cuts die
  touchdowns_alike cuts die planned = touchdown_placed cuts die planned ∙ ap (λ (p : Part). touchdown p cuts die) placed_is

  pub records_alike : (cuts : List TryCut) → records part cuts ≡ records other cuts
  unfolding placed
  records_alike cuts = each_placed cuts 0 (dies_in part) (omega arith) ∙ ap (λ (p : Part). records p cuts) placed_is
