-- Dies of one netlist get the same drive calls, whatever order their gates lie in, in cycles that say the same:
-- `try_calls_alike`.
use Rattle.std.proofs.Common.{◌≡◌, ℕ, zero, suc, ◌+◌, ◌<◌, List, [], ◌∷◌, ◌++◌, length, map, take, Option, refl, sym, ap, ◌∙◌, subst, ℤ, slice_get}
use Rattle.std.specs.Prelude.{Result}
use Rattle.std.specs.List.{flat_map, range_with_len}
use Rattle.std.specs.Option.{option_map_or}
use Rattle.tester_types.specs.declared.cycle.Cycle.{Cycle}
use Rattle.tester_types.specs.declared.cycle.Moment.{Moment}
use Rattle.tester_types.specs.declared.level.Level.{Level}
use Rattle.tester_types.specs.declared.level.Drive.{Drive}
use Rattle.tester_types.specs.declared.wave.Table.{Table}
use Rattle.packed_code.specs.Program.{Program}
use Rattle.packed_code.specs.Cycles.{cycles_of, period_of}
use Rattle.packed_code.specs.Conditions.{characters_of}
use Rattle.packed_code.specs.declared.parts.CodeSignal.{CodeSignal}
use Rattle.bench_net.specs.Circuit.{Net, Circuit, IsWhole}
use Rattle.edge_gen.specs.Moments.{moments_of}
use Rattle.die_sim.specs.Die.{Device, State, fixed_of}
use Rattle.die_sim.specs.Socket.{Calls}
use Rattle.die_sim.specs.declared.image.Bind.{Bind}
use Rattle.die_sim.specs.Stepped.{settled_levels, stepped}
use Rattle.die_sim.proofs.SettledLemmas.{one_settled_netlist}
use Rattle.die_sim.proofs.SettlingLemmas.{settles}
use Rattle.plan_rows.specs.declared.row.Row.{Row}
use Rattle.plan_rows.specs.Rows.{faults_at, skews_at}
use Rattle.lot_plan.specs.Needs.{needs_of, clock_of}
use Rattle.lot_plan.specs.Binds.{binds_of, list_of}
use Rattle.lot_plan.specs.Bound.{numbered, active_at}
use Rattle.lot_plan.specs.Skews.{skews_of}
use Rattle.site_meaning.specs.Playing.{Stand, Going, Along, starting, along_of, driven, after_moment, after_moments, moments_in, after_cycle}
use Rattle.site_meaning.specs.Part.{Part, dies_in, skews_in, circuit_in, image_in}
use Rattle.site_meaning.specs.Alike.{SaidCycle, said_cycles, AreCodesAlike, AreCircuitsAlike, ArePartsAlike}
use Rattle.site_meaning.proofs.AlikeDies.{Say, SayAll, say_all, one, other, die, twin, twins, starting_alike}
use Rattle.site_meaning.proofs.AlikeLemmas.{binds_alike, of_net}
use Rattle.cycle_run.specs.Tape.{call_of, calls_in, calls_of_cycle}
use Rattle.cycle_run.specs.Batch.{calls_of_cycles}
use Rattle.site_run.specs.Taped.{all_cycles, calls_of_try}

-- ---- cycles that say the same, in lists

-- one list behind another
say_append : (rows rows' : List (List ℕ)) (cs cs' ds ds' : List Cycle) → SayAll rows rows' cs cs'
    → SayAll rows rows' ds ds'
    → SayAll rows rows' (cs ++ ds) (cs' ++ ds')
say_append rows rows' [] [] ds ds' a b = b
say_append rows rows' [] (c' ∷ cs') ds ds' a b = absurd a
say_append rows rows' (c ∷ cs) [] ds ds' a b = absurd a
say_append rows rows' (c ∷ cs) (c' ∷ cs') ds ds' a b = (a.0, say_append rows rows' cs cs' ds ds' a.1 b)

-- the first so many
say_take : (rows rows' : List (List ℕ)) (n : ℕ) (cs cs' : List Cycle) → SayAll rows rows' cs cs'
    → SayAll rows rows' (take n cs) (take n cs')
say_take rows rows' zero cs cs' all = tt
say_take rows rows' (suc n) [] [] all = tt
say_take rows rows' (suc n) [] (c' ∷ cs') all = absurd all
say_take rows rows' (suc n) (c ∷ cs) [] all = absurd all
say_take rows rows' (suc n) (c ∷ cs) (c' ∷ cs') all = (all.0, say_take rows rows' n cs cs' all.1)

-- the cycles of all executives
say_flat : (code code' : Program) → ((exec : ℕ) → said_cycles code exec ≡ said_cycles code' exec)
    → (execs : List ℕ)
    → SayAll code.rows code'.rows (flat_map (cycles_of code) execs)
    (flat_map (cycles_of code') execs)
say_flat code code' same [] = tt
say_flat code code' same (e ∷ execs) =
    say_append code.rows code'.rows (cycles_of code e) (cycles_of code' e) (flat_map (cycles_of code) execs) (flat_map (cycles_of code') execs)
    (say_all code.rows code'.rows (cycles_of code e) (cycles_of code' e) (same e)) (say_flat code code' same execs)

-- ---- two dies of one netlist

module _ (net : Net) (order order' : List ℕ) (readers readers' : List (List ℕ)) (clock : Option ℕ) (binds : List Bind)
    (fixed : List (Option Level)) where
  -- the die with the one order, and with the other
  abbrev here : Device
  here = die net order order' readers readers' clock binds fixed

  abbrev there : Device
  there = twin net order order' readers readers' clock binds fixed

  module _ (whole : IsWhole (one net order order' readers readers' clock binds fixed))
      (whole' : IsWhole (other net order order' readers readers' clock binds fixed)) where
    -- they settle alike
    settled_alike : (held : List Level)
        → settled_levels here.circuit fixed held ≡ settled_levels there.circuit fixed held
    settled_alike held =
        one_settled_netlist here.circuit whole fixed held (settled_levels here.circuit fixed held) (settled_levels there.circuit fixed held)
        (settles here.circuit whole fixed held) (settles there.circuit whole' fixed held)

    -- a step
    step_alike : (s : State) (drives : List (ℕ × Drive))
        → stepped here s drives ≡ stepped there s drives
    step_alike s drives = λ i. record {
      clock = (stepped here s drives).clock;
      held = (stepped here s drives).held;
      levels = settled_alike (stepped here s drives).held i;
    }

    -- a moment
    moment_alike : (along : Along) (m : Moment)
        → after_moment here along m ≡ after_moment there along m
    moment_alike along m = λ i. record {
      die = step_alike along.die (driven here along.priors m) i;
      priors = (after_moment here along m).priors;
    }

    -- moments
    moments_alike : (along : Along) (ms : List Moment)
        → after_moments here along ms ≡ after_moments there along ms
    unfolding after_moments
    moments_alike along [] = refl
    moments_alike along (m ∷ ms) =
        moments_alike (after_moment here along m) ms ∙ ap (λ (a : Along). after_moments there a ms) (moment_alike along m)

    -- the drive calls of moments
    calls_alike : (along : Along) (ms : List Moment)
        → calls_in here along ms ≡ calls_in there along ms
    unfolding calls_in
    calls_alike along [] = refl
    calls_alike along (m ∷ ms) =
        ap (λ (l : Calls). call_of here along m ++ l) (calls_alike (after_moment here along m) ms)
        ∙ ap (λ (a : Along). call_of there along m ++ calls_in there a ms) (moment_alike along m)

    -- ---- cycles of codes that say the same

    module _ (code code' : Program) (skews : List ℤ) (tables : code.tables ≡ code'.tables) where
      abbrev ours : Stand
      ours = record { code = code; skews = skews; device = here }

      abbrev theirs : Stand
      theirs = record { code = code'; skews = skews; device = there }

      -- the moments of a table, where there is one
      at_time : List Table → ℕ → List ℕ → ℕ → List Moment
      at_time all table characters time = option_map_or (λ t. moments_of t characters skews time) (slice_get all table) []

      moments_in_alike : (time : ℕ) (c c' : Cycle) → Say code.rows code'.rows c c'
          → moments_in ours time c ≡ moments_in theirs time c'
      unfolding moments_in at_time
      moments_in_alike time c c' says =
          ap (λ (l : List Table). at_time l c.table (characters_of code.rows c.row) time) tables
          ∙ ap (λ (s : SaidCycle). at_time code'.tables s.table s.characters time) says

      after_alike : (going : Going) (c c' : Cycle) → Say code.rows code'.rows c c'
          → after_cycle ours going c ≡ after_cycle theirs going c'
      after_alike going c c' says =
          let along : after_moments here (along_of going) (moments_in ours going.time c)
          ≡ after_moments there (along_of going) (moments_in theirs going.time c') =
          moments_alike (along_of going) (moments_in ours going.time c)
          ∙ ap (λ (ms : List Moment). after_moments there (along_of going) ms) (moments_in_alike going.time c c' says) in
          let period : period_of code.tables c.table ≡ period_of code'.tables c'.table =
          ap (λ (l : List Table). period_of l c.table) tables ∙ ap (λ (s : SaidCycle). period_of code'.tables s.table) says in
          λ i. record {
            die = (along i).die;
            priors = (along i).priors;
            time = going.time + period i;
            number = going.number + 1;
          }

      cycles_call_alike : (going : Going) (cs cs' : List Cycle)
          → SayAll code.rows code'.rows cs cs'
          → calls_of_cycles ours going cs ≡ calls_of_cycles theirs going cs'
      unfolding calls_of_cycles
      cycles_call_alike going [] [] all = refl
      cycles_call_alike going [] (c' ∷ cs') all = absurd all
      cycles_call_alike going (c ∷ cs) [] all = absurd all
      cycles_call_alike going (c ∷ cs) (c' ∷ cs') all =
          ap (λ (l : Calls). calls_of_cycle ours going c ++ l) (cycles_call_alike (after_cycle ours going c) cs cs' all.1)
          ∙ ap (λ (g : Going). calls_of_cycle ours going c ++ calls_of_cycles theirs g cs') (after_alike going c c' all.0)
          ∙ ap (λ (l : Calls). l ++ calls_of_cycles theirs (after_cycle theirs going c') cs')
          (calls_alike (along_of going) (moments_in ours going.time c)
          ∙ ap (λ (ms : List Moment). calls_in there (along_of going) ms) (moments_in_alike going.time c c' all.0))

-- ---- a die of a part

-- the die that a circuit gives in a try, by what the rows say of it and by the signals of a code
abbrev device_by : List Row → ℕ → ℕ → ℕ → List CodeSignal → Circuit → Device
device_by rows site die number signals c = record {
  circuit = c;
  clock = clock_of rows signals;
  binds = list_of (binds_of c (needs_of rows signals));
  fixed = fixed_of (length c.net.names) (active_at number (map (numbered c) (faults_at site die rows)));
}

-- what a try runs on, by the same
abbrev stand_by : List Row → ℕ → ℕ → ℕ → Program → Circuit → Stand
stand_by rows site die number code c =
    record { code = code; skews = skews_of code.signals (skews_at site rows); device = device_by rows site die number code.signals c }

-- the calls of the first so many cycles of a try, by its cycles
abbrev calls_on : Stand → List Cycle → Calls
calls_on s cycles = calls_of_cycles s (starting s.device) cycles

-- the calls of tries on dies of one netlist, with codes that say the same
calls_on_alike : (rows : List Row) (site die number : ℕ) (code other : Program) (c d : Circuit)
    → AreCodesAlike code other
    → AreCircuitsAlike c d → (cs cs' : List Cycle) → SayAll code.rows other.rows cs cs'
    → calls_on (stand_by rows site die number code c) cs
    ≡ calls_on (stand_by rows site die number other d) cs'
calls_on_alike rows site die number code other c d codes circuits cs cs' all =
    let d' : Circuit = record { net = c.net; order = d.order; readers = d.readers } in
    let whole' : IsWhole d' = subst IsWhole (sym (of_net c d circuits.net)) circuits.other_whole in
    let clock = clock_of rows code.signals in
    let binds = list_of (binds_of c (needs_of rows code.signals)) in
    let fixed = fixed_of (length c.net.names) (active_at number (map (numbered c) (faults_at site die rows))) in
    let skews = skews_of code.signals (skews_at site rows) in
    let die_is : device_by rows site die number code.signals d' ≡ twin c.net c.order d.order c.readers d.readers clock binds fixed =
    ap (λ (r : Result (List Bind) (List ℕ)). record { circuit = d'; clock = clock; binds = list_of r; fixed = fixed })
    (sym (binds_alike c d' refl [] (needs_of rows code.signals))) in
    let stand_is : twins c.net c.order d.order c.readers d.readers clock binds fixed circuits.whole whole' code other skews codes.tables
    ≡ stand_by rows site die number other d =
    (λ i. record { code = other; skews = skews; device = sym die_is i })
    ∙ (λ i. record {
      code = other;
      skews = skews_of (codes.signals i) (skews_at site rows);
      device = device_by rows site die number (codes.signals i) (of_net c d circuits.net i);
    }) in
    cycles_call_alike c.net c.order d.order c.readers d.readers clock binds fixed circuits.whole whole' code other skews codes.tables
    (starting (stand_by rows site die number code c).device) cs cs' all
    ∙ ap (λ (g : Going). calls_of_cycles (twins c.net c.order d.order c.readers d.readers clock binds fixed circuits.whole whole'
    code other skews codes.tables) g cs')
    (starting_alike c.net c.order d.order c.readers d.readers clock binds fixed circuits.whole whole' code other skews codes.tables)
    ∙ ap (λ (s : Stand). calls_on s cs') stand_is

-- and those of the first so many cycles of all
calls_of_first : (rows : List Row) (site die number : ℕ) (code other : Program) (c d : Circuit)
    → AreCodesAlike code other
    → AreCircuitsAlike c d → (count : ℕ)
    → calls_on (stand_by rows site die number code c)
    (take count (flat_map (cycles_of code) (range_with_len 0 (length code.execs))))
    ≡ calls_on (stand_by rows site die number other d) (take count (flat_map (cycles_of other) (range_with_len 0 (length other.execs))))
calls_of_first rows site die number code other c d codes circuits count =
    calls_on_alike rows site die number code other c d codes circuits
    (take count (flat_map (cycles_of code) (range_with_len 0 (length code.execs))))
    (take count (flat_map (cycles_of other) (range_with_len 0 (length code.execs))))
    (say_take code.rows other.rows count (flat_map (cycles_of code) (range_with_len 0 (length code.execs)))
    (flat_map (cycles_of other) (range_with_len 0 (length code.execs))) (say_flat code other codes.cycles (range_with_len 0 (length code.execs))))
    ∙ ap (λ (n : ℕ). calls_on (stand_by rows site die number other d) (take count (flat_map (cycles_of other) (range_with_len 0 n)))) codes.execs

-- ---- a part

-- the calls of the first so many cycles of a try, by what the rows say, a code and a circuit
abbrev calls_by : List Row → ℕ → ℕ → ℕ → Program → Circuit → ℕ → Calls
calls_by rows site die number code c count =
    calls_on (stand_by rows site die number code c) (take count (flat_map (cycles_of code) (range_with_len 0 (length code.execs))))

calls_of_try-by : (part : Part) (die number count : ℕ)
    → calls_of_try part die number count
    ≡ calls_by part.rows part.site die number part.code (circuit_in part die) count
unfolding calls_of_try all_cycles skews_in image_in
calls_of_try-by part _ _ _ = refl

-- tries of parts that are alike make the same calls
pub try_calls_alike : (part other : Part) → ArePartsAlike part other → (die number count : ℕ) → die < dies_in part
    → calls_of_try part die number count ≡ calls_of_try other die number count
try_calls_alike part other alike die number count planned =
    calls_of_try-by part die number count
    ∙ calls_of_first part.rows part.site die number part.code other.code (circuit_in part die) (circuit_in other die)
    alike.code (alike.circuits die planned) count
    ∙ (λ i. calls_by (alike.rows i) (alike.site i) die number other.code (circuit_in other die) count)
    ∙ sym (calls_of_try-by other die number count)
