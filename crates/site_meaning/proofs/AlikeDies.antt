-- Dies of one netlist step alike, whatever order their gates lie in, and cycles that say the same are played alike on them.
use Rattle.std.proofs.Common.{◌≡◌, ℕ, ◌+◌, cond, List, [], ◌∷◌, ◌++◌, map, Option, refl, ap, ◌∙◌}
use Rattle.std.proofs.Common.{ℤ, slice_get}
use Rattle.std.specs.Option.{option_map_or}
use Rattle.tester_types.specs.declared.cycle.Cycle.{Cycle}
use Rattle.tester_types.specs.declared.cycle.Moment.{Moment}
use Rattle.tester_types.specs.declared.level.Level.{Level}
use Rattle.tester_types.specs.declared.level.Drive.{Drive}
use Rattle.tester_types.specs.declared.wave.Table.{Table}
use Rattle.packed_code.specs.Program.{Program}
use Rattle.packed_code.specs.Cycles.{period_of}
use Rattle.packed_code.specs.Conditions.{characters_of}
use Rattle.bench_net.specs.Circuit.{Net, Circuit, IsWhole}
use Rattle.edge_gen.specs.Moments.{moments_of}
use Rattle.die_sim.specs.Die.{Device, State}
use Rattle.die_sim.specs.declared.image.Bind.{Bind}
use Rattle.die_sim.specs.Stepped.{settled_levels, first_state, stepped}
use Rattle.die_sim.proofs.SettledLemmas.{one_settled_netlist}
use Rattle.die_sim.proofs.SettlingLemmas.{settles}
use Rattle.strobe_check.specs.Entry.{Entry}
use Rattle.strobe_check.specs.Fails.{fails}
use Rattle.site_meaning.specs.Playing.{Stand, Going, Along, Whose, PlayedMoment, PlayedCycle, starting, along_of, driven, bound_of, after_moment, after_moments, entry_of, entries_in, moments_in, played_moment, moments_played, played_cycle, after_cycle}
use Rattle.site_meaning.specs.Trials.{Batch, played, after_cycles, has_fails, pieces, of_exec, tried}
use Rattle.site_meaning.specs.Alike.{SaidCycle, said_by}

-- ---- cycles that say the same

-- two cycles, each with its row read among its own
abbrev pub Say : List (List ℕ) → List (List ℕ) → Cycle → Cycle → Type 0
Say rows rows' c c' = said_by rows c ≡ said_by rows' c'

-- all cycles, one by one
abbrev pub SayAll : List (List ℕ) → List (List ℕ) → List Cycle → List Cycle → Type 0
SayAll rows rows' [] [] = Unit {0}
SayAll rows rows' [] (c' ∷ cs') = ⊥
SayAll rows rows' (c ∷ cs) [] = ⊥
SayAll rows rows' (c ∷ cs) (c' ∷ cs') = Say rows rows' c c' × SayAll rows rows' cs cs'

-- and those of all executives
abbrev pub SayExecs : List (List ℕ) → List (List ℕ) → List (List Cycle) → List (List Cycle) → Type 0
SayExecs rows rows' [] [] = Unit {0}
SayExecs rows rows' [] (cs' ∷ later') = ⊥
SayExecs rows rows' (cs ∷ later) [] = ⊥
SayExecs rows rows' (cs ∷ later) (cs' ∷ later') = SayAll rows rows' cs cs' × SayExecs rows rows' later later'

pub say_all : (rows rows' : List (List ℕ)) (cs cs' : List Cycle) → map (said_by rows) cs ≡ map (said_by rows') cs' → SayAll rows rows' cs cs'
say_all rows rows' [] [] same = tt
say_all rows rows' [] (c' ∷ cs') same = absurd (none_some same)
  where
    none_some : [] ≡ map (said_by rows') (c' ∷ cs') → ⊥
    none_some e = cc
say_all rows rows' (c ∷ cs) [] same = absurd (some_none same)
  where
    some_none : map (said_by rows) (c ∷ cs) ≡ [] → ⊥
    some_none e = cc
say_all rows rows' (c ∷ cs) (c' ∷ cs') same = (head_is same, say_all rows rows' cs cs' (tail_is same))
  where
    head_is : said_by rows c ∷ map (said_by rows) cs ≡ said_by rows' c' ∷ map (said_by rows') cs' → said_by rows c ≡ said_by rows' c'
    head_is e = cc

    tail_is : said_by rows c ∷ map (said_by rows) cs ≡ said_by rows' c' ∷ map (said_by rows') cs'
        → map (said_by rows) cs ≡ map (said_by rows') cs'
    tail_is e = cc

-- ---- two dies of one netlist

-- with their gates in orders of their own
module _ (net : Net) (order order' : List ℕ) (readers readers' : List (List ℕ)) (clock : Option ℕ) (binds : List Bind)
    (fixed : List (Option Level)) where
  abbrev pub one : Circuit
  one = record { net = net; order = order; readers = readers }

  abbrev pub other : Circuit
  other = record { net = net; order = order'; readers = readers' }

  abbrev pub die : Device
  die = record { circuit = one; clock = clock; binds = binds; fixed = fixed }

  abbrev pub twin : Device
  twin = record { circuit = other; clock = clock; binds = binds; fixed = fixed }

  module _ (whole : IsWhole one) (whole' : IsWhole other) where
    settled_alike : (held : List Level) → settled_levels one fixed held ≡ settled_levels other fixed held
    settled_alike held =
        one_settled_netlist one whole fixed held (settled_levels one fixed held) (settled_levels other fixed held)
        (settles one whole fixed held) (settles other whole' fixed held)

    first_alike : first_state die ≡ first_state twin
    first_alike = λ i. record {
      clock = (first_state die).clock;
      held = (first_state die).held;
      levels = settled_alike (first_state die).held i;
    }

    step_alike : (s : State) (drives : List (ℕ × Drive)) → stepped die s drives ≡ stepped twin s drives
    step_alike s drives = λ i. record {
      clock = (stepped die s drives).clock;
      held = (stepped die s drives).held;
      levels = settled_alike (stepped die s drives).held i;
    }

    -- ---- moments

    moment_alike : (along : Along) (m : Moment) → after_moment die along m ≡ after_moment twin along m
    moment_alike along m = λ i. record {
      die = step_alike along.die (driven die along.priors m) i;
      priors = (after_moment die along m).priors;
    }

    moments_alike : (along : Along) (ms : List Moment) → after_moments die along ms ≡ after_moments twin along ms
    unfolding after_moments
    moments_alike along [] = refl
    moments_alike along (m ∷ ms) =
        moments_alike (after_moment die along m) ms ∙ ap (λ (a : Along). after_moments twin a ms) (moment_alike along m)

    entries_alike : (whose : Whose) (along : Along) (ms : List Moment) → entries_in die whose along ms ≡ entries_in twin whose along ms
    unfolding entries_in
    entries_alike whose along [] = refl
    entries_alike whose along (m ∷ ms) =
        ap (λ (l : List Entry). entry_of die whose m (after_moment die along m).die ∷ l) (entries_alike whose (after_moment die along m) ms)
        ∙ ap (λ (a : Along). entry_of twin whose m a.die ∷ entries_in twin whose a ms) (moment_alike along m)

    played_alike : (whose : Whose) (along : Along) (before : List Entry) (ms : List Moment)
        → moments_played die whose along before ms ≡ moments_played twin whose along before ms
    unfolding moments_played
    played_alike whose along before [] = refl
    played_alike whose along before (m ∷ ms) =
        ap (λ (l : List PlayedMoment). played_moment die along before m ∷ l)
        (played_alike whose (after_moment die along m) (before ++ entry_of die whose m (after_moment die along m).die ∷ []) ms)
        ∙ ap (λ (a : Along). played_moment twin along before m
        ∷ moments_played twin whose a (before ++ entry_of twin whose m a.die ∷ []) ms) (moment_alike along m)

    -- ---- cycles of codes that say the same

    module _ (code code' : Program) (skews : List ℤ) (tables : code.tables ≡ code'.tables) where
      abbrev pub stand : Stand
      stand = record { code = code; skews = skews; device = die }

      abbrev pub twins : Stand
      twins = record { code = code'; skews = skews; device = twin }

      -- the moments of a table, where there is one
      at_time : List Table → ℕ → List ℕ → ℕ → List Moment
      at_time all table characters time = option_map_or (λ t. moments_of t characters skews time) (slice_get all table) []

      moments_in_alike : (time : ℕ) (c c' : Cycle) → Say code.rows code'.rows c c' → moments_in stand time c ≡ moments_in twins time c'
      unfolding moments_in at_time
      moments_in_alike time c c' says =
          ap (λ (l : List Table). at_time l c.table (characters_of code.rows c.row) time) tables
          ∙ ap (λ (s : SaidCycle). at_time code'.tables s.table s.characters time) says

      -- a cycle by the moments that it has
      by_moments : Device → ℕ → Going → ℕ → List Moment → PlayedCycle
      by_moments device exec going mark ms = record {
        moments = moments_played device (record { exec = exec; cycle = going.number; mark = mark }) (along_of going) [] ms;
        fails = fails (bound_of device)
            (entries_in device (record { exec = exec; cycle = going.number; mark = mark }) (along_of going) ms);
      }

      by_alike : (exec : ℕ) (going : Going) (mark : ℕ) (ms : List Moment) → by_moments die exec going mark ms ≡ by_moments twin exec going mark ms
      unfolding by_moments
      by_alike exec going mark ms = λ i. record {
        moments = played_alike (record { exec = exec; cycle = going.number; mark = mark }) (along_of going) [] ms i;
        fails = fails (bound_of die)
            (entries_alike (record { exec = exec; cycle = going.number; mark = mark }) (along_of going) ms i);
      }

      cycle_alike : (exec : ℕ) (going : Going) (c c' : Cycle) → Say code.rows code'.rows c c' → played_cycle stand exec going c ≡ played_cycle twins exec going c'
      unfolding by_moments
      cycle_alike exec going c c' says =
          by_alike exec going c.mark (moments_in stand going.time c)
          ∙ ap (λ (ms : List Moment). by_moments twin exec going c.mark ms) (moments_in_alike going.time c c' says)
          ∙ ap (λ (s : SaidCycle). by_moments twin exec going s.mark (moments_in twins going.time c')) says

      after_alike : (going : Going) (c c' : Cycle) → Say code.rows code'.rows c c' → after_cycle stand going c ≡ after_cycle twins going c'
      after_alike going c c' says =
          let along : after_moments die (along_of going) (moments_in stand going.time c)
          ≡ after_moments twin (along_of going) (moments_in twins going.time c') =
          moments_alike (along_of going) (moments_in stand going.time c)
          ∙ ap (λ (ms : List Moment). after_moments twin (along_of going) ms) (moments_in_alike going.time c c' says) in
          let period : period_of code.tables c.table ≡ period_of code'.tables c'.table =
          ap (λ (l : List Table). period_of l c.table) tables ∙ ap (λ (s : SaidCycle). period_of code'.tables s.table) says in
          λ i. record {
            die = (along i).die;
            priors = (along i).priors;
            time = going.time + period i;
            number = going.number + 1;
          }

      cycles_alike : (exec : ℕ) (going : Going) (cs cs' : List Cycle) → SayAll code.rows code'.rows cs cs' → played stand exec going cs ≡ played twins exec going cs'
      unfolding played
      cycles_alike exec going [] [] all = refl
      cycles_alike exec going [] (c' ∷ cs') all = absurd all
      cycles_alike exec going (c ∷ cs) [] all = absurd all
      cycles_alike exec going (c ∷ cs) (c' ∷ cs') all =
          ap (λ (l : List PlayedCycle). played_cycle stand exec going c ∷ l) (cycles_alike exec (after_cycle stand going c) cs cs' all.1)
          ∙ ap (λ (g : Going). played_cycle stand exec going c ∷ played twins exec g cs') (after_alike going c c' all.0)
          ∙ ap (λ (p : PlayedCycle). p ∷ played twins exec (after_cycle twins going c') cs') (cycle_alike exec going c c' all.0)

      behind_alike : (going : Going) (cs cs' : List Cycle) → SayAll code.rows code'.rows cs cs' → after_cycles stand going cs ≡ after_cycles twins going cs'
      unfolding after_cycles
      behind_alike going [] [] all = refl
      behind_alike going [] (c' ∷ cs') all = absurd all
      behind_alike going (c ∷ cs) [] all = absurd all
      behind_alike going (c ∷ cs) (c' ∷ cs') all =
          behind_alike (after_cycle stand going c) cs cs' all.1
          ∙ ap (λ (g : Going). after_cycles twins g cs') (after_alike going c c' all.0)

      pub tried_alike : (more exec : ℕ) (going : Going) (execs execs' : List (List Cycle)) → SayExecs code.rows code'.rows execs execs'
          → tried stand more exec going execs ≡ tried twins more exec going execs'
      unfolding tried
      tried_alike more exec going [] [] all = refl
      tried_alike more exec going [] (cs' ∷ later') all = absurd all
      tried_alike more exec going (cs ∷ later) [] all = absurd all
      tried_alike more exec going (cs ∷ later) (cs' ∷ later') all =
          ap (λ (rest : List Batch). front (played stand exec going cs) rest)
          (tried_alike more (exec + 1) (after_cycles stand going cs) later later' all.1)
          ∙ ap (λ (g : Going). front (played stand exec going cs) (tried twins more (exec + 1) g later')) (behind_alike going cs cs' all.0)
          ∙ ap (λ (l : List PlayedCycle). front l (tried twins more (exec + 1) (after_cycles twins going cs') later'))
          (cycles_alike exec going cs cs' all.0)
        where
          front : List PlayedCycle → List Batch → List Batch
          front l rest = of_exec exec (pieces more more l) ++ cond (has_fails l) [] rest

      pub starting_alike : starting die ≡ starting twin
      starting_alike = λ i. record {
        die = first_alike i;
        priors = (starting die).priors;
        time = 0;
        number = 0;
      }
