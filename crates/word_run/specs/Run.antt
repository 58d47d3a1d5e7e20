-- What a run of up to 64 dies comes to. No public clause cites it.
use Rattle.std.specs.Prelude.{◌≡◌, ℕ, ◌+◌, ◌-◌, ◌<◌, Bool, true, false, List, length, map, Option, ◌∷◌}
use Rattle.std.specs.List.{range_with_len}
use Rattle.std.specs.Option.{option_or}
use Rattle.tester_types.specs.declared.cycle.Cycle.{Cycle}
use Rattle.packed_code.specs.Program.{Program}
use Rattle.packed_code.specs.Cycles.{cycles_of}
use Rattle.die_sim.specs.Die.{Device}
use Rattle.site_meaning.specs.Playing.{Going}
use Rattle.cycle_run.specs.declared.setup.Setup.{Setup}
use Rattle.cycle_run.specs.Setup.{code_in}
use Rattle.word_run.specs.declared.player.WordPlayer.{WordPlayer}
use Rattle.word_run.specs.First.{first_from}
use Rattle.word_run.specs.Player.{stand_with, found_in, StandsIn, IsBefore, PlaysLanes}

-- the cycles of the executives from this one on
abbrev pub execs_left : Program → ℕ → List (List Cycle)
execs_left code exec = map (cycles_of code) (range_with_len exec (length code.execs - exec))

-- what is found in a lane, where it comes to this die in these executives from here on
abbrev pub comes_to : Setup → WordPlayer → ℕ → Device → Going → ℕ → List (List Cycle) → Option ℕ
comes_to setup player lane device going exec execs =
    option_or (found_in player lane) (first_from (stand_with setup device) exec going execs)

-- the first fail of each die is found, whatever executives follow
pub record FindsAll (setup : Setup) (exec : ℕ) (old new : WordPlayer) : Type 0 where
  pub count : length new.firsts.items ≡ length old.firsts.items
  pub lanes : (lane : ℕ) (device : Device) (going : Going) (later : List (List Cycle)) → lane < 64
      → lane < length old.firsts.items → StandsIn old lane device going
      → found_in new lane ≡ comes_to setup old lane device going exec (cycles_of (code_in setup) exec ∷ later)

-- all cycles of an executive are played
pub record PlaysExec (setup : Setup) (exec : ℕ) (old new : WordPlayer) : Type 0 where
  pub plays : PlaysLanes setup exec (cycles_of (code_in setup) exec) old new
  pub before : IsBefore setup (exec + 1) new

-- an executive is run up to where each die has a fail
abbrev pub RunsExec : Setup → ℕ → WordPlayer → WordPlayer → Bool → Type 0
RunsExec setup exec old new true = FindsAll setup exec old new
RunsExec setup exec old new false = PlaysExec setup exec old new

-- a die whose try began with this stands in its lane still, and comes to what it came to then
pub record IsLeft (setup : Setup) (exec : ℕ) (old new : WordPlayer) (lane : ℕ) (device : Device) (going : Going) :
    Type 0 where
  pub now : Going
  pub stands : StandsIn new lane device now
  pub rest : comes_to setup old lane device going 0 (execs_left (code_in setup) 0)
      ≡ comes_to setup new lane device now exec (execs_left (code_in setup) exec)

-- all executives are run
pub record RunsAll (setup : Setup) (old new : WordPlayer) : Type 0 where
  pub count : length new.firsts.items ≡ length old.firsts.items
  pub lanes : (lane : ℕ) (device : Device) (going : Going) → lane < 64 → lane < length old.firsts.items
      → StandsIn old lane device going
      → found_in new lane ≡ comes_to setup old lane device going 0 (execs_left (code_in setup) 0)
