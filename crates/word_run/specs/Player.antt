-- 64 dies between two cycles, and what cycles that are played change. No public clause cites it.
use Rattle.std.specs.Prelude.{◌≡◌, ℕ, ◌+◌, ◌*◌, ◌-◌, ◌^◌, ◌<◌, ◌≤◌, List, length, Option, None, is_none, slice_index_or}
use Rattle.std.specs.Int.{bit_at}
use Rattle.std.specs.Option.{option_or}
use Rattle.tester_types.specs.declared.cycle.Cycle.{Cycle}
use Rattle.die_sim.specs.Die.{Device, device_of}
use Rattle.die_sim.specs.declared.image.StuckAt.{StuckAt}
use Rattle.site_meaning.specs.Playing.{Stand, Going, along_of, starting}
use Rattle.site_meaning.specs.Trials.{played, after_cycles, fails_in}
use Rattle.cycle_run.specs.Cycle.{stand_of}
use Rattle.cycle_run.specs.Step.{HoldsSchedules}
use Rattle.cycle_run.specs.declared.setup.Setup.{Setup}
use Rattle.cycle_run.specs.Setup.{code_in}
use Rattle.die_words.specs.Lane.{bit}
use Rattle.word_run.specs.declared.player.WordPlayer.{WordPlayer}
use Rattle.word_run.specs.First.{first_fail, with_fault}
use Rattle.word_run.specs.Board.{IsBoardOf, StandsAt}

-- ---- where the dies stand

-- what a try of this die runs on
abbrev pub stand_with : Setup → Device → Stand
stand_with setup device = stand_of (code_in setup) setup.skews.now device

-- the die of an image with a fault
abbrev pub device_with : Setup → StuckAt → Device
device_with setup fault = device_of (with_fault setup.image.now fault)

-- the first failing cycle that was found in a lane, none so far where there is none
abbrev pub found_in : WordPlayer → ℕ → Option ℕ
found_in player lane = slice_index_or player.firsts.items lane None

-- in a lane stands this die, with what goes along with it, and the lane is alive where no fail was found in it
pub record StandsIn (player : WordPlayer) (lane : ℕ) (device : Device) (going : Going) : Type 0 where
  pub at : StandsAt player.board lane device (along_of going)
  pub number : going.number ≡ player.number
  pub alive : bit_at player.alive lane ≡ bit (is_none (found_in player lane))

-- so many more cycles can be played
pub record CanPlay (setup : Setup) (more : ℕ) (player : WordPlayer) : Type 0 where
  pub board : IsBoardOf setup.image.now player.board
  pub holds : HoldsSchedules (code_in setup) setup.skews.now player.schedules
  pub lanes : length player.firsts.items ≤ 64
  pub few : player.number + more < 2 ^ 64

-- ---- what cycles change

-- the die of a lane goes on through these cycles, and its first fail is found
pub record PlaysLane (setup : Setup) (exec : ℕ) (cycles : List Cycle) (old new : WordPlayer) (lane : ℕ)
    (device : Device) (going : Going) : Type 0 where
  pub stands : StandsIn new lane device (after_cycles (stand_with setup device) going cycles)
  pub found : found_in new lane
      ≡ option_or (found_in old lane) (first_fail (fails_in (played (stand_with setup device) exec going cycles)))

-- those of all lanes do
pub record PlaysLanes (setup : Setup) (exec : ℕ) (cycles : List Cycle) (old new : WordPlayer) : Type 0 where
  pub count : length new.firsts.items ≡ length old.firsts.items
  pub lanes : (lane : ℕ) (device : Device) (going : Going) → lane < 64 → lane < length old.firsts.items
      → StandsIn old lane device going → PlaysLane setup exec cycles old new lane device going

-- ---- a run

-- before an executive
abbrev pub IsBefore : Setup → ℕ → WordPlayer → Type 0
IsBefore setup exec player = CanPlay setup (281474976710656 * (length (code_in setup).execs - exec)) player

-- before the first one there is a lane for each of these faults, and no fail was found
pub record StartsSo (setup : Setup) (faults : List StuckAt) (player : WordPlayer) : Type 0 where
  pub before : IsBefore setup 0 player
  pub count : length player.firsts.items ≡ length faults
  pub none : (lane : ℕ) → found_in player lane ≡ None
  pub lanes : (lane : ℕ) (d : StuckAt) → lane < length faults
      → StandsIn player lane (device_with setup (slice_index_or faults lane d))
      (starting (device_with setup (slice_index_or faults lane d)))
