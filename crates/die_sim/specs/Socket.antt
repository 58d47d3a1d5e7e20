-- What a socket tells of itself: what is loaded, the die's state, the tape of its drives if it keeps one, and the
-- count of its faults.
use Rattle.std.specs.Prelude.{◌≡◌, ◌≢◌, ◌+◌, ◌≤◌, ℕ, true, Option, Some, None, List, [], ◌∷◌, ◌++◌, ◌⊎◌, length}
use Rattle.tester_types.specs.Memory.{one_more}
use Rattle.tester_types.specs.declared.level.Level.{Level}
use Rattle.tester_types.specs.declared.level.Level.TheVariants.{X}
use Rattle.tester_types.specs.declared.level.Drive.{Drive}
use Rattle.die_sim.specs.Die.{Image, Device, State, Die, device_of, IsOfNet, IsFresh, IsBoundTo, is_clock, bind_at, level_of}
use Rattle.die_sim.specs.Moment.{AreDrives, IsStep}
use Rattle.die_sim.specs.Tape.{TapeState}

-- the drive calls of a tape: the instant of each, and its drives
abbrev pub Calls : Type 0
Calls = List (ℕ × List (ℕ × Drive))

-- what a socket tells; no tape where it keeps none
pub record Told : Type 0 where
  pub loaded : Option Device
  pub state : State
  pub tape : Option (List (ℕ × List (ℕ × Drive)))
  pub count : ℕ

-- the state of no die
abbrev pub no_state : State
no_state = record { clock = X; held = []; levels = [] }

-- the device of a die, if there is one
abbrev pub loaded_of : Option Die → Option Device
loaded_of None = None
loaded_of (Some d) = Some d.device

-- the state of a die, if there is one
abbrev pub state_of : Option Die → State
state_of None = no_state
state_of (Some d) = d.state

-- a socket that holds this die, with this tape and count
abbrev pub holding : Option Die → Option (List (ℕ × List (ℕ × Drive))) → ℕ → Told
holding die tape count = record { loaded = loaded_of die; state = state_of die; tape = tape; count = count }

-- a tape after one more call
abbrev pub taped : Option (List (ℕ × List (ℕ × Drive))) → ℕ → List (ℕ × Drive) → Option (List (ℕ × List (ℕ × Drive)))
taped None at drives = None
taped (Some calls) at drives = Some (calls ++ (at, drives) ∷ [])

-- something is loaded, and these are drives of it
abbrev pub CanDrive : Option Device → List (ℕ × Drive) → Type 0
CanDrive None drives = ⊥
CanDrive (Some d) drives = AreDrives d drives

-- something is loaded, and the signal is bound to a net of it or is its clock
abbrev pub CanSense : Option Device → ℕ → Type 0
CanSense None signal = ⊥
CanSense (Some d) signal = (is_clock d.clock signal ≡ true) ⊎ IsBoundTo (bind_at d.binds signal)

-- the die that an image gives is loaded, as it is at first
pub record IsLoaded (image : Image) (now : Told) : Type 0 where
  pub loaded : now.loaded ≡ Some (device_of image)
  pub fresh : IsFresh (device_of image) now.state

-- a die is loaded that has the netlist and the binding of this image
abbrev pub HoldsNetOf : Option Die → Image → Type 0
HoldsNetOf None image = ⊥
HoldsNetOf (Some d) image = IsOfNet d.device image

-- the loaded die made one step
abbrev pub Moves : Option Device → State → State → List (ℕ × Drive) → Type 0
Moves None old new drives = ⊥
Moves (Some d) old new drives = IsStep d old new drives

-- the level is the signal's in the loaded die
abbrev pub Shows : Option Device → State → ℕ → Level → Type 0
Shows None state signal level = ⊥
Shows (Some d) state signal level = level ≡ level_of d state signal

-- what a socket with a tape holds
pub record Taping : Type 0 where
  pub die : Option Die
  pub tape : TapeState
  pub count : ℕ

-- what a socket with a tape tells
abbrev pub taping_told : Taping → Told
taping_told t = holding t.die (Some t.tape.calls) t.count

-- nothing but the die is another: the tape, its room and the count of faults are as before
pub record KeepsTape (old new : Taping) : Type 0 where
  pub tape : new.tape ≡ old.tape
  pub count : new.count ≡ old.count

-- a drive fits the room that is left, which is less then by its drives and one
pub record Fits (old new : Taping) (drives : List (ℕ × Drive)) : Type 0 where
  pub left : new.tape.left + (length drives + 1) ≡ old.tape.left
  pub count : new.count ≡ old.count

-- a drive doesn't fit: the count of faults rises by one, and die, tape and room are as before
pub record Overfills (old new : Taping) (drives : List (ℕ × Drive)) : Type 0 where
  pub full : old.tape.left ≤ length drives
  pub die : new.die ≡ old.die
  pub tape : new.tape ≡ old.tape
  pub count : new.count ≡ one_more old.count

-- what a failing socket holds: the number of the call that fails, and how many calls there were
pub record Failing : Type 0 where
  pub die : Option Die
  pub fails : ℕ
  pub calls : ℕ
  pub count : ℕ

-- what a failing socket tells
abbrev pub failing_told : Failing → Told
failing_told f = holding f.die None f.count

-- no call is counted, and the count of faults is as before
pub record Uncounted (old new : Failing) : Type 0 where
  pub calls : new.calls ≡ old.calls
  pub fails : new.fails ≡ old.fails
  pub count : new.count ≡ old.count

-- a call that passes: it is counted, and isn't the one that fails
pub record Passes (old new : Failing) : Type 0 where
  pub calls : new.calls ≡ one_more old.calls
  pub number : new.calls ≢ old.fails
  pub fails : new.fails ≡ old.fails
  pub count : new.count ≡ old.count

-- a call that fails: it is counted, it is the one that fails, and the count of faults rises by one
pub record Fails (old new : Failing) : Type 0 where
  pub calls : new.calls ≡ one_more old.calls
  pub number : new.calls ≡ old.fails
  pub fails : new.fails ≡ old.fails
  pub count : new.count ≡ one_more old.count
