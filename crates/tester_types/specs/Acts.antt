-- The acts of waveforms, each by its letter, its names and its number (IEEE 1450-1999, clause 18).
use Rattle.std.specs.Prelude.{ℕ, List, [], ◌∷◌, ◌==◌, codes, map, Option}
use Rattle.std.specs.List.{find}
use Rattle.tester_types.specs.declared.act.TheConstants.{ACT_NAMES}
use Rattle.tester_types.specs.declared.wave.Act.{Act}
use Rattle.tester_types.specs.declared.wave.Act.TheVariants.{Push, Look}
use Rattle.tester_types.specs.declared.wave.Push as drive
use Rattle.tester_types.specs.declared.wave.Push.TheVariants as push
use Rattle.tester_types.specs.declared.wave.Look as compare
use Rattle.tester_types.specs.declared.wave.Look.TheVariants as look

-- the letter of a drive: ForceDown, ForceUp, ForceOff, ForceUnknown, ForcePrior
abbrev pub push_letter : drive.Push → List ℕ
push_letter push.Down = codes "D"
push_letter push.Up = codes "U"
push_letter push.Off = codes "Z"
push_letter push.Unknown = codes "N"
push_letter push.Prior = codes "P"

-- the letter of a look: CompareLow, CompareHigh, CompareOff, the same as windows, CompareUnknown
abbrev pub look_letter : compare.Look → List ℕ
look_letter look.Low = codes "L"
look_letter look.High = codes "H"
look_letter look.Off = codes "T"
look_letter look.LowWindow = codes "l"
look_letter look.HighWindow = codes "h"
look_letter look.OffWindow = codes "t"
look_letter look.Close = codes "X"

-- the acts by their letters and their long names; `x` and `X` are one
abbrev pub act_names : List (List ℕ × Act)
act_names = map (λ row. (row.0.now, row.1)) ACT_NAMES

-- an act's number
abbrev pub act_code : Act → ℕ
act_code (Push push.Down) = 1
act_code (Push push.Up) = 2
act_code (Push push.Off) = 3
act_code (Push push.Unknown) = 4
act_code (Push push.Prior) = 5
act_code (Look look.Low) = 6
act_code (Look look.High) = 7
act_code (Look look.Close) = 8
act_code (Look look.Off) = 9
act_code (Look look.LowWindow) = 10
act_code (Look look.HighWindow) = 11
act_code (Look look.OffWindow) = 12

-- the acts in the order of their numbers
abbrev pub acts : List Act
acts =
    Push push.Down ∷ Push push.Up ∷ Push push.Off ∷ Push push.Unknown ∷ Push push.Prior
    ∷ Look look.Low ∷ Look look.High ∷ Look look.Close ∷ Look look.Off
    ∷ Look look.LowWindow ∷ Look look.HighWindow ∷ Look look.OffWindow ∷ []

-- the act of a number
abbrev pub act_of : ℕ → Option Act
act_of n = find (λ act. act_code act == n) acts
