-- The lines with their nets by numbers, and what they say of each net; no public clause cites it.
use Rattle.std.specs.Prelude.{◌≡◌, ◌==◌, ℕ, ◌<◌, ◌≤◌, Bool, true, not, if◌then◌else◌, List, [], ◌∷◌, ◌++◌, length, map, fold, replicate, false, slice_index, slice_index_or, slice_set, Option, Some, None}
use Rattle.std.specs.List.{filter_map}
use Rattle.std.specs.Option.{option_or}
use Rattle.text_bytes.specs.Texts.{added}
use Rattle.text_bytes.specs.Limits.{most_nets}
use Rattle.bench_net.specs.declared.fault.NetFault.{NetFault}
use Rattle.bench_net.specs.declared.fault.NetFault.TheVariants.{Twice}
use Rattle.bench_net.specs.declared.gate.Driver.{Driver}
use Rattle.bench_net.specs.declared.gate.Driver.TheVariants.{Input}
use Rattle.bench_net.specs.declared.numbers.Numbered.{Numbered}
use Rattle.bench_net.specs.declared.numbers.Numbered.TheVariants.{Nothing, Drives, Shows}
use Rattle.bench_net.specs.Circuit.{Net, number}
use Rattle.bench_net.specs.Wiring.{IsReached}
use Rattle.bench_net.specs.Line.{Form, nothing, input, output, gate}
use Rattle.bench_net.specs.Net.{named, function_driver, head_of, net_of, IsDriven}

-- what a line says, its nets by their numbers among all names
abbrev pub numbered : List (List ℕ) → Form → Numbered
numbered all nothing = Nothing
numbered all (input n) = Drives (number all n) Input
numbered all (output n) = Shows (number all n)
numbered all (gate n f pins) = Drives (number all n) (function_driver f (map (number all) pins))

-- the number of a name once it and any others stand behind those before, where all are within the limit
abbrev pub IsNumber : List (List ℕ) → List ℕ → ℕ → Type 0
IsNumber before name n = (more : List (List ℕ)) → length (fold added before (name ∷ more)) ≤ most_nets
    → n ≡ number (fold added before (name ∷ more)) name

-- so the numbers of several names
abbrev pub AreNumbers : List (List ℕ) → List (List ℕ) → List ℕ → Type 0
AreNumbers before pins ns = (more : List (List ℕ)) → length (fold added before (pins ++ more)) ≤ most_nets
    → ns ≡ map (number (fold added before (pins ++ more))) pins

-- so what a line says
abbrev pub IsNumbered : List (List ℕ) → Form → Numbered → Type 0
IsNumbered before form line = (more : List (List ℕ)) → length (fold added before (named form ++ more)) ≤ most_nets
    → line ≡ numbered (fold added before (named form ++ more)) form

-- the net that a line gives a driver
abbrev pub driven_net : Numbered → Option ℕ
driven_net Nothing = None
driven_net (Drives n d) = Some n
driven_net (Shows n) = None

-- the net that a line names as an output
abbrev pub shown_net : Numbered → Option ℕ
shown_net Nothing = None
shown_net (Drives n d) = None
shown_net (Shows n) = Some n

-- the marks with that of a net, if it is one
abbrev pub with_mark : List Bool → Option ℕ → List Bool
with_mark marks None = marks
with_mark marks (Some n) = slice_set marks n true

-- the net that is marked already, if it is one
abbrev pub twice_at : List Bool → Option ℕ → Option ℕ
twice_at marks None = None
twice_at marks (Some n) = if slice_index_or marks n false then Some n else None

-- the first net that is marked already, where one after the other is
abbrev pub first_twice : List Bool → List (Option ℕ) → Option ℕ
first_twice marks [] = None
first_twice marks (net ∷ nets) = option_or (twice_at marks net) (first_twice (with_mark marks net) nets)

-- the lines give one of so many nets a second driver, and it is the first such
pub record IsTwice (count : ℕ) (all : List (List ℕ)) (lines : List Numbered) (fault : NetFault) : Type 0 where
  pub net : ℕ
  pub fault_is : fault ≡ Twice (slice_index_or all net [])
  pub twice : first_twice (replicate count false) (map driven_net lines) ≡ Some net

-- the lines give none of so many nets a second driver, and these are the marks of those that have one
pub record AreMarked (count : ℕ) (lines : List Numbered) (marks : List Bool) : Type 0 where
  pub once : first_twice (replicate count false) (map driven_net lines) ≡ None
  pub marks_are : marks ≡ fold with_mark (replicate count false) (map driven_net lines)

-- the drivers with the one that a line gives
abbrev pub with_driver : List Driver → Numbered → List Driver
with_driver drivers Nothing = drivers
with_driver drivers (Drives n d) = slice_set drivers n d
with_driver drivers (Shows n) = drivers

-- the drivers that lines give, the last line's first, so that the first line's stays
abbrev pub placed : List Driver → List Numbered → List Driver
placed drivers [] = drivers
placed drivers (l ∷ ls) = with_driver (placed drivers ls) l

-- whether the net of a name isn't marked
abbrev pub lacks : List (List ℕ) → List Bool → List ℕ → Bool
lacks all marks name = not (slice_index_or marks (number all name) false)

-- the net of a line whose function waits for a gate
abbrev pub looped : List (List ℕ) → List ℕ → Form → Option (List ℕ)
looped all left nothing = None
looped all left (input n) = None
looped all left (output n) = None
looped all left (gate n f pins) = if not (slice_index left (number all n) == 0) then Some n
    else None

-- the net of the first such line
abbrev pub loop_fault : List (List ℕ) → List ℕ → List Form → Option (List ℕ)
loop_fault all left forms = head_of (filter_map (looped all left) forms)

-- a function reads one net at least
abbrev pub HasPins : Form → Type 0
HasPins nothing = Unit {0}
HasPins (input n) = Unit {0}
HasPins (output n) = Unit {0}
HasPins (gate n f pins) = 0 < length pins

-- the lines name this net list, in which each net is reached
pub record IsNetOf (forms : List Form) (net : Net) : Type 0 where
  pub driven_once : IsDriven forms
  pub net_is : net ≡ net_of forms
  pub reached : (n : ℕ) → n < length net.names → IsReached net.drivers n
