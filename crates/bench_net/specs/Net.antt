-- The net list that the lines of a bench text name.
use Rattle.std.specs.Prelude.{◌≡◌, ℕ, ◌<◌, ◌≤◌, Bool, false, not, List, [], ◌∷◌, ◌++◌, length, map, fold, Option, Some, None, if◌then◌else◌}
use Rattle.std.specs.List.{list_any, flat_map, filter_map, find, AllZip}
use Rattle.std.specs.Option.{option_map_or}
use Rattle.std.specs.Str.{bytes_eq}
use Rattle.std.specs.Str.Lines.{lines}
use Rattle.text_bytes.specs.Texts.{added}
use Rattle.text_bytes.specs.Limits.{most_nets}
use Rattle.bench_net.specs.Gates.{takes_not}
use Rattle.bench_net.specs.declared.gate.Function.{Function}
use Rattle.bench_net.specs.declared.gate.Function.TheVariants.{Logic, Register}
use Rattle.bench_net.specs.declared.gate.Driver.{Driver}
use Rattle.bench_net.specs.declared.gate.Driver.TheVariants.{Input, Dff, Gate}
use Rattle.bench_net.specs.Wiring.{IsReached}
use Rattle.bench_net.specs.Circuit.{Net, number}
use Rattle.bench_net.specs.Line.{Form, nothing, input, output, gate, Says}

-- what the text says, line by line; a line ends at a line feed, and a carriage return directly
-- before it belongs to the end
abbrev pub Reads : List ℕ → List Form → Type 0
Reads bytes forms = AllZip Says (lines bytes) forms

-- the nets that a line names, in written order
abbrev pub named : Form → List (List ℕ)
named nothing = []
named (input n) = n ∷ []
named (output n) = n ∷ []
named (gate n f pins) = n ∷ pins

-- the nets' names in the order in which the text first names them; a net's number is its place
abbrev pub names : List Form → List (List ℕ)
names forms = fold added [] (flat_map named forms)

-- the net that a line gives a driver
abbrev pub driven : Form → Option (List ℕ)
driven nothing = None
driven (input n) = Some n
driven (output n) = None
driven (gate n f pins) = Some n

-- the nets that a line uses: an output, and what a function reads
abbrev pub used : Form → List (List ℕ)
used nothing = []
used (input n) = []
used (output n) = n ∷ []
used (gate n f pins) = pins

-- a function of these nets as a driver
abbrev pub function_driver : Function → List ℕ → Driver
function_driver (Logic kind) pins = Gate kind pins
function_driver Register [] = Input
function_driver Register (d ∷ pins) = Dff d

-- the driver that a line gives, its nets by their numbers
abbrev pub driver_of : List (List ℕ) → Form → Driver
driver_of all nothing = Input
driver_of all (input n) = Input
driver_of all (output n) = Input
driver_of all (gate n f pins) = function_driver f (map (number all) pins)

-- whether the line gives the net a driver
abbrev pub drives : List ℕ → Form → Bool
drives name form = option_map_or (bytes_eq name) (driven form) false

-- the net that a line names as an output
abbrev pub shown : Form → Option (List ℕ)
shown nothing = None
shown (input n) = None
shown (output n) = Some n
shown (gate n f pins) = None

-- the driver that the lines give the net
abbrev pub driver_for : List Form → List ℕ → Driver
driver_for forms name = option_map_or (driver_of (names forms)) (find (drives name) forms) Input

-- the net list of the lines
abbrev pub net_of : List Form → Net
net_of forms = record {
  names = names forms;
  drivers = map (driver_for forms) (names forms);
  outputs = map (λ name. list_any (bytes_eq name) (filter_map shown forms)) (names forms);
}

-- the net of a line whose function can't take so many nets
abbrev pub wrong_arity : Form → Option (List ℕ)
wrong_arity nothing = None
wrong_arity (input n) = None
wrong_arity (output n) = None
wrong_arity (gate n f pins) = if takes_not f (length pins) then Some n else None

-- the first of the names that is among those before it
abbrev pub first_repeat : List (List ℕ) → List (List ℕ) → Option (List ℕ)
first_repeat before [] = None
first_repeat before (n ∷ ns) = if list_any (bytes_eq n) before then Some n
    else first_repeat (before ++ n ∷ []) ns

-- the first of some
abbrev pub head_of : List (List ℕ) → Option (List ℕ)
head_of [] = None
head_of (n ∷ ns) = Some n

-- the net of the first line whose function can't take so many nets
abbrev pub arity_fault : List Form → Option (List ℕ)
arity_fault forms = head_of (filter_map wrong_arity forms)

-- the net of the first line that gives a net a second driver
abbrev pub twice_fault : List Form → Option (List ℕ)
twice_fault forms = first_repeat [] (filter_map driven forms)

-- whether no line gives the net a driver
abbrev pub is_missing : List Form → List ℕ → Bool
is_missing forms name = not (list_any (bytes_eq name) (filter_map driven forms))

-- the first use, in text order, of a net without a driver
abbrev pub missing_fault : List Form → Option (List ℕ)
missing_fault forms = find (is_missing forms) (flat_map used forms)

-- the lines name at most 65,536 nets, and each net has one driver, of as many nets as it takes
pub record IsDriven (forms : List Form) : Type 0 where
  pub in_range : length (names forms) ≤ most_nets
  pub arity : arity_fault forms ≡ None
  pub once : twice_fault forms ≡ None
  pub all : missing_fault forms ≡ None

-- the text names this net list, in which each net is reached from inputs and flip-flops
pub record IsNet (bytes : List ℕ) (net : Net) : Type 0 where
  pub forms : List Form
  pub reads : Reads bytes forms
  pub driven_once : IsDriven forms
  pub net_is : net ≡ net_of forms
  pub reached : (n : ℕ) → n < length net.names → IsReached net.drivers n
