-- A value change dump, in this project's profile of the format of Verilog (IEEE 1364-2005, clause 18): the text of a
-- list of vars and of a tape of drives.
use Rattle.std.specs.Prelude.{ℕ, ◌+◌, ◌/◌, ◌%◌, nat_lt, Bool, ◌&&◌, List, [], ◌∷◌, ◌++◌, map, if◌then◌else◌, codes, decimal}
use Rattle.std.specs.List.{flat_map, list_all}
use Rattle.tester_types.specs.declared.level.Drive.{Drive}
use Rattle.tester_types.specs.declared.level.Drive.TheVariants.{Down, Up, Off, Unknown}
use Rattle.text_bytes.specs.Bytes.{begins_name, begins_with, is_word}
use Rattle.die_sim.specs.Socket.{Calls}

-- a var: the number of its signal, and its name
abbrev pub Var : Type 0
Var = ℕ × List ℕ

-- a plain name: a letter or the low line, then letters, digits and low lines
abbrev pub is_plain : List ℕ → Bool
is_plain name = begins_with begins_name name && list_all is_word name

-- the name of a signal in a dump: its text where it is plain, else `s` and its number
abbrev pub name_of : ℕ → List ℕ → List ℕ
name_of signal text = if is_plain text then text else codes "s" ++ decimal signal

-- The short name of a signal: its number in base 94, the least digit first, the digit d being the byte 33 + d. A number
-- of a signal has at most two digits.
abbrev pub id_of : ℕ → List ℕ
id_of n = if nat_lt n 94 then (33 + n) ∷ [] else (33 + n % 94) ∷ (33 + n / 94) ∷ []

-- the byte of a value
abbrev pub value_of : Drive → ℕ
value_of Down = 48
value_of Up = 49
value_of Off = 122
value_of Unknown = 120

-- what a line says
pub data Line : Type 0 where
  timescale : Line
  scope : Line
  named : ℕ → List ℕ → Line
  upscope : Line
  definitions : Line
  at : ℕ → Line
  change : ℕ → Drive → Line

-- a line as it is written
abbrev pub spelled : Line → List ℕ
spelled timescale = codes "$timescale 1 fs $end"
spelled scope = codes "$scope module die $end"
spelled (named signal name) = codes "$var wire 1 " ++ (id_of signal ++ (codes " " ++ (name ++ codes " $end")))
spelled upscope = codes "$upscope $end"
spelled definitions = codes "$enddefinitions $end"
spelled (at instant) = codes "#" ++ decimal instant
spelled (change signal drive) = value_of drive ∷ id_of signal

-- a line with its line feed
abbrev pub ended : Line → List ℕ
ended line = spelled line ++ 10 ∷ []

-- the text of lines
abbrev pub text_of : List Line → List ℕ
text_of lines = flat_map ended lines

-- the line of a var
abbrev pub line_of_var : Var → Line
line_of_var var = named var.0 var.1

-- the line of a drive
abbrev pub line_of_drive : ℕ × Drive → Line
line_of_drive given = change given.0 given.1

-- the lines of a drive call: its instant, and its drives
abbrev pub lines_of_call : ℕ × List (ℕ × Drive) → List Line
lines_of_call call = at call.0 ∷ map line_of_drive call.1

-- the lines in front of the calls
abbrev pub head_of : List Var → List Line
head_of vars = timescale ∷ scope ∷ (map line_of_var vars ++ upscope ∷ definitions ∷ [])

-- the lines of a dump
abbrev pub lines_of : List Var → Calls → List Line
lines_of vars calls = head_of vars ++ flat_map lines_of_call calls

-- the dump of these vars and this tape
abbrev pub dump_of : List Var → Calls → List ℕ
dump_of vars calls = text_of (lines_of vars calls)
