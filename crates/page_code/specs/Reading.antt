-- Reading a saved program from left to right, with the first refusal that is met.
use Rattle.std.specs.Prelude.{ℕ, suc, ◌+◌, ◌-◌, ◌*◌, Bool, true, false, not, List, [], ◌∷◌, ◌++◌, ◌==◌, ◌&&◌, ◌||◌, nat_lt, nat_le, length, take, slice_index, Option, Some, None, Result, Ok, Err, if◌then◌else◌}
use Rattle.std.specs.List.{list_all, list_any, take_while, find}
use Rattle.std.specs.Option.{option_map_or}
use Rattle.std.specs.Int.{w16, w32, w64}
use Rattle.text_bytes.specs.Limits.{longest_name, longest_period, most_waves, most_cells, most_passes, deepest_loops, most_cycles, most_chains, most_signals, most_code_tables, most_row_characters, most_executives}
use Rattle.text_bytes.specs.Bytes.{is_printable, is_character}
use Rattle.tester_types.specs.declared.wave.Event.{Event}
use Rattle.tester_types.specs.declared.wave.Wave.{Wave}
use Rattle.tester_types.specs.declared.wave.Table.{Table}
use Rattle.packed_code.specs.declared.instr.Instr.{Instr}
use Rattle.packed_code.specs.declared.instr.Instr.TheVariants.{Run, Loop, End, Done}
use Rattle.packed_code.specs.Meaning.{cycle_count}
use Rattle.page_code.specs.declared.fault.Refusal.{Refusal}
use Rattle.page_code.specs.declared.fault.Refusal.TheVariants.{BadMagic, BadVersion, Torn, BadCode}
use Rattle.page_code.specs.declared.fault.SavedFault.{SavedFault}
use Rattle.page_code.specs.declared.fault.SavedFault.TheVariants as saved
use Rattle.page_code.specs.declared.version.Version.{Version}
use Rattle.page_code.specs.declared.version.Version.TheVariants.{One, Two}
use Rattle.packed_code.specs.declared.parts.CodeSignal.{CodeSignal}
use Rattle.packed_code.specs.declared.parts.CodeChain.{CodeChain}
use Rattle.tester_types.specs.Acts.{act_of}
use Rattle.tester_types.specs.Directions.{direction_of}
use Rattle.packed_code.specs.RowBytes.{is_place}
use Rattle.packed_code.specs.Program.{Exec, Program}
use Rattle.packed_code.specs.Rows.{is_row_of}
use Rattle.packed_code.specs.Conditions.{last_of, is_named, latest, is_behind, wave_count, has_waves, waves_of, characters_of}
use Rattle.page_code.specs.Changes.{last_row, with_changes, is_shorter, is_difference, least_behind}
use Rattle.packed_code.specs.Packed.{instr_of}
use Rattle.page_code.specs.Spelling.{version_number}
use Rattle.page_code.specs.Fields.{◌>>=◌, Read, byte_at, piece_at, number_at, judged, checked, known, items_at}

-- a text is one field: its bytes are judged when all of them are there
unfoldable pub raw_text_at : List ℕ → Read (List ℕ)
raw_text_at bytes = do
  n ← checked (number_at w16) (λ n. nat_le n longest_name) bytes
  piece_at n.0 n.1

-- a text with a further condition
unfoldable pub text_at : (List ℕ → Bool) → List ℕ → Read (List ℕ)
text_at fits bytes = checked raw_text_at (λ text. list_all is_printable text && fits text) bytes

-- a text that is not empty
abbrev pub name_at : List ℕ → Read (List ℕ)
name_at bytes = text_at (λ text. nat_lt 0 (length text)) bytes

-- a direction, and a name that no signal before has
unfoldable pub signal_at : List CodeSignal → List ℕ → Read CodeSignal
signal_at before bytes = do
  direction ← known byte_at direction_of bytes
  name ← text_at (λ text. nat_lt 0 (length text) && not (list_any (is_named text) before)) direction.1
  Ok (record { name = name.0; direction = direction.0 }, name.1)

-- a time that is not before the last one and lies inside the period, and an act
unfoldable pub event_at : ℕ → List Event → List ℕ → Read Event
event_at period before bytes = do
  time ← checked (number_at w64) (λ time. nat_le (latest before) time && nat_lt time period) bytes
  act ← known byte_at act_of time.1
  Ok (record { time = time.0; act = act.0 }, act.1)

-- a signal and a character, each valid by itself
unfoldable pub pair_at : ℕ → List ℕ → Read (ℕ × ℕ)
pair_at signals bytes = do
  signal ← checked (number_at w16) (λ signal. nat_lt signal signals) bytes
  character ← checked byte_at is_character signal.1
  Ok ((signal.0, character.0), character.1)

-- whether a wave may stand here: behind the one before it, as one of at most so many
abbrev pub may_stand : ℕ → List Wave → ℕ × ℕ → Bool
may_stand most before pair =
    option_map_or (is_behind pair.0 pair.1) (last_of before) true && nat_lt (length before) most

-- a signal and a character that may stand here, a count of events, and these
unfoldable pub wave_at : ℕ → ℕ → ℕ → List Wave → List ℕ → Read Wave
wave_at signals period most before bytes = do
  pair ← checked (pair_at signals) (may_stand most before) bytes
  count ← checked byte_at (λ count. nat_le count 16) pair.1
  events ← items_at (event_at period) count.0 [] count.1
  Ok (record { signal = pair.0.0; character = pair.0.1; events = events.0 }, events.1)

-- a table that may have so many waves
unfoldable pub table_with : ℕ → ℕ → List ℕ → Read Table
table_with signals most bytes = do
  name ← name_at bytes
  period ← checked (number_at w64) (λ period. nat_lt 0 period && nat_le period longest_period) name.1
  count ← number_at w32 period.1
  waves ← items_at (wave_at signals period.0 most) count.0 [] count.1
  Ok (record { name = name.0; period = period.0; waves = waves.0 }, waves.1)

-- all tables together have at most 2 ^ 20 waves
abbrev pub table_at : ℕ → List Table → List ℕ → Read Table
table_at signals before bytes = table_with signals (most_waves - wave_count before) bytes

-- the characters of a row, each a field of its own
unfoldable pub characters_at : ℕ → List ℕ → Read (List ℕ)
characters_at signals bytes =
    if list_all is_place (take signals bytes) then piece_at signals bytes
    else Err (BadCode (length bytes - length (take_while is_place bytes)))

-- a change of the last row: a signal, at least so much, and a character that differs from the one in its place
unfoldable pub change_from : ℕ → ℕ → List ℕ → List ℕ → Read (ℕ × ℕ)
change_from least signals last bytes = do
  signal ← checked (number_at w16) (λ signal. nat_le least signal && nat_lt signal signals) bytes
  character ← checked byte_at (λ character. is_place character && not (character == slice_index last signal.0)) signal.1
  Ok ((signal.0, character.0), character.1)

-- changes rise strictly by signal
abbrev pub change_at : ℕ → List ℕ → List (ℕ × ℕ) → List ℕ → Read (ℕ × ℕ)
change_at signals last before bytes = change_from (least_behind before) signals last bytes

-- the last row with so many changes in place
abbrev pub changed_at : ℕ → List ℕ → ℕ → List ℕ → Read (List ℕ)
changed_at signals last count bytes =
    items_at (change_at signals last) count [] bytes >>= λ changes. Ok (with_changes last changes.0, changes.1)

-- a row that is spelled as a difference, behind its form: a count, which must make it shorter, and so many changes of
-- the last row. Where the count does not, it is the form that is refused, where so many bytes are left.
unfoldable pub difference_at : ℕ → ℕ → List ℕ → List ℕ → Read (List ℕ)
difference_at left signals last bytes = do
  count ← checked (number_at w16) (λ count. nat_lt 0 count && nat_le count signals) bytes
  few ← judged left (λ count. is_shorter count signals) count
  changed_at signals last few.0 few.1

-- a row that is spelled whole, behind its form. Where a difference would be shorter, it is the form that is refused.
unfoldable pub whole_row_at : ℕ → ℕ → List (List ℕ) → List ℕ → Read (List ℕ)
whole_row_at left signals before bytes =
    characters_at signals bytes >>= judged left (λ row. not (is_difference before row))

-- a row of version 2: its form, which is 0 for the first row, and then the row by it
unfoldable pub formed_row_at : ℕ → List (List ℕ) → List ℕ → Read (List ℕ)
formed_row_at signals before bytes = do
  form ← checked byte_at (λ form. form == 0 || form == 1 && nat_lt 0 (length before)) bytes
  if form.0 == 0 then whole_row_at (length bytes) signals before form.1
      else difference_at (length bytes) signals (last_row before) form.1

-- a row as it is spelled in a version
abbrev pub spelled_row_at : Version → ℕ → List (List ℕ) → List ℕ → Read (List ℕ)
spelled_row_at One signals before bytes = characters_at signals bytes
spelled_row_at Two signals before bytes = formed_row_at signals before bytes

-- a row that no row before equals
unfoldable pub row_at : Version → ℕ → List (List ℕ) → List ℕ → Read (List ℕ)
row_at version signals before bytes =
    checked (spelled_row_at version signals before) (λ row. not (is_row_of before row)) bytes

-- a name, a scan-out signal, a length, a count of cells, and these
unfoldable pub chain_at : ℕ → List ℕ → Read CodeChain
chain_at signals bytes = do
  name ← name_at bytes
  out ← checked (number_at w16) (λ out. nat_lt out signals) name.1
  size ← checked (number_at w32) (λ size. nat_le size most_cells) out.1
  count ← checked (number_at w32) (λ count. nat_le count most_cells) size.1
  cells ← items_at (λ before. name_at) count.0 [] count.1
  Ok (record { name = name.0; out = out.0; length = size.0; cells = cells.0 }, cells.1)

-- how many loops are open behind these instructions, where so many are open before them
abbrev pub open_behind : ℕ → List Instr → ℕ
open_behind depth [] = depth
open_behind depth (Run table row mark times ∷ code) = open_behind depth code
open_behind depth (Loop times ∷ code) = open_behind (suc depth) code
open_behind depth (End ∷ code) = open_behind (depth - 1) code
open_behind depth (Done ∷ code) = open_behind depth code

-- whether the last of these instructions is a Loop
abbrev pub begun_behind : Bool → List Instr → Bool
begun_behind begun [] = begun
begun_behind begun (Run table row mark times ∷ code) = begun_behind false code
begun_behind begun (Loop times ∷ code) = begun_behind true code
begun_behind begun (End ∷ code) = begun_behind false code
begun_behind begun (Done ∷ code) = begun_behind false code

-- whether an instruction may stand, as the last one or not, where so many loops are open, and where `begun` says
-- that the instruction before is a Loop
abbrev pub follows : List Table → List (List ℕ) → Bool → ℕ → Bool → Instr → Bool
follows tables rows is_last depth begun (Run table row mark times) =
    not is_last && nat_lt 0 times && nat_lt table (length tables) && nat_lt row (length rows)
    && has_waves (waves_of tables table) 0 (characters_of rows row)
follows tables rows is_last depth begun (Loop times) =
    not is_last && nat_lt 0 times && nat_le times most_passes && nat_lt depth deepest_loops
follows tables rows is_last depth begun End = not is_last && not begun && nat_lt 0 depth
follows tables rows is_last depth begun Done = is_last && depth == 0

-- the cycles up to a Done are at most 2 ^ 48
abbrev pub is_bounded : List Instr → Instr → Bool
is_bounded before (Run table row mark times) = true
is_bounded before (Loop times) = true
is_bounded before End = true
is_bounded before Done = nat_le (cycle_count (before ++ Done ∷ [])) most_cycles

-- whether an instruction may stand behind these, as the last one or not
abbrev pub may_follow : List Table → List (List ℕ) → Bool → List Instr → Instr → Bool
may_follow tables rows is_last before i =
    follows tables rows is_last (open_behind 0 before) (begun_behind false before) i && is_bounded before i

-- an instruction is one field of 16 bytes
unfoldable pub instr_with : List Table → List (List ℕ) → Bool → List Instr → List ℕ → Read Instr
instr_with tables rows is_last before bytes =
    checked (known (piece_at 16) instr_of) (may_follow tables rows is_last before) bytes

-- the last of so many instructions, or one before it
abbrev pub instr_at : List Table → List (List ℕ) → ℕ → List Instr → List ℕ → Read Instr
instr_at tables rows count before bytes = instr_with tables rows (length before + 1 == count) before bytes

-- a name, a count of chains, these, a count of instructions, and these
unfoldable pub exec_at : ℕ → List Table → List (List ℕ) → List ℕ → Read Exec
exec_at signals tables rows bytes = do
  name ← text_at (λ text. true) bytes
  chain_count ← checked (number_at w16) (λ count. nat_le count most_chains) name.1
  chains ← items_at (λ before. chain_at signals) chain_count.0 [] chain_count.1
  count ← checked (number_at w32) (λ count. nat_lt 0 count && nat_le count 4194305) chains.1
  instrs ← items_at (instr_at tables rows count.0) count.0 [] count.1
  Ok (record { name = name.0; chains = chains.0; instrs = instrs.0 }, instrs.1)

-- the known bytes: one that is there and differs is refused before a missing one
abbrev pub magic_at : List ℕ → List ℕ → Read (Unit {0})
magic_at [] bytes = Ok (tt, bytes)
magic_at (byte ∷ magic) [] = Err Torn
magic_at (byte ∷ magic) (b ∷ bytes) = if b == byte then magic_at magic bytes else Err BadMagic

-- the version of a number
abbrev pub version_of : ℕ → Option Version
version_of n = find (λ version. version_number version == n) (One ∷ Two ∷ [])

-- a version that is known
abbrev pub known_version : Option Version → List ℕ → Read Version
known_version None rest = Err BadVersion
known_version (Some version) rest = Ok (version, rest)

-- the known bytes, a version, and 0
unfoldable pub head_at : List ℕ → Read Version
head_at bytes = do
  magic ← magic_at (0xD7 ∷ 0x53 ∷ 0x54 ∷ 0x50 ∷ []) bytes
  n ← number_at w16 magic.1
  version ← known_version (version_of n.0) n.1
  zeros ← checked (number_at w16) (λ n. n == 0) version.1
  Ok (version.0, zeros.1)

-- behind the head of a version: signals, tables, rows and executives, each behind their count
unfoldable pub program_at : Version → List ℕ → Read Program
program_at version bytes = do
  signal_count ← checked (number_at w16) (λ count. nat_le count most_signals) bytes
  signals ← items_at signal_at signal_count.0 [] signal_count.1
  table_count ← checked (number_at w16) (λ count. nat_le count most_code_tables) signals.1
  tables ← items_at (table_at (length signals.0)) table_count.0 [] table_count.1
  row_count ← checked (number_at w32) (λ count. nat_le (count * length signals.0) most_row_characters) tables.1
  rows ← items_at (row_at version (length signals.0)) row_count.0 [] row_count.1
  exec_count ← checked (number_at w16) (λ count. nat_lt 0 count && nat_le count most_executives) rows.1
  execs ← items_at (λ before. exec_at (length signals.0) tables.0 rows.0) exec_count.0 [] exec_count.1
  Ok (record { signals = signals.0; tables = tables.0; rows = rows.0; execs = execs.0 }, execs.1)

-- a whole saved program of either version: bytes behind it are refused at the first of them
unfoldable pub whole_at : List ℕ → Result Program Refusal
whole_at bytes = do
  head ← head_at bytes
  program ← program_at head.0 head.1
  if length program.1 == 0 then Ok program.0 else Err (BadCode (length program.1))

-- the refusal as it is answered: its place is counted from the beginning
abbrev pub refusal_of : ℕ → Refusal → SavedFault
refusal_of size BadMagic = saved.BadMagic
refusal_of size BadVersion = saved.BadVersion
refusal_of size Torn = saved.Torn size
refusal_of size (BadCode left) = saved.BadCode (size - left)

-- what was read, with the refusal as it is answered
abbrev pub answered : ℕ → Result Program Refusal → Result Program SavedFault
answered size (Ok program) = Ok program
answered size (Err refusal) = Err (refusal_of size refusal)

-- the code that the bytes spell, or the first refusal
abbrev pub load_of : List ℕ → Result Program SavedFault
load_of bytes = answered (length bytes) (whole_at bytes)
