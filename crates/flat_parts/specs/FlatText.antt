-- A code as a flat STIL text (IEEE 1450-1999): without macros, expressions, groups and shifts, with the code's loops.
-- Each row is a procedure of one vector (clause 24), since a procedure gives its caller's characters back: a signal
-- to which a row gives no character has none in its vector.
use Rattle.std.specs.Prelude.{ℕ, Bool, not, ◌&&◌, ◌==◌, nat_lt, List, [], ◌∷◌, ◌++◌, codes, decimal, length, map, slice_get, slice_index_or, if◌then◌else◌}
use Rattle.std.specs.List.{flat_map, list_all, range_with_len}
use Rattle.std.specs.Option.{option_map_or}
use Rattle.tester_types.specs.Printing.{quoted}
use Rattle.tester_types.specs.declared.signal.Direction.{Direction}
use Rattle.tester_types.specs.declared.signal.Direction.TheVariants as direction
use Rattle.tester_types.specs.declared.wave.Act.{Act}
use Rattle.tester_types.specs.declared.wave.Act.TheVariants as act
use Rattle.tester_types.specs.declared.wave.Event.{Event}
use Rattle.tester_types.specs.declared.wave.Wave.{Wave}
use Rattle.tester_types.specs.declared.wave.Table.{Table}
use Rattle.packed_code.specs.declared.instr.Instr.{Instr}
use Rattle.packed_code.specs.declared.instr.Instr.TheVariants.{Run, Loop, End, Done}
use Rattle.packed_code.specs.declared.parts.CodeSignal.{CodeSignal}
use Rattle.packed_code.specs.Program.{Program}
use Rattle.packed_code.specs.Conditions.{characters_of}
use Rattle.packed_code.specs.Cycles.{exec_of}
use Rattle.tester_types.specs.Acts.{push_letter, look_letter}
use Rattle.flat_parts.specs.Order.{is_in, tables_in, table_order, row_order, number_in}

-- ---- words

-- lines between one that opens a block and a closing brace
unfoldable pub block : List ℕ → List (List ℕ) → List (List ℕ)
block opening lines = opening ∷ (lines ++ codes "}" ∷ [])

-- the line that opens a block of this number
abbrev pub opening : List ℕ → ℕ → List ℕ
opening words number = words ++ decimal number ++ codes "\" {"

-- items in braces, each with a blank behind it, with what stands before and behind the braces
abbrev pub braced : List ℕ → List ℕ → List ℕ → List ℕ
braced before items behind = (before ++ codes "{ ") ++ (items ++ (codes "}" ++ behind))

-- the name of a signal
abbrev pub name_of : Program → ℕ → List ℕ
name_of code signal = option_map_or (λ s. s.name) (slice_get code.signals signal) []

-- ---- signals (clause 14)

-- the word of a direction
abbrev pub direction_word : Direction → List ℕ
direction_word direction.In = codes "In"
direction_word direction.Out = codes "Out"
direction_word direction.InOut = codes "InOut"
direction_word direction.Supply = codes "Supply"
direction_word direction.Pseudo = codes "Pseudo"

-- a signal with its direction
abbrev pub signal_line : CodeSignal → List ℕ
signal_line signal = quoted signal.name ++ codes " " ++ direction_word signal.direction ++ codes ";"

-- all of them, in declared order
abbrev pub signal_lines : Program → List (List ℕ)
signal_lines code = block (codes "Signals {") (map signal_line code.signals)

-- ---- tables (clause 18)

-- the letter of an act
abbrev pub act_letter : Act → List ℕ
act_letter (act.Push push) = push_letter push
act_letter (act.Look look) = look_letter look

-- an event, with a blank behind it
abbrev pub event_item : Event → List ℕ
event_item event = codes "'" ++ decimal event.time ++ codes "fs' " ++ act_letter event.act ++ codes "; "

-- the signal and the character of a wave
abbrev pub wave_front : List ℕ → ℕ → List ℕ
wave_front name character = quoted name ++ codes " { " ++ character ∷ codes " "

-- a wave: what a signal does where it has this character
abbrev pub wave_line : Program → Wave → List ℕ
wave_line code wave =
    braced (wave_front (name_of code wave.signal) wave.character) (flat_map event_item wave.events) (codes " }")

-- the waves of a table, in the code's order
abbrev pub waveform_lines : Program → Table → List (List ℕ)
waveform_lines code table = block (codes "Waveforms {") (map (wave_line code) table.waves)

-- the period of a table
abbrev pub period_line : ℕ → List ℕ
period_line period = codes "Period '" ++ decimal period ++ codes "fs';"

-- the table of this number
abbrev pub table_lines : Program → ℕ → Table → List (List ℕ)
table_lines code number table =
    block (opening (codes "WaveformTable \"w") number) (period_line table.period ∷ waveform_lines code table)

-- a table of the code, under its new number
abbrev pub numbered_table : Program → ℕ → ℕ → List (List ℕ)
numbered_table code number table = option_map_or (table_lines code number) (slice_get code.tables table) []

-- a table of the code, under its new number, where it is one of these
abbrev pub table_among : Program → List ℕ → ℕ → ℕ → List (List ℕ)
table_among code tables number table = if is_in tables table then numbered_table code number table else []

-- the table of this new number, where the Runs of an executive name it
abbrev pub own_table : Program → ℕ → ℕ → List (List ℕ)
own_table code exec number =
    table_among code (tables_in (exec_of code exec)) number (slice_index_or (table_order code) number 0)

-- the tables that the Runs of an executive name, by rising number
abbrev pub timing_lines : Program → ℕ → List (List ℕ)
timing_lines code exec =
    block (opening (codes "Timing \"t") exec)
    (flat_map (own_table code exec) (range_with_len 0 (length (table_order code))))

-- ---- rows (clause 24)

-- what a row gives to a signal, with a blank behind it; nothing where it gives no character
abbrev pub character_item : List ℕ → ℕ → List ℕ
character_item name character = if character == 0 then [] else quoted name ++ codes "=" ++ character ∷ codes "; "

-- what it gives to the signal of this number
abbrev pub signal_item : Program → List ℕ → ℕ → List ℕ
signal_item code row signal = character_item (name_of code signal) (slice_index_or row signal 0)

-- what it gives to all signals
abbrev pub character_items : Program → List ℕ → List ℕ
character_items code row = flat_map (signal_item code row) (range_with_len 0 (length code.signals))

-- the name of a row's procedure, and its vector's word
abbrev pub row_front : ℕ → List ℕ
row_front number = codes "\"r" ++ decimal number ++ codes "\" { V "

-- a row of these characters as a procedure of one vector
abbrev pub row_text : Program → ℕ → List ℕ → List ℕ
row_text code number row = braced (row_front number) (character_items code row) (codes " }")

-- the row of this new number
abbrev pub row_line : Program → ℕ → List ℕ
row_line code number = row_text code number (characters_of code.rows (slice_index_or (row_order code) number 0))

-- all rows that Runs name
abbrev pub row_lines : Program → List (List ℕ)
row_lines code = block (codes "Procedures {") (map (row_line code) (range_with_len 0 (length (row_order code))))

-- ---- patterns (clause 22)

-- a call of a row under a table
abbrev pub one_line : ℕ → ℕ → List ℕ
one_line table row = codes "W \"w" ++ decimal table ++ codes "\"; Call \"r" ++ decimal row ++ codes "\";"

-- several calls
abbrev pub many_line : ℕ → ℕ → ℕ → List ℕ
many_line table row times =
    codes "W \"w" ++ decimal table ++ codes "\"; Loop " ++ decimal times ++ codes " { Call \"r" ++ decimal row
    ++ codes "\"; }"

-- a call, so many times over
abbrev pub run_line : ℕ → ℕ → ℕ → List ℕ
run_line table row times = if nat_lt 1 times then many_line table row times else one_line table row

-- an instruction
abbrev pub instr_lines : Program → Instr → List (List ℕ)
instr_lines code (Run table row mark times) =
    run_line (number_in (table_order code) table) (number_in (row_order code) row) times ∷ []
instr_lines code (Loop times) = (codes "Loop " ++ decimal times ++ codes " {") ∷ []
instr_lines code End = codes "}" ∷ []
instr_lines code Done = []

-- the instructions of an executive
abbrev pub pattern_lines : Program → ℕ → List (List ℕ)
pattern_lines code exec =
    block (opening (codes "Pattern \"p") exec) (flat_map (instr_lines code) (exec_of code exec).instrs)

-- ---- bursts and executives (clauses 17 and 16)

-- the burst of an executive
abbrev pub burst_line : ℕ → List ℕ
burst_line exec =
    codes "PatternBurst \"b" ++ decimal exec ++ codes "\" { PatList { \"p" ++ decimal exec ++ codes "\"; } }"

-- the name of an executive, where it has one, with a blank in front
abbrev pub title : List ℕ → List ℕ
title [] = []
title (byte ∷ bytes) = codes " " ++ quoted (byte ∷ bytes)

-- the timing and the burst of an executive
abbrev pub exec_parts : ℕ → List ℕ
exec_parts exec = codes " { Timing \"t" ++ decimal exec ++ codes "\"; PatternBurst \"b" ++ decimal exec ++ codes "\"; }"

-- an executive of this name
abbrev pub exec_text : List ℕ → ℕ → List ℕ
exec_text name exec = codes "PatternExec" ++ (title name ++ exec_parts exec)

-- an executive
abbrev pub exec_line : Program → ℕ → List ℕ
exec_line code exec = exec_text (exec_of code exec).name exec

-- ---- the text

-- the numbers of the executives
abbrev pub executives : Program → List ℕ
executives code = range_with_len 0 (length code.execs)

-- all lines
abbrev pub flat_lines : Program → List (List ℕ)
flat_lines code =
    codes "STIL 1.0;"
    ∷ (signal_lines code
    ++ flat_map (timing_lines code) (executives code)
    ++ row_lines code
    ++ flat_map (pattern_lines code) (executives code)
    ++ map burst_line (executives code)
    ++ map (exec_line code) (executives code))

-- a line with its line feed
abbrev pub with_feed : List ℕ → List ℕ
with_feed line = line ++ codes "\n"

-- lines as a text
unfoldable pub text_of : List (List ℕ) → List ℕ
text_of lines = flat_map with_feed lines

-- the flat text of a code
abbrev pub flat_text : Program → List ℕ
flat_text code = text_of (flat_lines code)

-- ---- names

-- whether a name can stand in double quotes: no byte of it is one
abbrev pub is_plain : List ℕ → Bool
is_plain name = list_all (λ byte. not (byte == 34)) name

-- whether the names of a code's signals and executives can
abbrev pub has_plain_names : Program → Bool
has_plain_names code =
    list_all (λ signal. is_plain signal.name) code.signals && list_all (λ exec. is_plain exec.name) code.execs
