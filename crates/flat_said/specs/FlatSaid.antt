-- The flat text of a code as statements, where the instructions of each executive nest in a known way.
use Rattle.std.specs.Prelude.{ℕ, nat_lt, List, [], ◌∷◌, codes, decimal, length, if◌then◌else◌}
use Rattle.std.specs.List.{range_with_len}
use Rattle.tester_types.specs.declared.wave.Event.{Event}
use Rattle.tester_types.specs.declared.wave.Wave.{Wave}
use Rattle.tester_types.specs.declared.wave.Table.{Table}
use Rattle.stil_lex.specs.Pieces.{Piece}
use Rattle.packed_code.specs.declared.parts.CodeSignal.{CodeSignal}
use Rattle.packed_code.specs.Program.{Program}
use Rattle.packed_code.specs.Cycles.{exec_of}
use Rattle.line_texts.specs.Said.{Said, no_more, statement, braced, a_sign, each_said, word, a_name, a_text, blank, spaced, next_line}
use Rattle.flat_parts.specs.Order.{row_order}
use Rattle.flat_parts.specs.FlatText.{name_of, direction_word, act_letter, executives}
use Rattle.flat_parts.specs.Nests.{Nest, nothing, run, loop, table_name, row_name}
use Rattle.flat_parts.specs.FlatBlocks.{numbered, time_text, table_numbered, own_numbers, Given, given_from, row_numbered}

-- a signal
abbrev pub signal_said : CodeSignal → Said → Said
signal_said signal more =
    statement (a_name signal.name ∷ blank ∷ word (direction_word signal.direction) ∷ []) (next_line more)

-- all signals
abbrev pub signals_said : Program → Said → Said
signals_said code more =
    braced (word (codes "Signals") ∷ blank ∷ [])
    (next_line (each_said signal_said code.signals no_more)) (next_line more)

-- an event
abbrev pub event_said : Event → Said → Said
event_said event more =
    statement (a_text (time_text event.time) ∷ blank ∷ word (act_letter event.act) ∷ []) (spaced more)

-- a wave
abbrev pub wave_said : Program → Wave → Said → Said
wave_said code wave more =
    braced (a_name (name_of code wave.signal) ∷ blank ∷ [])
    (spaced
    (braced (word (wave.character ∷ []) ∷ blank ∷ [])
    (spaced (each_said event_said wave.events no_more)) (spaced no_more)))
    (next_line more)

-- the statements in a table
abbrev pub inside_table : Program → Table → Said
inside_table code table =
    next_line
    (statement (word (codes "Period") ∷ blank ∷ a_text (time_text table.period) ∷ [])
    (next_line
    (braced (word (codes "Waveforms") ∷ blank ∷ []) (next_line (each_said (wave_said code) table.waves no_more))
    (next_line no_more))))

-- a table under a number
abbrev pub table_said : Program → ℕ → Said → Said
table_said code number more =
    braced (word (codes "WaveformTable") ∷ blank ∷ a_name (numbered (codes "w") number) ∷ blank ∷ [])
    (inside_table code (table_numbered code number)) (next_line more)

-- the tables of an executive
abbrev pub timing_said : Program → ℕ → Said → Said
timing_said code exec more =
    braced (word (codes "Timing") ∷ blank ∷ a_name (numbered (codes "t") exec) ∷ blank ∷ [])
    (next_line (each_said (table_said code) (own_numbers code exec) no_more)) (next_line more)

-- a character for a signal
abbrev pub gift_said : Given → Said → Said
gift_said given more =
    statement (a_name given.name ∷ a_sign 61 ∷ word (given.character ∷ []) ∷ []) (spaced more)

-- a row under a number
abbrev pub row_said : Program → ℕ → Said → Said
row_said code number more =
    braced (a_name (numbered (codes "r") number) ∷ blank ∷ [])
    (spaced
    (braced (word (codes "V") ∷ blank ∷ [])
    (spaced (each_said gift_said (given_from code 0 (row_numbered code number)) no_more)) (spaced no_more)))
    (next_line more)

-- all rows
abbrev pub rows_said : Program → Said → Said
rows_said code more =
    braced (word (codes "Procedures") ∷ blank ∷ [])
    (next_line (each_said (row_said code) (range_with_len 0 (length (row_order code))) no_more)) (next_line more)

-- a call of a row
abbrev pub call_said : List ℕ → Said → Said
call_said name more = statement (word (codes "Call") ∷ blank ∷ a_name name ∷ []) more

-- the head of a Loop
abbrev pub loop_head : ℕ → List Piece
loop_head times = word (codes "Loop") ∷ blank ∷ word (decimal times) ∷ blank ∷ []

-- a call, so many times
abbrev pub calls_said : List ℕ → ℕ → Said → Said
calls_said name times more =
    if nat_lt 1 times then braced (loop_head times) (spaced (call_said name (spaced no_more))) (next_line more)
    else call_said name (next_line more)

-- instructions
abbrev pub nest_said : Program → Nest → Said → Said
nest_said code nothing more = more
nest_said code (run lines table row mark times rest) more =
    statement (word (codes "W") ∷ blank ∷ a_name (table_name code table) ∷ [])
    (spaced (calls_said (row_name code row) times (nest_said code rest more)))
nest_said code (loop line times body rest) more =
    braced (loop_head times) (next_line (nest_said code body no_more)) (next_line (nest_said code rest more))

-- the pattern of an executive
abbrev pub pattern_said : Program → (ℕ → Nest) → ℕ → Said → Said
pattern_said code nests exec more =
    braced (word (codes "Pattern") ∷ blank ∷ a_name (numbered (codes "p") exec) ∷ blank ∷ [])
    (next_line (nest_said code (nests exec) no_more)) (next_line more)

-- its burst
abbrev pub burst_said : ℕ → Said → Said
burst_said exec more =
    braced (word (codes "PatternBurst") ∷ blank ∷ a_name (numbered (codes "b") exec) ∷ blank ∷ [])
    (spaced
    (braced (word (codes "PatList") ∷ blank ∷ [])
    (spaced (statement (a_name (numbered (codes "p") exec) ∷ []) (spaced no_more))) (spaced no_more)))
    (next_line more)

-- the name of an executive, where it has one
abbrev pub title_pieces : List ℕ → List Piece
title_pieces [] = blank ∷ []
title_pieces (byte ∷ name) = blank ∷ a_name (byte ∷ name) ∷ blank ∷ []

-- an executive
abbrev pub exec_said : Program → ℕ → Said → Said
exec_said code exec more =
    braced (word (codes "PatternExec") ∷ title_pieces (exec_of code exec).name)
    (spaced
    (statement (word (codes "Timing") ∷ blank ∷ a_name (numbered (codes "t") exec) ∷ [])
    (spaced
    (statement (word (codes "PatternBurst") ∷ blank ∷ a_name (numbered (codes "b") exec) ∷ []) (spaced no_more)))))
    (next_line more)

-- the text
abbrev pub flat_said : Program → (ℕ → Nest) → Said
flat_said code nests =
    statement (word (codes "STIL") ∷ blank ∷ word (codes "1") ∷ a_sign 46 ∷ word (codes "0") ∷ [])
    (next_line
    (signals_said code
    (each_said (timing_said code) (executives code)
    (rows_said code
    (each_said (pattern_said code nests) (executives code)
    (each_said burst_said (executives code) (each_said (exec_said code) (executives code) no_more)))))))
