-- The statements of a flat text have heads such as the grammar has them.
use Rattle.std.proofs.Common.{◌≡◌, ℕ, Bool, true, false, cond, ◌&&◌, List, [], ◌∷◌, refl, ap, ◌∙◌}
use Rattle.std.specs.Prelude.{nat_lt, length}
use Rattle.std.specs.List.{range_with_len}
use Rattle.tester_types.specs.declared.wave.Wave.{Wave}
use Rattle.packed_code.specs.Program.{Program}
use Rattle.packed_code.specs.Cycles.{exec_of}
use Rattle.line_texts.specs.Said.{Said, no_more, braced, each_said, spaced, next_line}
use Rattle.line_texts.specs.Tests.{is_head}
use Rattle.flat_parts.specs.Order.{row_order}
use Rattle.flat_parts.specs.FlatText.{executives}
use Rattle.flat_parts.specs.FlatBlocks.{table_numbered, own_numbers, given_from, row_numbered}
use Rattle.flat_parts.specs.Nests.{Nest, nothing, run, loop, row_name}
use Rattle.flat_said.specs.FlatSaid.{signal_said, signals_said, event_said, wave_said, table_said, timing_said, gift_said, row_said, rows_said, call_said, loop_head, calls_said, nest_said, pattern_said, burst_said, title_pieces, exec_said, flat_said}
use Rattle.flat_said.specs.Shape.{is_shaped}

-- statements in front of others, which are shaped where the others are
abbrev pub Shapes : (Said → Said) → Type 0
Shapes said = (more : Said) → is_shaped (said more) ≡ is_shaped more

-- those of each item of a list
pub shapes_each : {X : Type 0} (said : X → Said → Said) → ((x : X) → Shapes (said x)) → (xs : List X) → Shapes (each_said said xs)
shapes_each said one [] more = refl
shapes_each said one (x ∷ xs) more = one x (each_said said xs more) ∙ shapes_each said one xs more

-- statements in a block
within : (inside behind : Bool) → inside ≡ true → (inside && behind) ≡ behind
within inside behind e = ap (λ (b : Bool). b && behind) e

-- all signals
signals_shape : (code : Program) → Shapes (signals_said code)
signals_shape code more =
    within (is_shaped (each_said signal_said code.signals no_more)) (is_shaped more)
    (shapes_each signal_said (λ signal rest. refl) code.signals no_more)

-- a wave
wave_shapes : (code : Program) (wave : Wave) → Shapes (wave_said code wave)
wave_shapes code wave more =
    let events = shapes_each event_said (λ event rest. refl) wave.events no_more in
    within (is_shaped (each_said event_said wave.events no_more) && true) (is_shaped more)
    (within (is_shaped (each_said event_said wave.events no_more)) true events)

-- a table
table_shapes : (code : Program) (number : ℕ) → Shapes (table_said code number)
table_shapes code number more =
    let table = table_numbered code number in
    let waves = shapes_each (wave_said code) (wave_shapes code) table.waves no_more in
    within (is_shaped (each_said (wave_said code) table.waves no_more) && true) (is_shaped more)
    (within (is_shaped (each_said (wave_said code) table.waves no_more)) true waves)

-- the Timing of an executive
timing_shapes : (code : Program) (exec : ℕ) → Shapes (timing_said code exec)
timing_shapes code exec more =
    within (is_shaped (each_said (table_said code) (own_numbers code exec) no_more)) (is_shaped more)
    (shapes_each (table_said code) (table_shapes code) (own_numbers code exec) no_more)

-- a row
row_shapes : (code : Program) (number : ℕ) → Shapes (row_said code number)
row_shapes code number more =
    let given = given_from code 0 (row_numbered code number) in
    let gifts = shapes_each gift_said (λ g rest. refl) given no_more in
    within (is_shaped (each_said gift_said given no_more) && true) (is_shaped more)
    (within (is_shaped (each_said gift_said given no_more)) true gifts)

-- all rows
rows_shape : (code : Program) → Shapes (rows_said code)
rows_shape code more =
    let numbers = range_with_len 0 (length (row_order code)) in
    within (is_shaped (each_said (row_said code) numbers no_more)) (is_shaped more)
    (shapes_each (row_said code) (row_shapes code) numbers no_more)

-- a call, so many times
calls_by : (name : List ℕ) (times : ℕ) (many : Bool) (more : Said)
    → is_shaped
    (cond many (braced (loop_head times) (spaced (call_said name (spaced no_more))) (next_line more)) (call_said name (next_line more)))
    ≡ is_shaped more
calls_by name times true more = refl
calls_by name times false more = refl

calls_shape : (name : List ℕ) (times : ℕ) → Shapes (calls_said name times)
calls_shape name times more = calls_by name times (nat_lt 1 times) more

-- instructions
nest_shapes : (code : Program) (nest : Nest) → Shapes (nest_said code nest)
nest_shapes code nothing more = refl
nest_shapes code (run lines table row mark times rest) more =
    calls_shape (row_name code row) times (nest_said code rest more) ∙ nest_shapes code rest more
nest_shapes code (loop line times body rest) more =
    within (is_shaped (nest_said code body no_more)) (is_shaped (nest_said code rest more)) (nest_shapes code body no_more)
    ∙ nest_shapes code rest more

-- the pattern of an executive
pattern_shapes : (code : Program) (nests : ℕ → Nest) (exec : ℕ) → Shapes (pattern_said code nests exec)
pattern_shapes code nests exec more =
    within (is_shaped (nest_said code (nests exec) no_more)) (is_shaped more) (nest_shapes code (nests exec) no_more)

-- an executive
title_by : (name : List ℕ) (rest : Bool) → (is_head (title_pieces name) && rest) ≡ rest
title_by [] rest = refl
title_by (byte ∷ name) rest = refl

exec_shapes : (code : Program) (exec : ℕ) → Shapes (exec_said code exec)
exec_shapes code exec more = title_by (exec_of code exec).name (is_shaped more)

-- the text
pub flat_shaped : (code : Program) (nests : ℕ → Nest) → is_shaped (flat_said code nests) ≡ true
flat_shaped code nests =
    let ends = each_said (exec_said code) (executives code) no_more in
    let bursts = each_said burst_said (executives code) ends in
    let patterns = each_said (pattern_said code nests) (executives code) bursts in
    let rows = rows_said code patterns in
    let timings = each_said (timing_said code) (executives code) rows in
    signals_shape code timings ∙ shapes_each (timing_said code) (timing_shapes code) (executives code) rows ∙ rows_shape code patterns
    ∙ shapes_each (pattern_said code nests) (pattern_shapes code nests) (executives code) bursts
    ∙ shapes_each burst_said (λ exec more. refl) (executives code) ends
    ∙ shapes_each (exec_said code) (exec_shapes code) (executives code) no_more
