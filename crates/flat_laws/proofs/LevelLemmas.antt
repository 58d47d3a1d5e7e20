-- The blocks of a flat text nest as deep as its Loops, and a Pattern's block round them.
use Rattle.std.proofs.Common.{◌≡◌, ℕ, suc, ◌+◌, ◌-◌, ◌<◌, ◌≤◌, Bool, true, false, cond, ◌&&◌, List, [], ◌∷◌, length, arith, refl}
use Rattle.std.specs.Prelude.{nat_lt}
use Rattle.std.specs.List.{AllByRecursion, range_with_len}
use Rattle.std.proofs.lemmas.Bool.{and_parts, and_from, lt-ltb}
use Rattle.tester_types.specs.declared.wave.Wave.{Wave}
use Rattle.stil_tree.specs.Grammar.{most_levels}
use Rattle.packed_code.specs.Program.{Program}
use Rattle.line_texts.specs.Said.{Said, no_more, space, statement, braced, each_said, spaced, next_line, count_of}
use Rattle.line_texts.specs.Tests.{is_head, fits}
use Rattle.flat_parts.specs.Order.{row_order}
use Rattle.flat_parts.specs.FlatText.{executives}
use Rattle.flat_parts.specs.FlatBlocks.{table_numbered, own_numbers, given_from, row_numbered}
use Rattle.flat_parts.specs.Nests.{Nest, nothing, run, loop, row_name}
use Rattle.flat_said.specs.FlatSaid.{signal_said, event_said, wave_said, table_said, timing_said, gift_said, row_said, rows_said, call_said, loop_head, nest_said, pattern_said, burst_said, exec_said, flat_said}
use Rattle.flat_said.specs.Shape.{is_shaped}
use Rattle.flat_fine.specs.Fits.{HasRoom}

-- blocks may be opened inside so many others
abbrev IsLow : ℕ → Said → Type 0
IsLow depth no_more = Unit {0}
IsLow depth (space text more) = IsLow depth more
IsLow depth (statement head more) = IsLow depth more
IsLow depth (braced head body more) = (depth < most_levels) × IsLow (suc depth) body × IsLow depth more

-- then statements with heads such as the grammar has them fit
low_fits : (depth : ℕ) (s : Said) → is_shaped s ≡ true → IsLow depth s → fits depth s ≡ true
low_fits depth no_more shaped low = refl
low_fits depth (space text more) shaped low = low_fits depth more shaped low
low_fits depth (statement head more) shaped low =
    let p = and_parts (nat_lt 0 (count_of head) && is_head head) (is_shaped more) shaped in
    and_from (nat_lt 0 (count_of head) && is_head head) (fits depth more) p.0 (low_fits depth more p.1 low)
low_fits depth (braced head body more) shaped low =
    let p = and_parts (is_head head) (is_shaped body && is_shaped more) shaped in
    let q = and_parts (is_shaped body) (is_shaped more) p.1 in
    and_from (nat_lt depth most_levels && is_head head) (fits (suc depth) body && fits depth more)
    (and_from (nat_lt depth most_levels) (is_head head) (lt-ltb depth most_levels low.0) p.0)
    (and_from (fits (suc depth) body) (fits depth more) (low_fits (suc depth) body q.0 low.1) (low_fits depth more q.1 low.2))

-- statements in front of others
abbrev Low : ℕ → (Said → Said) → Type 0
Low depth said = (more : Said) → IsLow depth more → IsLow depth (said more)

low_each : {X : Type 0} (depth : ℕ) (said : X → Said → Said) → ((x : X) → Low depth (said x)) → (xs : List X)
    → Low depth (each_said said xs)
low_each depth said one [] more low = low
low_each depth said one (x ∷ xs) more low = one x (each_said said xs more) (low_each depth said one xs more low)

wave_low : (code : Program) (wave : Wave) → Low 3 (wave_said code wave)
wave_low code wave more low =
    (omega arith, (omega arith, low_each 5 event_said (λ e rest l. l) wave.events no_more tt, tt), low)

table_low : (code : Program) (number : ℕ) → Low 1 (table_said code number)
table_low code number more low = (
  omega arith,
  (
    omega arith,
    low_each 3 (wave_said code) (wave_low code)
        (table_numbered code number).waves no_more tt,
    tt,
  ),
  low,
)

timing_low : (code : Program) (exec : ℕ) → Low 0 (timing_said code exec)
timing_low code exec more low = (
  omega arith,
  low_each 1 (table_said code) (table_low code)
      (own_numbers code exec) no_more tt,
  low,
)

row_low : (code : Program) (number : ℕ) → Low 1 (row_said code number)
row_low code number more low = (
  omega arith,
  (
    omega arith,
    low_each 3 gift_said (λ g rest l. l)
        (given_from code 0 (row_numbered code number)) no_more tt,
    tt,
  ),
  low,
)

rows_low : (code : Program) → Low 0 (rows_said code)
rows_low code more low =
    (omega arith, low_each 1 (row_said code) (row_low code) (range_with_len 0 (length (row_order code))) no_more tt, low)

-- a call, so many times
calls_by : (depth : ℕ) (name : List ℕ) (times : ℕ) (many : Bool) (more : Said) → depth < most_levels → IsLow depth more
    → IsLow depth
    (cond many (braced (loop_head times) (spaced (call_said name (spaced no_more))) (next_line more))
    (call_said name (next_line more)))
calls_by depth name times true more room low = (room, tt, low)
calls_by depth name times false more room low = low

-- instructions
nest_low : (code : Program) (nest : Nest) (depth left : ℕ) → depth + left ≤ most_levels → HasRoom left nest
    → Low depth (nest_said code nest)
nest_low code nothing depth left few room more low = low
nest_low code (run lines table row mark times rest) depth left few room more low =
    let some = room.0 in
    calls_by depth (row_name code row) times (nat_lt 1 times) (nest_said code rest more) (omega (arith, few, some))
    (nest_low code rest depth left few room.1 more low)
nest_low code (loop line times body rest) depth left few room more low =
    let some = room.0 in (
      omega (arith, few, some),
      nest_low code body (suc depth) (left - 1) (omega (arith, few, some)) room.1 no_more tt,
      nest_low code rest depth left few room.2 more low,
    )

pattern_low : (code : Program) (nests : ℕ → Nest) (left exec : ℕ) → left < most_levels → HasRoom left (nests exec)
    → Low 0 (pattern_said code nests exec)
pattern_low code nests left exec few room more low =
    (omega arith, nest_low code (nests exec) 1 left (omega (arith, few)) room no_more tt, low)

patterns_low : (code : Program) (nests : ℕ → Nest) (left : ℕ) → left < most_levels → (numbers : List ℕ)
    → AllByRecursion (λ exec. HasRoom left (nests exec)) numbers → Low 0 (each_said (pattern_said code nests) numbers)
patterns_low code nests left few [] room more low = low
patterns_low code nests left few (n ∷ numbers) room more low =
    pattern_low code nests left n few room.0 (each_said (pattern_said code nests) numbers more)
    (patterns_low code nests left few numbers room.1 more low)

burst_low : (exec : ℕ) → Low 0 (burst_said exec)
burst_low exec more low = (omega arith, (omega arith, tt, tt), low)

exec_low : (code : Program) (exec : ℕ) → Low 0 (exec_said code exec)
exec_low code exec more low = (omega arith, tt, low)

-- the text
pub flat_low : (code : Program) (nests : ℕ → Nest) (left : ℕ) → left < most_levels
    → AllByRecursion (λ exec. HasRoom left (nests exec)) (executives code) → is_shaped (flat_said code nests) ≡ true
    → fits 0 (flat_said code nests) ≡ true
flat_low code nests left few room shaped =
    let ends = each_said (exec_said code) (executives code) no_more in
    let bursts = each_said burst_said (executives code) ends in
    let patterns = each_said (pattern_said code nests) (executives code) bursts in
    let rows = rows_said code patterns in
    low_fits 0 (flat_said code nests) shaped (
      omega arith,
      low_each 1 signal_said (λ s rest l. l) code.signals no_more tt,
      low_each 0 (timing_said code) (timing_low code) (executives code) rows
          (rows_low code patterns
          (patterns_low code nests left few (executives code) room bursts
          (low_each 0 burst_said burst_low (executives code) ends
          (low_each 0 (exec_said code) (exec_low code) (executives code) no_more tt)))),
    )
