-- The flat text of a code is no longer than its numbers say: `flat_short`.
use Rattle.std.proofs.Common.{◌≡◌, ℕ, zero, suc, ◌+◌, ◌-◌, ◌*◌, ◌^◌, ◌<◌, ◌≤◌, Bool, true, false, cond, List, [], ◌∷◌, ◌++◌, length, length-append, map, flat_map, decimal, take, slice_get, Option, Some, None, refl, ap, arith}
use Rattle.std.specs.Prelude.{sum_by, codes, ◌==◌, nat_lt, slice_index_or}
use Rattle.std.specs.List.{AllByRecursion, range_with_len}
use Rattle.std.specs.Option.{option_map_or}
use Rattle.std.proofs.lemmas.List.Sums.{sum_by-cons}
use Rattle.std.proofs.lemmas.List.FromFn.{length-range_with_len}
use Rattle.std.proofs.lemmas.Option.{get_or_from_slice_get}
use Rattle.text_bytes.specs.Limits.{longest_period}
use Rattle.tester_types.specs.Printing.{quoted}
use Rattle.tester_types.specs.declared.signal.Direction.{Direction}
use Rattle.tester_types.specs.declared.signal.Direction.TheVariants as direction
use Rattle.tester_types.specs.declared.wave.Act.{Act}
use Rattle.tester_types.specs.declared.wave.Act.TheVariants as act
use Rattle.tester_types.specs.declared.wave.Push.TheVariants as push
use Rattle.tester_types.specs.declared.wave.Look.TheVariants as look
use Rattle.tester_types.specs.declared.wave.Event.{Event}
use Rattle.tester_types.specs.declared.wave.Wave.{Wave}
use Rattle.tester_types.specs.declared.wave.Table.{Table}
use Rattle.packed_code.specs.declared.instr.Instr.{Instr}
use Rattle.packed_code.specs.declared.instr.Instr.TheVariants.{Run, Loop, End, Done}
use Rattle.packed_code.specs.declared.parts.CodeSignal.{CodeSignal}
use Rattle.packed_code.specs.Whole.{IsRest}
use Rattle.packed_code.specs.Program.{Exec, Program}
use Rattle.packed_code.specs.Conditions.{IsTable, IsProgram, characters_of}
use Rattle.packed_code.specs.Cycles.{exec_of}
use Rattle.packed_code.proofs.Lists.{all_of_any}
use Rattle.flat_parts.specs.Order.{is_in, tables_in, table_order, row_order, number_in}
use Rattle.flat_parts.specs.FlatText.{opening, braced, name_of, direction_word, signal_line, signal_lines, act_letter, event_item, wave_front, wave_line, waveform_lines, period_line, table_lines, numbered_table, own_table, timing_lines, signal_item, character_items, row_front, row_line, row_lines, one_line, many_line, run_line, instr_lines, pattern_lines, burst_line, title, exec_parts, exec_line, executives, flat_text}
use Rattle.flat_fine.proofs.ListLemmas.{fits_behind, at_range}
use Rattle.flat_fine.proofs.ScopeLemmas.{each_at}
use Rattle.flat_fine.proofs.ExecLemmas as order
use Rattle.flat_fine.proofs.ExecLemmas.{each_so, few_tables, exec_fits}
use Rattle.flat_cycles.proofs.TableLemmas.{waves_fit}
use Rattle.flat_cycles.proofs.WaveLemmas.{WaveFits}
use Rattle.saved_laws.specs.Size.{events_in}
use Rattle.text_commands.proofs.OrderSums.{by_places, tables_few, few_rows}
use Rattle.text_commands.proofs.SizeLemmas.{size, size_nil, size_cons, size_both, size_block, size_flat, size_map, items_long, sum_same_each, sum_both, digits_few, place_few, three_long, five_long, seven_long}

-- ---- signals

direction_long : (d : Direction) → length (direction_word d) ≤ 6
direction_long direction.In = omega arith
direction_long direction.Out = omega arith
direction_long direction.InOut = omega arith
direction_long direction.Supply = omega arith
direction_long direction.Pseudo = omega arith

quoted_long : (name : List ℕ) → length (quoted name) ≡ length name + 2
quoted_long name = omega (arith, length-append name (34 ∷ []))

signal_long : (s : CodeSignal) → length (signal_line s) + 1 ≤ 11 + length s.name
signal_long s =
    let word = direction_long s.direction in
    let blank : length (codes " ") ≡ 1 = refl in
    let stop : length (codes ";") ≡ 1 = refl in
    omega (
      arith,
      length-append (quoted s.name ++ codes " " ++ direction_word s.direction) (codes ";"),
      three_long (quoted s.name) (codes " ") (direction_word s.direction),
      quoted_long s.name,
      word,
      blank,
      stop,
    )

-- ---- tables

letter_long : (a : Act) → length (act_letter a) ≤ 1
letter_long (act.Push push.Down) = omega arith
letter_long (act.Push push.Up) = omega arith
letter_long (act.Push push.Off) = omega arith
letter_long (act.Push push.Unknown) = omega arith
letter_long (act.Push push.Prior) = omega arith
letter_long (act.Look look.Low) = omega arith
letter_long (act.Look look.High) = omega arith
letter_long (act.Look look.Off) = omega arith
letter_long (act.Look look.LowWindow) = omega arith
letter_long (act.Look look.HighWindow) = omega arith
letter_long (act.Look look.OffWindow) = omega arith
letter_long (act.Look look.Close) = omega arith

event_long : (e : Event) → e.time ≤ longest_period → length (event_item e) ≤ 28
event_long e few =
    let digits = digits_few e.time (omega (arith, few)) in
    let letter = letter_long e.act in
    let a : length (codes "'") ≡ 1 = refl in
    let b : length (codes "fs' ") ≡ 4 = refl in
    let c : length (codes "; ") ≡ 2 = refl in
    omega (
      arith,
      digits,
      letter,
      a,
      b,
      c,
      five_long (codes "'") (decimal e.time) (codes "fs' ") (act_letter e.act)
          (codes "; "),
    )

braced_long : (before items behind : List ℕ)
    → length (braced before items behind) ≡ length before + length items + length behind + 3
braced_long before items behind =
    let a : length (codes "{ ") ≡ 2 = refl in
    let b : length (codes "}") ≡ 1 = refl in
    omega (
      arith,
      a,
      b,
      length-append (before ++ codes "{ ") (items ++ (codes "}" ++ behind)),
      length-append before (codes "{ "),
      length-append items (codes "}" ++ behind),
      length-append (codes "}") behind,
    )

front_long : (name : List ℕ) (character : ℕ) → length (wave_front name character) ≡ length name + 7
front_long name character =
    let a : length (codes " { ") ≡ 3 = refl in
    let b : length (character ∷ codes " ") ≡ 2 = refl in
    omega (arith, a, b, three_long (quoted name) (codes " { ") (character ∷ codes " "), quoted_long name)

opening_long : (words : List ℕ) (number : ℕ) → number < 2 ^ 64 → length (opening words number) ≤ length words + 23
opening_long words number small =
    let digits = digits_few number small in
    let a : length (codes "\" {") ≡ 3 = refl in
    omega (arith, a, digits, three_long words (decimal number) (codes "\" {"))

-- the most bytes of a table
abbrev pub table_most : ℕ → Table → ℕ
table_most longest t = 90 + (length t.waves * (longest + 14) + 32 * events_in t)

-- where no name of a signal is longer
module _ (code : Program) (program : IsProgram code) (longest : ℕ)
    (short : AllByRecursion (λ (s : CodeSignal). length s.name ≤ longest) code.signals) where
  name_long : (signal : ℕ) → length (name_of code signal) ≤ longest
  name_long signal = by_list code.signals signal short
    where
      by_list : (ss : List CodeSignal) (n : ℕ) → AllByRecursion (λ (s : CodeSignal). length s.name ≤ longest) ss
          → length (option_map_or (λ (s : CodeSignal). s.name) (slice_get ss n) []) ≤ longest
      by_list [] n all = omega arith
      by_list (s ∷ ss) zero all = all.0
      by_list (s ∷ ss) (suc n) all = by_list ss n all.1

  wave_long : (w : Wave) → AllByRecursion (λ (e : Event). e.time ≤ longest_period) w.events
      → length (wave_line code w) + 1 ≤ longest + 14 + 32 * length w.events
  wave_long w times =
      let items = items_long event_item (λ (e : Event). 28) w.events
      (each_so (λ (e : Event). e.time ≤ longest_period)
      (λ (e : Event). length (event_item e) ≤ 28) w.events event_long times) in
      let many = sum_same_each 28 w.events in
      let name = name_long w.signal in
      let end : length (codes " }") ≡ 2 = refl in
      omega (
        arith,
        items,
        many,
        name,
        end,
        braced_long (wave_front (name_of code w.signal) w.character) (flat_map event_item w.events) (codes " }"),
        front_long (name_of code w.signal) w.character,
      )

  waves_long : (ws : List Wave) → AllByRecursion (WaveFits (length code.signals)) ws
      → size (map (wave_line code) ws) ≤ length ws * (longest + 14) + 32 * sum_by (λ (w : Wave). length w.events) ws
  waves_long [] fit = let none = size_nil in omega (arith, none)
  waves_long (w ∷ ws) fit =
      let here = wave_long w fit.0.times in
      let behind = waves_long ws fit.1 in
      let more : suc (length ws) * (longest + 14) ≡ length ws * (longest + 14) + (longest + 14) = grind arith in
      omega (
        arith,
        here,
        behind,
        more,
        size_cons (wave_line code w) (map (wave_line code) ws),
        sum_by-cons (λ (w : Wave). length w.events) w ws,
      )

  table_long : (number : ℕ) (before : List Table) (t : Table) → number < 2 ^ 64 → IsTable (length code.signals) before t
      → size (table_lines code number t) ≤ table_most longest t
  table_long number before t small fits =
      let waves = waves_long t.waves (waves_fit (length code.signals) t.period _ t.waves fits.period fits.waves) in
      let head = opening_long (codes "WaveformTable \"w") number small in
      let long = digits_few t.period (let few = fits.period in omega (arith, few)) in
      let a : length (codes "WaveformTable \"w") ≡ 16 = refl in
      let b : length (codes "Period '") ≡ 8 = refl in
      let c : length (codes "fs';") ≡ 4 = refl in
      let d : length (codes "Waveforms {") ≡ 11 = refl in
      omega (
        arith,
        waves,
        head,
        long,
        a,
        b,
        c,
        d,
        size_block (opening (codes "WaveformTable \"w") number) (period_line t.period ∷ waveform_lines code t),
        size_cons (period_line t.period) (waveform_lines code t),
        three_long (codes "Period '") (decimal t.period) (codes "fs';"),
        size_block (codes "Waveforms {") (map (wave_line code) t.waves),
      )

  -- a table of the text, by its number there
  table_at_long : (number old : ℕ) → number < 2 ^ 64
      → size (numbered_table code number old) ≤ option_map_or (table_most longest) (slice_get code.tables old) 0
  table_at_long number old small = by_option (slice_get code.tables old) refl
    where
      by_option : (o : Option Table) → slice_get code.tables old ≡ o
          → size (option_map_or (table_lines code number) o []) ≤ option_map_or (table_most longest) o 0
      by_option None at = let none = size_nil in omega (arith, none)
      by_option (Some t) at =
          table_long number (take old code.tables) t small
          (fits_behind (IsTable (length code.signals)) [] code.tables old t program.tables at)

  abbrev most_at : ℕ → ℕ
  most_at old = option_map_or (table_most longest) (slice_get code.tables old) 0

  own_long : (exec number : ℕ) → number < 2 ^ 64
      → size (own_table code exec number) ≤ most_at (slice_index_or (table_order code) number 0)
  own_long exec number small =
      let old = slice_index_or (table_order code) number 0 in
      by_test (is_in (tables_in (exec_of code exec)) old) old
    where
      by_test : (b : Bool) (old : ℕ) → size (cond b (numbered_table code number old) []) ≤ most_at old
      by_test true old = table_at_long number old small
      by_test false old = let none = size_nil in omega (arith, none)

  timing_long : (exec : ℕ) → exec < 2 ^ 64 → size (timing_lines code exec) ≤ 35 + sum_by (table_most longest) code.tables
  timing_long exec small =
      let few = few_tables code program in
      let all = size_flat (own_table code exec) (λ (number : ℕ). most_at (slice_index_or (table_order code) number 0))
      (range_with_len 0 (length (table_order code)))
      (each_at (λ number. size (own_table code exec number) ≤ most_at (slice_index_or (table_order code) number 0))
      (range_with_len 0 (length (table_order code)))
      (λ i number at. let r = at_range (length (table_order code)) i number at in own_long exec number
      (omega (arith, r.0, r.1, few)))) in
      let sums = tables_few code program most_at (table_most longest)
      (λ i t at. let same = ap (λ (o : Option Table). option_map_or (table_most longest) o 0) at in omega (arith, same)) in
      let head = opening_long (codes "Timing \"t") exec small in
      let a : length (codes "Timing \"t") ≡ 9 = refl in
      omega (
        arith,
        all,
        sums,
        head,
        a,
        size_block (opening (codes "Timing \"t") exec)
            (flat_map (own_table code exec) (range_with_len 0 (length (table_order code)))),
      )

  -- ---- rows

  item_by : (b : Bool) (name : List ℕ) (character : ℕ)
      → length (cond b [] (quoted name ++ codes "=" ++ character ∷ codes "; ")) ≤ 6 + length name
  item_by true name character = omega arith
  item_by false name character =
      let a : length (codes "=") ≡ 1 = refl in
      let b : length (character ∷ codes "; ") ≡ 3 = refl in
      omega (arith, a, b, three_long (quoted name) (codes "=") (character ∷ codes "; "), quoted_long name)

  abbrev names : ℕ
  names = sum_by (λ (s : CodeSignal). length s.name) code.signals

  items_few : (row : List ℕ) → length (character_items code row) ≤ length code.signals * 6 + names
  items_few row =
      let long = items_long (signal_item code row) (λ (s : ℕ). 6 + length (name_of code s))
      (range_with_len 0 (length code.signals))
      (all_of_any (λ s. length (signal_item code row s) ≤ 6 + length (name_of code s)) (range_with_len 0 (length code.signals))
      (λ s. item_by (slice_index_or row s 0 == 0) (name_of code s) (slice_index_or row s 0))) in
      let places = by_places (λ (s : ℕ). 6 + length (name_of code s)) (λ (s : CodeSignal). 6 + length s.name) code.signals
      (λ i s at. let same = ap (λ (o : Option CodeSignal). length
      (option_map_or (λ (x : CodeSignal). x.name) o [])) at in omega (arith, same)) in
      omega (arith, long, places, sum_both 6 (λ (s : CodeSignal). length s.name) code.signals)

  row_long : (number : ℕ) → number < 2 ^ 64 → length (row_line code number) + 1 ≤ 36 + (length code.signals * 6 + names)
  row_long number small =
      let row = characters_of code.rows (slice_index_or (row_order code) number 0) in
      let items = items_few row in
      let digits = digits_few number small in
      let a : length (codes "\"r") ≡ 2 = refl in
      let b : length (codes "\" { V ") ≡ 6 = refl in
      let c : length (codes " }") ≡ 2 = refl in
      omega (
        arith,
        items,
        digits,
        a,
        b,
        c,
        braced_long (row_front number) (character_items code row) (codes " }"),
        three_long (codes "\"r") (decimal number) (codes "\" { V "),
      )

  rows_long : size (row_lines code) ≤ 15 + length code.rows * (36 + (length code.signals * 6 + names))
  rows_long =
      let numbers = range_with_len 0 (length (row_order code)) in
      let each = 36 + (length code.signals * 6 + names) in
      let few = order.few_rows code program in
      let all = size_map (row_line code) (λ (n : ℕ). each) numbers
      (each_at (λ n. length (row_line code n) + 1 ≤ each) numbers
      (λ i n at. let r = at_range (length (row_order code)) i n at in row_long n (omega (arith, r.0, r.1, few)))) in
      let sum = sum_same_each each numbers in
      let some = few_rows code program in
      let ones = sum_same_each 1 numbers in
      let rows = sum_same_each 1 code.rows in
      let count : length numbers ≤ length code.rows = omega (arith, some, ones, rows) in
      let product = times_rise (length numbers) (length code.rows) each count in
      let a : length (codes "Procedures {") ≡ 12 = refl in
      omega (arith, all, sum, product, a, size_block (codes "Procedures {") (map (row_line code) numbers))
    where
      times_rise : (m n k : ℕ) → m ≤ n → m * k ≤ n * k
      times_rise m n zero less = omega arith
      times_rise m n (suc k) less = let behind = times_rise m n k less in omega (arith, behind, less)

  -- ---- patterns

  run_long : (table row times : ℕ) → table < 2 ^ 64 → row < 2 ^ 64 → times < 2 ^ 64 → length (run_line table row times) + 1 ≤ 88
  run_long table row times small low few =
      let t = digits_few table small in
      let r = digits_few row low in
      let n = digits_few times few in
      by_test (nat_lt 1 times) t r n
    where
      by_test : (b : Bool) → length (decimal table) ≤ 20 → length (decimal row) ≤ 20 → length (decimal times) ≤ 20
          → length (cond b (many_line table row times) (one_line table row)) + 1 ≤ 88
      by_test true t r n =
          let a : length (codes "W \"w") ≡ 4 = refl in
          let b : length (codes "\"; Loop ") ≡ 8 = refl in
          let c : length (codes " { Call \"r") ≡ 10 = refl in
          let d : length (codes "\"; }") ≡ 4 = refl in
          omega (
            arith,
            t,
            r,
            n,
            a,
            b,
            c,
            d,
            seven_long (codes "W \"w") (decimal table) (codes "\"; Loop ")
                (decimal times) (codes " { Call \"r") (decimal row) (codes "\"; }"),
          )
      by_test false t r n =
          let a : length (codes "W \"w") ≡ 4 = refl in
          let b : length (codes "\"; Call \"r") ≡ 10 = refl in
          let c : length (codes "\";") ≡ 2 = refl in
          omega (arith, t, r, n, a, b, c, five_long (codes "W \"w") (decimal table) (codes "\"; Call \"r") (decimal row) (codes "\";"))

  -- what stands for an instruction is short
  instrs_long : (depth : ℕ) (begun : Bool) (is : List Instr) → IsRest depth begun is
      → size (flat_map (instr_lines code) is) ≤ 88 * length is
  instrs_long depth begun [] rest = absurd rest
  instrs_long depth begun (Run table row mark times ∷ is) rest =
      let behind = instrs_long depth false is rest.2 in
      let few = few_tables code program in
      let low = order.few_rows code program in
      let at = place_few (table_order code) table in
      let place = place_few (row_order code) row in
      let times_few = rest.1 in
      let line = run_line (number_in (table_order code) table) (number_in (row_order code) row) times in
      let here = run_long (number_in (table_order code) table) (number_in (row_order code) row) times
      (omega (arith, few, at)) (omega (arith, low, place)) (omega (arith, times_few)) in
      omega (arith, behind, here, size_cons line (flat_map (instr_lines code) is))
  instrs_long depth begun (Loop times ∷ is) rest =
      let behind = instrs_long (suc depth) true is rest.3 in
      let most = rest.1 in
      let digits = digits_few times (omega (arith, most)) in
      let a : length (codes "Loop ") ≡ 5 = refl in
      let b : length (codes " {") ≡ 2 = refl in
      omega (
        arith,
        behind,
        digits,
        a,
        b,
        size_cons (codes "Loop " ++ decimal times ++ codes " {")
            (flat_map (instr_lines code) is),
        three_long (codes "Loop ") (decimal times) (codes " {"),
      )
  instrs_long depth begun (End ∷ is) rest =
      let behind = instrs_long (depth - 1) false is rest.2 in
      let a : length (codes "}") ≡ 1 = refl in
      omega (arith, behind, a, size_cons (codes "}") (flat_map (instr_lines code) is))
  instrs_long depth begun (Done ∷ []) rest = let none = size_nil in omega (arith, none)
  instrs_long depth begun (Done ∷ i ∷ is) rest = absurd (let e = rest.1 in cc)

  pattern_long : (exec : ℕ) → exec < length code.execs
      → size (pattern_lines code exec) ≤ 36 + 88 * length (exec_of code exec).instrs
  pattern_long exec less =
      let few = program.few_execs in
      let all = instrs_long 0 false (exec_of code exec).instrs (exec_fits code program exec less).whole.rest in
      let head = opening_long (codes "Pattern \"p") exec (omega (arith, less, few)) in
      let a : length (codes "Pattern \"p") ≡ 10 = refl in
      omega (
        arith,
        all,
        head,
        a,
        size_block (opening (codes "Pattern \"p") exec)
            (flat_map (instr_lines code) (exec_of code exec).instrs),
      )

  -- ---- bursts and executives

  burst_long : (exec : ℕ) → exec < 2 ^ 64 → length (burst_line exec) + 1 ≤ 78
  burst_long exec small =
      let digits = digits_few exec small in
      let a : length (codes "PatternBurst \"b") ≡ 15 = refl in
      let b : length (codes "\" { PatList { \"p") ≡ 16 = refl in
      let c : length (codes "\"; } }") ≡ 6 = refl in
      omega (
        arith,
        digits,
        a,
        b,
        c,
        five_long (codes "PatternBurst \"b") (decimal exec)
            (codes "\" { PatList { \"p") (decimal exec) (codes "\"; } }"),
      )

  title_long : (name : List ℕ) → length (title name) ≤ length name + 3
  title_long [] = omega arith
  title_long (byte ∷ bytes) =
      let a : length (codes " ") ≡ 1 = refl in
      omega (arith, a, length-append (codes " ") (quoted (byte ∷ bytes)), quoted_long (byte ∷ bytes))

  exec_long : (exec : ℕ) → exec < 2 ^ 64 → length (exec_line code exec) + 1 ≤ 89 + length (exec_of code exec).name
  exec_long exec small =
      let name = (exec_of code exec).name in
      let digits = digits_few exec small in
      let head = title_long name in
      let a : length (codes "PatternExec") ≡ 11 = refl in
      let b : length (codes " { Timing \"t") ≡ 12 = refl in
      let c : length (codes "\"; PatternBurst \"b") ≡ 18 = refl in
      let d : length (codes "\"; }") ≡ 4 = refl in
      omega (
        arith,
        digits,
        head,
        a,
        b,
        c,
        d,
        length-append (codes "PatternExec") (title name ++ exec_parts exec),
        length-append (title name) (exec_parts exec),
        five_long (codes " { Timing \"t") (decimal exec) (codes "\"; PatternBurst \"b") (decimal exec) (codes "\"; }"),
      )

  -- ---- the text

  exec_small : (i exec : ℕ) → slice_get (executives code) i ≡ Some exec → exec < length code.execs
  exec_small i exec at = let r = at_range (length code.execs) i exec at in omega (arith, r.0, r.1)

  pub flat_short : length (flat_text code)
      ≤ 40 + (length code.signals * 11 + names) + length code.rows * (36 + (length code.signals * 6 + names))
      + length code.execs * (238 + sum_by (table_most longest) code.tables)
      + 88 * sum_by (λ (x : Exec). length x.instrs) code.execs + sum_by (λ (x : Exec). length x.name) code.execs
  flat_short =
      let all = executives code in
      let few = program.few_execs in
      let tables = sum_by (table_most longest) code.tables in
      let signals = size_map signal_line (λ (s : CodeSignal). 11 + length s.name) code.signals
      (all_of_any (λ (s : CodeSignal). length (signal_line s) + 1 ≤ 11 + length s.name) code.signals signal_long) in
      let timings = size_flat (timing_lines code) (λ (exec : ℕ). 35 + tables) all
      (each_at (λ exec. size (timing_lines code exec) ≤ 35 + tables) all
      (λ i exec at. let less = exec_small i exec at in timing_long exec (omega (arith, less, few)))) in
      let patterns = size_flat (pattern_lines code) (λ (exec : ℕ). 36 + 88 * length (exec_of code exec).instrs) all
      (each_at (λ exec. size (pattern_lines code exec) ≤ 36 + 88 * length (exec_of code exec).instrs) all
      (λ i exec at. pattern_long exec (exec_small i exec at))) in
      let bursts = size_map burst_line (λ (exec : ℕ). 78) all
      (each_at (λ exec. length (burst_line exec) + 1 ≤ 78) all
      (λ i exec at. let less = exec_small i exec at in burst_long exec (omega (arith, less, few)))) in
      let execs = size_map (exec_line code) (λ (exec : ℕ). 89 + length (exec_of code exec).name) all
      (each_at (λ exec. length (exec_line code exec) + 1 ≤ 89 + length (exec_of code exec).name) all
      (λ i exec at. let less = exec_small i exec at in exec_long exec (omega (arith, less, few)))) in
      let count = length-range_with_len 0 (length code.execs) in
      let many = sum_same_each (35 + tables) all in
      let some = sum_same_each 78 all in
      let pieces = by_places (λ (exec : ℕ). 36 + 88 * length (exec_of code exec).instrs)
      (λ (x : Exec). 36 + 88 * length x.instrs) code.execs
      (λ i x at.
      let same = ap (λ (y : Exec). length y.instrs) (get_or_from_slice_get code.execs i x
      (record { name = []; chains = []; instrs = [] }) at) in
      omega (arith, same)) in
      let titles = by_places (λ (exec : ℕ). 89 + length (exec_of code exec).name) (λ (x : Exec). 89 + length x.name) code.execs
      (λ i x at.
      let same = ap (λ (y : Exec). length y.name) (get_or_from_slice_get code.execs i x
      (record { name = []; chains = []; instrs = [] }) at) in
      omega (arith, same)) in
      let head : length (codes "STIL 1.0;") ≡ 9 = refl in
      let opens : length (codes "Signals {") ≡ 9 = refl in
      let product : length code.execs * (238 + tables) ≡ 203 * length code.execs + length code.execs * (35 + tables) =
      grind arith in
      let own : length all * (35 + tables) ≡ length code.execs * (35 + tables) = ap (λ (n : ℕ). n * (35 + tables)) count in
      let rest = signal_lines code in
      let t = flat_map (timing_lines code) all in
      let r = row_lines code in
      let p = flat_map (pattern_lines code) all in
      let b = map burst_line all in
      let e = map (exec_line code) all in
      omega (
        arith,
        signals,
        timings,
        rows_long,
        patterns,
        bursts,
        execs,
        count,
        many,
        own,
        some,
        pieces,
        titles,
        head,
        opens,
        product,
        sum_both 11 (λ (s : CodeSignal). length s.name) code.signals,
        sum_both 36 (λ (x : Exec). 88 * length x.instrs) code.execs,
        sum_both 89 (λ (x : Exec). length x.name) code.execs,
        times_out code.execs,
        size_block (codes "Signals {") (map signal_line code.signals),
        size_cons (codes "STIL 1.0;") (rest ++ t ++ r ++ p ++ b ++ e),
        size_both (rest ++ t ++ r ++ p ++ b) e,
        size_both (rest ++ t ++ r ++ p) b,
        size_both (rest ++ t ++ r) p,
        size_both (rest ++ t) r,
        size_both rest t,
      )
    where
      times_out : (xs : List Exec) → sum_by (λ (x : Exec). 88 * length x.instrs) xs ≡ 88 * sum_by
          (λ (x : Exec). length x.instrs) xs
      times_out [] = refl
      times_out (x ∷ xs) =
          let behind = times_out xs in
          omega (
            arith,
            behind,
            sum_by-cons (λ (y : Exec). 88 * length y.instrs) x xs,
            sum_by-cons
                (λ (y : Exec). length y.instrs) x xs,
          )
