-- A text that is what a code says is read as the code's blocks.
use Rattle.std.proofs.Common.{◌≡◌, ℕ, zero, suc, ◌+◌, ◌^◌, ◌≤◌, ◌<◌, Bool, List, [], ◌∷◌, ◌++◌, length, None, Ok, refl, sym, ap, subst, ◌∙◌, append-nil, arith, inl, inr}
use Rattle.std.specs.Prelude.{slice_index_or}
use Rattle.std.specs.List.{AllByRecursion, range_with_len}
use Rattle.std.proofs.lemmas.List.FromFn.{length-range_with_len}
use Rattle.stil_lex.specs.declared.token.Token.{Token}
use Rattle.stil_tree.specs.Trees.{Entry, entries}
use Rattle.answers.specs.Reading.{stepping}
use Rattle.stil_ast.specs.declared.timing.TimingBlock.{TimingBlock}
use Rattle.stil_ast.specs.declared.blocks.Blocks.{Blocks}
use Rattle.stil_ast.specs.declared.blocks.Pattern.{Pattern}
use Rattle.stil_ast.specs.declared.executive.Burst.{Burst}
use Rattle.stil_ast.specs.declared.executive.ExecDecl.{ExecDecl}
use Rattle.stil_read.specs.Top.{Top, top_step, start, is_stil_1_0, with_executive, finished, behind_header}
use Rattle.packed_code.specs.declared.instr.Instr.{Instr}
use Rattle.packed_code.specs.declared.instr.Instr.TheVariants.{Done}
use Rattle.packed_code.specs.Program.{Program}
use Rattle.packed_code.specs.Conditions.{IsProgram}
use Rattle.packed_code.specs.Cycles.{exec_of}
use Rattle.line_texts.specs.Said.{Said, no_more, trees_at, each_said}
use Rattle.line_texts.proofs.StandingLemmas.{Stands, unspaced, statement_head, behind_statement, behind_braced}
use Rattle.flat_parts.specs.Order.{is_in, tables_in, table_order, row_order}
use Rattle.flat_parts.specs.Nests.{Nest}
use Rattle.flat_parts.specs.FlatText.{executives}
use Rattle.flat_parts.specs.FlatBlocks.{own_numbers, IsPattern, IsBurst, IsExecDecl, AreFlatBlocks}
use Rattle.flat_said.specs.FlatSaid.{signals_said, timing_said, rows_said, pattern_said, burst_said, exec_said, flat_said}
use Rattle.flat_said.specs.Laws.{AreNests}
use Rattle.flat_read.specs.Laws.{HasTooMany, IsReading, SaidIsRead}
use Rattle.flat_read.proofs.NameLemmas.{AreRising, rising_filter, rising_range}
use Rattle.flat_read.proofs.ReadingLemmas.{each_from, end_from, behind_each, Reaches, reaches_behind, zip_each, zip_all}
use Rattle.flat_read.proofs.BodyLemmas.{IsFew, lined, lined_same, stmts_written}
use Rattle.flat_read.proofs.RowLemmas.{rows_are}
use Rattle.flat_read.proofs.TableLemmas.{timing_decl, timing_entry, timing_next, timing_form, timings_are}
use Rattle.flat_read.proofs.SignalLemmas.{signals_are}
use Rattle.flat_read.proofs.BurstLemmas.{pattern_decl, pattern_entry, pattern_next, pattern_form, burst_decl, burst_entry, burst_next, burst_form}
use Rattle.flat_read.proofs.ExecLemmas.{exec_decl, exec_next, exec_is}
use Rattle.flat_read.proofs.CodeLemmas.{all_range, few_tables, few_rows, signals_fit, tables_fit, rows_fit, names_fit, texts_fit, nests_fit}
use Rattle.flat_read.proofs.TopLemmas.{blocks_with, top_with, signals_at, behind_signals, signals_step, timings_step, row_numbers, rows_at, behind_rows, rows_step, patterns_step, bursts_step, execs_step}
use Rattle.pattern_blocks.specs.Defs.{defs_called}

-- ---- where each part of the text begins, behind the header

abbrev pub timings_from : Program → ℕ
timings_from code = behind_signals code 5

abbrev pub rows_from : Program → ℕ
rows_from code = end_from (timing_next code) (timings_from code) (executives code)

abbrev pub patterns_from : Program → ℕ
patterns_from code = behind_rows code (rows_from code)

abbrev pub bursts_from : Program → (ℕ → Nest) → ℕ
bursts_from code nests = end_from (pattern_next code nests) (patterns_from code) (executives code)

abbrev pub execs_from : Program → (ℕ → Nest) → ℕ
execs_from code nests = end_from burst_next (bursts_from code nests) (executives code)

-- ---- the statements of each part, with those behind it

abbrev pub execs_on : Program → Said
execs_on code = each_said (exec_said code) (executives code) no_more

abbrev pub bursts_on : Program → Said
bursts_on code = each_said burst_said (executives code) (execs_on code)

abbrev pub patterns_on : Program → (ℕ → Nest) → Said
patterns_on code nests = each_said (pattern_said code nests) (executives code) (bursts_on code)

abbrev pub rows_on : Program → (ℕ → Nest) → Said
rows_on code nests = rows_said code (patterns_on code nests)

abbrev pub timings_on : Program → (ℕ → Nest) → Said
timings_on code nests = each_said (timing_said code) (executives code) (rows_on code nests)

abbrev pub signals_on : Program → (ℕ → Nest) → Said
signals_on code nests = signals_said code (timings_on code nests)

-- ---- the blocks

abbrev pub flat_timings : Program → List Token → List TimingBlock
flat_timings code tokens = each_from (timing_decl code tokens) (timing_next code) (timings_from code) (executives code)

abbrev pub flat_patterns : Program → (ℕ → Nest) → List Token → List Pattern
flat_patterns code nests tokens =
    each_from (pattern_decl code nests tokens) (pattern_next code nests) (patterns_from code) (executives code)

abbrev pub flat_bursts : Program → (ℕ → Nest) → List Token → List Burst
flat_bursts code nests tokens = each_from (burst_decl tokens) burst_next (bursts_from code nests) (executives code)

abbrev pub flat_execs : Program → (ℕ → Nest) → List Token → List ExecDecl
flat_execs code nests tokens = each_from (exec_decl code tokens) (exec_next code) (execs_from code nests) (executives code)

-- all of them
abbrev pub flat_blocks : Program → (ℕ → Nest) → List Token → Blocks
flat_blocks code nests tokens =
    blocks_with (signals_at code tokens 5) (flat_timings code tokens) (defs_called [] (rows_at code tokens (rows_from code)) ∷ [])
    (flat_patterns code nests tokens) (flat_bursts code nests tokens) (flat_execs code nests tokens)

-- what stands behind the Timings
abbrev pub timed_top : Program → List Token → Top
timed_top code tokens = top_with (blocks_with (signals_at code tokens 5) (flat_timings code tokens) [] [] [] [])

-- and behind the patterns
abbrev pub patterned_top : Program → (ℕ → Nest) → List Token → Top
patterned_top code nests tokens =
    top_with
    (blocks_with (signals_at code tokens 5) (flat_timings code tokens) (defs_called [] (rows_at code tokens (rows_from code)) ∷ [])
    (flat_patterns code nests tokens) [] [])

-- they are the code's
pub blocks_are : (code : Program) (nests : ℕ → Nest) (tokens : List Token) → AreNests code nests
    → AreFlatBlocks code (flat_blocks code nests tokens)
blocks_are code nests tokens are = record {
  signals = signals_are tokens code.signals 7;
  groups = refl;
  specs = refl;
  selectors = refl;
  timings = timings_are code tokens (executives code) (timings_from code);
  scans = refl;
  macros = refl;
  procedures = record {
    bodies = rows_at code tokens (rows_from code);
    one = refl;
    each = rows_are code tokens (row_numbers code) (rows_from code + 1 + 1);
  };
  patterns = zip_each (IsPattern code) (λ exec. exec < length code.execs) (pattern_decl code nests tokens) (pattern_next code nests)
      (λ at exec inside. record {
        name = refl;
        nest = lined code tokens (at + 2 + 1) (nests exec);
        instrs = are exec inside
            ∙ ap (λ (is : List Instr). is ++ Done ∷ []) (sym (lined_same code tokens (nests exec) (at + 2 + 1)));
        body = stmts_written code tokens (nests exec) (at + 2 + 1);
      }) (executives code) (patterns_from code) (all_range (length code.execs) 0 (length code.execs) (omega arith));
  bursts = zip_all IsBurst (burst_decl tokens) burst_next (λ at exec. record { name = refl; line = _; items = refl }) (executives code)
      (bursts_from code nests);
  executives = zip_all (IsExecDecl code) (exec_decl code tokens) (exec_next code) (exec_is code tokens) (executives code)
      (execs_from code nests);
}

-- ---- the way through the text

-- numbers of executives rise
execs_rise : (code : Program) → IsProgram code → AreRising 0 (executives code)
execs_rise code is = rising_range (length code.execs) 0 (omega (arith, is.few_execs))

-- those of the tables of a Timing
own_rise : (code : Program) → IsProgram code → (exec : ℕ) → AreRising 0 (own_numbers code exec)
own_rise code is exec =
    rising_filter (λ number. is_in (tables_in (exec_of code exec)) (slice_index_or (table_order code) number 0))
    (range_with_len 0 (length (table_order code))) 0 (rising_range (length (table_order code)) 0 (omega (arith, few_tables code is)))

-- up to the rows
first_way : (code : Program) (nests : ℕ → Nest) (bytes : List ℕ) (tokens : List Token) → IsProgram code
    → Stands bytes tokens 5 (signals_on code nests)
    → Reaches (HasTooMany code) (top_step bytes tokens) start (entries (trees_at 5 (signals_on code nests)))
    (timed_top code tokens) (entries (trees_at (rows_from code) (rows_on code nests)))
first_way code nests bytes tokens is stands =
    let step = top_step bytes tokens in
    let signals = signals_at code tokens 5 in
    let s1 : Stands bytes tokens (timings_from code) (timings_on code nests) = unspaced (behind_braced stands) in
    reaches_behind step start (top_with (blocks_with signals [] [] [] [] []))
    (top_with (blocks_with signals (flat_timings code tokens) [] [] [] []))
    (entries (trees_at 5 (signals_on code nests))) (entries (trees_at (timings_from code) (timings_on code nests)))
    (entries (trees_at (rows_from code) (rows_on code nests)))
    (signals_step code bytes tokens 5 (timings_on code nests) (signals_fit code is) stands)
    (timings_step code bytes tokens signals (executives code) (timings_from code) (rows_on code nests) (tables_fit code is)
    (own_rise code is) (execs_rise code is) (all_range (length code.execs) 0 (length code.execs) (omega arith)) s1)

-- and on to the bursts
second_way : (code : Program) (nests : ℕ → Nest) (bytes : List ℕ) (tokens : List Token) → IsProgram code → AreNests code nests
    → Stands bytes tokens (rows_from code) (rows_on code nests)
    → Reaches (HasTooMany code) (top_step bytes tokens) (timed_top code tokens)
    (entries (trees_at (rows_from code) (rows_on code nests))) (patterned_top code nests tokens)
    (entries (trees_at (bursts_from code nests) (bursts_on code)))
second_way code nests bytes tokens is are stands =
    let step = top_step bytes tokens in
    let signals = signals_at code tokens 5 in
    let timings = flat_timings code tokens in
    let rows = defs_called [] (rows_at code tokens (rows_from code)) ∷ [] in
    let s1 : Stands bytes tokens (patterns_from code) (patterns_on code nests) = unspaced (behind_braced stands) in
    reaches_behind step (top_with (blocks_with signals timings [] [] [] [])) (top_with (blocks_with signals timings rows [] [] []))
    (top_with (blocks_with signals timings rows (flat_patterns code nests tokens) [] []))
    (entries (trees_at (rows_from code) (rows_on code nests))) (entries (trees_at (patterns_from code) (patterns_on code nests)))
    (entries (trees_at (bursts_from code nests) (bursts_on code)))
    (rows_step code bytes tokens signals timings (rows_from code) (patterns_on code nests) (rows_fit code is)
    (rising_range (length (row_order code)) 0 (omega (arith, few_rows code is))) stands)
    (patterns_step code nests bytes tokens signals timings rows (executives code) (patterns_from code) (bursts_on code) (names_fit code is)
    (few_each (length code.execs) 0 (omega arith)) (execs_rise code is) s1)
  where
    few_each : (n m : ℕ) → m + n ≤ length code.execs → AllByRecursion (λ exec. IsFew (nests exec)) (range_with_len m n)
    few_each zero m inside = tt
    few_each (suc n) m inside = (nests_fit code nests is are m (omega (arith, inside)), few_each n (m + 1) (omega (arith, inside)))

-- and to the end
third_way : (code : Program) (nests : ℕ → Nest) (bytes : List ℕ) (tokens : List Token) → IsProgram code
    → Stands bytes tokens (bursts_from code nests) (bursts_on code)
    → Reaches (HasTooMany code) (top_step bytes tokens) (patterned_top code nests tokens)
    (entries (trees_at (bursts_from code nests) (bursts_on code))) (top_with (flat_blocks code nests tokens)) []
third_way code nests bytes tokens is stands =
    let step = top_step bytes tokens in
    let signals = signals_at code tokens 5 in
    let timings = flat_timings code tokens in
    let rows = defs_called [] (rows_at code tokens (rows_from code)) ∷ [] in
    let patterns = flat_patterns code nests tokens in
    let bursts = flat_bursts code nests tokens in
    let s1 : Stands bytes tokens (execs_from code nests) (execs_on code) =
    behind_each bytes tokens burst_said burst_entry burst_next (burst_form bytes tokens) (executives code) (bursts_from code nests)
    (execs_on code) stands in
    reaches_behind step (top_with (blocks_with signals timings rows patterns [] []))
    (top_with (blocks_with signals timings rows patterns bursts []))
    (top_with (flat_blocks code nests tokens)) (entries (trees_at (bursts_from code nests) (bursts_on code)))
    (entries (trees_at (execs_from code nests) (execs_on code))) []
    (bursts_step bytes tokens signals timings rows patterns (executives code) (bursts_from code nests) (execs_on code)
    (execs_rise code is) stands)
    (execs_step code bytes tokens signals timings rows patterns bursts (executives code) (execs_from code nests) no_more
    (texts_fit code is) (
      omega (arith, length-range_with_len 0 (length code.execs), is.few_execs),
      all_range (length code.execs) 0 (2 ^ 64) (omega (arith, is.few_execs)),
    ) s1)

-- from the start to the end
whole_way : (code : Program) (nests : ℕ → Nest) (bytes : List ℕ) (tokens : List Token) → IsProgram code → AreNests code nests
    → Stands bytes tokens 5 (signals_on code nests)
    → Reaches (HasTooMany code) (top_step bytes tokens) start (entries (trees_at 5 (signals_on code nests)))
    (top_with (flat_blocks code nests tokens)) []
whole_way code nests bytes tokens is are stands =
    let step = top_step bytes tokens in
    let s1 : Stands bytes tokens (timings_from code) (timings_on code nests) = unspaced (behind_braced stands) in
    let s2 : Stands bytes tokens (rows_from code) (rows_on code nests) =
    behind_each bytes tokens (timing_said code) (timing_entry code) (timing_next code) (timing_form code bytes tokens) (executives code)
    (timings_from code) (rows_on code nests) s1 in
    let s3 : Stands bytes tokens (patterns_from code) (patterns_on code nests) = unspaced (behind_braced s2) in
    let s4 : Stands bytes tokens (bursts_from code nests) (bursts_on code) =
    behind_each bytes tokens (pattern_said code nests) (pattern_entry code nests) (pattern_next code nests)
    (pattern_form code nests bytes tokens) (executives code) (patterns_from code) (bursts_on code) s3 in
    let t1 = timed_top code tokens in
    let t2 = patterned_top code nests tokens in
    let t3 = top_with (flat_blocks code nests tokens) in
    let es = entries (trees_at 5 (signals_on code nests)) in
    let fs = entries (trees_at (rows_from code) (rows_on code nests)) in
    let gs = entries (trees_at (bursts_from code nests) (bursts_on code)) in
    reaches_behind step start t1 t3 es fs [] (first_way code nests bytes tokens is stands)
    (reaches_behind step t1 t2 t3 fs gs [] (second_way code nests bytes tokens is are s2) (third_way code nests bytes tokens is s4))

-- ---- the text

-- an executive at least
some_exec : (blocks : Blocks) (es : List ExecDecl) → 0 < length es → with_executive blocks es ≡ Ok blocks
some_exec blocks [] some = absurd (omega (arith, some))
some_exec blocks (e ∷ es) some = refl

-- as many as there are
length_each : {X D : Type 0} (decl : ℕ → X → D) (next : ℕ → X → ℕ) (xs : List X) (at : ℕ) → length (each_from decl next at xs) ≡ length xs
length_each decl next [] at = refl
length_each decl next (x ∷ xs) at = omega (arith, length_each decl next xs (next at x))

-- what is reached is read, or a Timing has too many tables
reached : (code : Program) (blocks : Blocks) (bytes : List ℕ) (tokens : List Token) (es : List Entry) → AreFlatBlocks code blocks
    → with_executive blocks blocks.executives ≡ Ok blocks → Reaches (HasTooMany code) (top_step bytes tokens) start es (top_with blocks) []
    → IsReading code (finished (stepping (top_step bytes tokens) start es))
reached code blocks bytes tokens es are some (inl h) =
    subst (IsReading code) (sym (ap finished h ∙ some)) are
reached code blocks bytes tokens es are some (inr h) =
    subst (IsReading code) (sym (ap finished h.1)) (refl, h.2)

-- the header of the text
abbrev pub header : Entry
header = record { first = 0; count = 4; body = None }

pub said_is_read : SaidIsRead
said_is_read code nests bytes tokens is nested lexemes =
    let stands : Stands bytes tokens 0 (flat_said code nests) = record { after = []; is = lexemes ∙ sym (append-nil _) } in
    let es = entries (trees_at 5 (signals_on code nests)) in
    let blocks = flat_blocks code nests tokens in
    let some : with_executive blocks blocks.executives ≡ Ok blocks =
    some_exec blocks blocks.executives
    (omega (
      arith,
      length_each (exec_decl code tokens) (exec_next code) (executives code) (execs_from code nests),
      length-range_with_len 0 (length code.execs),
      is.some_execs,
    )) in
    subst (IsReading code)
    (sym (ap (λ (b : Bool). behind_header bytes tokens b header es) (ap is_stil_1_0 (statement_head stands))))
    (reached code blocks bytes tokens es (blocks_are code nests tokens nested) some
    (whole_way code nests bytes tokens is nested (unspaced (behind_statement stands))))
