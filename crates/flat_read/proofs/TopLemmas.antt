-- The statements of a flat text are read one after another.
use Rattle.std.proofs.Common.{◌≡◌, ℕ, ◌+◌, ◌<◌, Bool, true, List, [], ◌∷◌, ◌++◌, length, Some, Result, Ok, refl, ap, ◌∙◌, arith, inl, inr, cond}
use Rattle.std.specs.List.{AllByRecursion, range_with_len}
use Rattle.stil_lex.specs.declared.token.Token.{Token}
use Rattle.stil_tree.specs.Trees.{Entry, entries}
use Rattle.answers.specs.Reading.{and_then}
use Rattle.stil_form.specs.declared.fault.FormFault.{FormFault}
use Rattle.stil_form.specs.Lexeme.{Lexeme}
use Rattle.stil_form.specs.Words.{fits_name}
use Rattle.stil_form.specs.Setting.{setting, lexemes_at, at_statement}
use Rattle.stil_ast.specs.declared.signal.SignalDecl.{SignalDecl}
use Rattle.stil_ast.specs.declared.timing.TimingBlock.{TimingBlock}
use Rattle.stil_ast.specs.declared.blocks.BodyDef.{BodyDef}
use Rattle.stil_ast.specs.declared.blocks.DefBlock.{DefBlock}
use Rattle.stil_ast.specs.declared.blocks.Pattern.{Pattern}
use Rattle.stil_ast.specs.declared.blocks.Blocks.{Blocks}
use Rattle.stil_ast.specs.declared.executive.Burst.{Burst}
use Rattle.stil_ast.specs.declared.executive.ExecDecl.{ExecDecl}
use Rattle.pat_read.specs.declared.reader.BodyPlace.TheVariants as place
use Rattle.block_forms.specs.Heads.{where_so, nothing, title_of, behind_first}
use Rattle.block_forms.specs.Keywords.{first_meaning}
use Rattle.signal_blocks.specs.Signals.{signals_of}
use Rattle.pattern_blocks.specs.Defs.{defs_called, defs_in}
use Rattle.stil_read.specs.Top.{Top, keywords, keyword_at, by_keyword, top_step, start, more_signals, more_timings, more_defs, more_patterns, more_bursts, more_executives}
use Rattle.packed_code.specs.Program.{Program}
use Rattle.packed_code.specs.Conditions.{IsText}
use Rattle.packed_code.specs.Cycles.{exec_of}
use Rattle.line_texts.specs.Said.{Said, no_more, pieces_of, count_of, trees_at, each_said, next_line}
use Rattle.line_texts.proofs.SettingLemmas.{not_skipped}
use Rattle.line_texts.proofs.StandingLemmas.{Stands, unspaced, braced_head, inside_braced}
use Rattle.flat_parts.specs.Order.{row_order}
use Rattle.flat_parts.specs.Nests.{Nest}
use Rattle.flat_parts.specs.FlatBlocks.{own_numbers}
use Rattle.flat_said.specs.FlatSaid.{signal_said, signals_said, timing_said, row_said, rows_said, pattern_said, burst_said, exec_said}
use Rattle.flat_read.specs.Laws.{HasTooMany}
use Rattle.flat_read.proofs.NameLemmas.{AreRising}
use Rattle.flat_read.proofs.ReadingLemmas.{each_from, end_from, Gives, gives_behind, gives_for, Reaches, reaches_one, reaches_each}
use Rattle.flat_read.proofs.BodyLemmas.{IsFew, NamesFit}
use Rattle.flat_read.proofs.RowLemmas.{RowsFit, row_decl, row_next, rows_read}
use Rattle.flat_read.proofs.TableLemmas.{TablesFit, timing_decl, timing_entry, timing_next, timing_form, UntitledFrom, untitled_behind, timing_more}
use Rattle.flat_read.proofs.SignalLemmas.{signal_decl, signal_next, signals_read}
use Rattle.flat_read.proofs.BurstLemmas.{pattern_decl, pattern_entry, pattern_next, pattern_form, pattern_read, PatternsLeft, patterns_left, burst_decl, burst_entry, burst_next, burst_form, burst_read, BurstsLeft, bursts_left}
use Rattle.flat_read.proofs.ExecLemmas.{exec_decl, exec_entry, exec_next, exec_form, exec_read, ExecsLeft, execs_left}

-- blocks of these
abbrev pub blocks_with : List SignalDecl → List TimingBlock → List DefBlock → List Pattern → List Burst → List ExecDecl → Blocks
blocks_with signals timings procedures patterns bursts executives = record {
  signals = signals;
  groups = [];
  specs = [];
  selectors = [];
  timings = timings;
  scans = [];
  macros = [];
  procedures = procedures;
  patterns = patterns;
  bursts = bursts;
  executives = executives;
}

-- what stands so far
abbrev pub top_with : Blocks → Top
top_with blocks = record { words = []; blocks = blocks }

-- a statement of this head, by its keyword
keyed : (bytes : List ℕ) (tokens : List Token) (blocks : Blocks) (e : Entry) (head : List Lexeme)
    → lexemes_at (setting bytes tokens []) e ≡ head
    → top_step bytes tokens (top_with blocks) e
    ≡ by_keyword (setting bytes tokens []) (top_with blocks) e (first_meaning keywords head)
keyed bytes tokens blocks e head is =
    let s = setting bytes tokens [] in
    let t = top_with blocks in
    ap (λ (b : Bool). cond b (Ok t) (by_keyword s t e (keyword_at s e))) (not_skipped (lexemes_at s e))
    ∙ ap (λ (ls : List Lexeme). by_keyword s t e (first_meaning keywords ls)) is

-- what it declares is laid into the blocks
laid : {B D : Type 0} (r : Result (List D) FormFault) (put : List D → Blocks) (ds : List D) → Gives B r ds
    → Gives B (and_then (and_then r (λ all. Ok (put all))) (λ b. Ok (top_with b))) (top_with (put ds))
laid {D = D} r put ds (inl is) =
    inl (ap (λ (o : Result (List D) FormFault). and_then (and_then o (λ all. Ok (put all))) (λ b. Ok (top_with b))) is)
laid {D = D} r put ds (inr h) =
    inr (h.0, ap (λ (o : Result (List D) FormFault). and_then (and_then o (λ all. Ok (put all))) (λ b. Ok (top_with b))) h.1, h.2)

-- ---- signals

-- the signals of a code
abbrev pub signals_at : Program → List Token → ℕ → List SignalDecl
signals_at code tokens at = each_from (signal_decl tokens) signal_next (at + 1 + 1) code.signals

-- the statements in their block
abbrev pub signals_inside : Program → Said
signals_inside code = next_line (each_said signal_said code.signals no_more)

-- where what is behind it begins
abbrev pub behind_signals : Program → ℕ → ℕ
behind_signals code at = at + 1 + 1 + count_of (pieces_of (signals_inside code)) + 1

signals_more : (code : Program) (bytes : List ℕ) (tokens : List Token) (at : ℕ) (more : Said)
    → AllByRecursion (λ s. fits_name s.name ≡ true) code.signals → Stands bytes tokens at (signals_said code more)
    → more_signals (setting bytes tokens []) []
    (record { first = at; count = 1; body = Some (trees_at (at + 1 + 1) (signals_inside code)) })
    ≡ Ok (signals_at code tokens at)
unfolding more_signals
signals_more code bytes tokens at more fits stands =
    let s = setting bytes tokens [] in
    ap (λ (ls : List Lexeme). and_then (and_then (at_statement at (where_so true (nothing (behind_first ls)))) (λ n.
    signals_of s (entries (trees_at (at + 1 + 1) (signals_inside code))))) (λ all. Ok all)) (braced_head stands)
    ∙ ap (λ (r : Result (List SignalDecl) FormFault). and_then r (λ all. Ok all))
    (signals_read bytes tokens code.signals (at + 1 + 1) fits (unspaced (inside_braced stands)))

pub signals_step : {B : Type 0} (code : Program) (bytes : List ℕ) (tokens : List Token) (at : ℕ) (more : Said)
    → AllByRecursion (λ s. fits_name s.name ≡ true) code.signals → Stands bytes tokens at (signals_said code more)
    → Reaches B (top_step bytes tokens) start (entries (trees_at at (signals_said code more)))
    (top_with (blocks_with (signals_at code tokens at) [] [] [] [] [])) (entries (trees_at (behind_signals code at) more))
signals_step code bytes tokens at more fits stands =
    let s = setting bytes tokens [] in
    let e : Entry = record { first = at; count = 1; body = Some (trees_at (at + 1 + 1) (signals_inside code)) } in
    let t = top_with (blocks_with (signals_at code tokens at) [] [] [] [] []) in
    reaches_one (top_step bytes tokens) start t e (entries (trees_at (behind_signals code at) more))
    (gives_behind (top_step bytes tokens start e) _ t
    (keyed bytes tokens (blocks_with [] [] [] [] [] []) e _ (braced_head stands))
    (laid (more_signals s [] e) (λ all. blocks_with all [] [] [] [] []) (signals_at code tokens at)
    (inl (signals_more code bytes tokens at more fits stands))))

-- ---- Timings

-- what was read, and what is still to be read
abbrev pub TimingsLeft : Program → List TimingBlock → List ℕ → Type 0
TimingsLeft code before left =
    (m : ℕ) × UntitledFrom before m × AreRising m left × AllByRecursion (λ exec. exec < length code.execs) left

pub timings_step : (code : Program) (bytes : List ℕ) (tokens : List Token) (signals : List SignalDecl) (execs : List ℕ) (at : ℕ)
    (more : Said)
    → TablesFit code → ((exec : ℕ) → AreRising 0 (own_numbers code exec)) → AreRising 0 execs
    → AllByRecursion (λ exec. exec < length code.execs) execs → Stands bytes tokens at (each_said (timing_said code) execs more)
    → Reaches (HasTooMany code) (top_step bytes tokens) (top_with (blocks_with signals [] [] [] [] []))
    (entries (trees_at at (each_said (timing_said code) execs more)))
    (top_with (blocks_with signals (each_from (timing_decl code tokens) (timing_next code) at execs) [] [] [] []))
    (entries (trees_at (end_from (timing_next code) at execs) more))
timings_step code bytes tokens signals execs at more fits own rise inside stands =
    let s = setting bytes tokens [] in
    reaches_each bytes tokens (timing_said code) (timing_entry code) (timing_next code) (timing_form code bytes tokens)
    (top_step bytes tokens)
    (λ all. top_with (blocks_with signals all [] [] [] [])) (timing_decl code tokens) (TimingsLeft code)
    (λ before f exec left rest fit here.
    let e = timing_entry code f exec in
    let all = before ++ timing_decl code tokens f exec ∷ [] in (
      gives_behind (top_step bytes tokens (top_with (blocks_with signals before [] [] [] [])) e)
          _
          (top_with (blocks_with signals all [] [] [] []))
          (keyed bytes tokens (blocks_with signals before [] [] [] []) e _ (braced_head here))
          (laid (more_timings s before e) (λ ds. blocks_with signals ds [] [] [] []) all
          (gives_for (more_timings s before e) all (λ full. (exec, fit.3.0, full))
          (timing_more code bytes tokens before f exec fit.0 rest fits fit.2.1 fit.1 fit.2.0 (own exec) here))),
      (exec + 1, untitled_behind before (timing_decl code tokens f exec) fit.0 exec fit.1 fit.2.0 fit.2.1 refl, fit.2.2, fit.3.1),
    ))
    execs [] at more (0, (λ k low small. tt), rise, inside) stands

-- ---- rows

-- the numbers of rows
abbrev pub row_numbers : Program → List ℕ
row_numbers code = range_with_len 0 (length (row_order code))

-- the block of rows
abbrev pub rows_inside : Program → Said
rows_inside code = next_line (each_said (row_said code) (row_numbers code) no_more)

abbrev pub rows_at : Program → List Token → ℕ → List BodyDef
rows_at code tokens at = each_from (row_decl code tokens) (row_next code) (at + 1 + 1) (row_numbers code)

abbrev pub behind_rows : Program → ℕ → ℕ
behind_rows code at = at + 1 + 1 + count_of (pieces_of (rows_inside code)) + 1

rows_more : (code : Program) (bytes : List ℕ) (tokens : List Token) (at : ℕ) (more : Said) → RowsFit code → AreRising 0 (row_numbers code)
    → Stands bytes tokens at (rows_said code more)
    → more_defs (setting bytes tokens []) place.Procedure []
    (record { first = at; count = 1; body = Some (trees_at (at + 1 + 1) (rows_inside code)) })
    ≡ Ok (defs_called [] (rows_at code tokens at) ∷ [])
unfolding more_defs
rows_more code bytes tokens at more fits rise stands =
    let s = setting bytes tokens [] in
    let inner = entries (trees_at (at + 1 + 1) (rows_inside code)) in
    ap (λ (ls : List Lexeme). and_then (and_then (at_statement at (where_so true (title_of (behind_first ls)))) (λ title.
    and_then (defs_in s place.Procedure title [] inner) (λ bodies. Ok (defs_called title bodies)))) (λ one. Ok (one ∷ [])))
    (braced_head stands)
    ∙ ap (λ (r : Result (List BodyDef) FormFault). and_then (and_then r (λ bodies. Ok (defs_called [] bodies))) (λ one. Ok (one ∷ [])))
    (rows_read code bytes tokens (row_numbers code) (at + 1 + 1) fits rise (unspaced (inside_braced stands)))

pub rows_step : {B : Type 0} (code : Program) (bytes : List ℕ) (tokens : List Token) (signals : List SignalDecl)
    (timings : List TimingBlock) (at : ℕ)
    (more : Said) → RowsFit code → AreRising 0 (row_numbers code) → Stands bytes tokens at (rows_said code more)
    → Reaches B (top_step bytes tokens) (top_with (blocks_with signals timings [] [] [] [])) (entries (trees_at at (rows_said code more)))
    (top_with (blocks_with signals timings (defs_called [] (rows_at code tokens at) ∷ []) [] [] []))
    (entries (trees_at (behind_rows code at) more))
rows_step code bytes tokens signals timings at more fits rise stands =
    let s = setting bytes tokens [] in
    let e : Entry = record { first = at; count = 1; body = Some (trees_at (at + 1 + 1) (rows_inside code)) } in
    let b = blocks_with signals timings [] [] [] [] in
    let all = defs_called [] (rows_at code tokens at) ∷ [] in
    let t = top_with (blocks_with signals timings all [] [] []) in
    reaches_one (top_step bytes tokens) (top_with b) t e (entries (trees_at (behind_rows code at) more))
    (gives_behind (top_step bytes tokens (top_with b) e) _ t
    (keyed bytes tokens b e _ (braced_head stands))
    (laid (more_defs s place.Procedure [] e) (λ ds. blocks_with signals timings ds [] [] []) all
    (inl (rows_more code bytes tokens at more fits rise stands))))

-- ---- patterns

pub patterns_step : {B : Type 0} (code : Program) (nests : ℕ → Nest) (bytes : List ℕ) (tokens : List Token) (signals : List SignalDecl)
    (timings : List TimingBlock) (rows : List DefBlock) (execs : List ℕ) (at : ℕ) (more : Said) → NamesFit code
    → AllByRecursion (λ exec. IsFew (nests exec)) execs → AreRising 0 execs
    → Stands bytes tokens at (each_said (pattern_said code nests) execs more)
    → Reaches B (top_step bytes tokens) (top_with (blocks_with signals timings rows [] [] []))
    (entries (trees_at at (each_said (pattern_said code nests) execs more)))
    (top_with (blocks_with signals timings rows (each_from (pattern_decl code nests tokens) (pattern_next code nests) at execs) [] []))
    (entries (trees_at (end_from (pattern_next code nests) at execs) more))
patterns_step code nests bytes tokens signals timings rows execs at more fit few rise stands =
    let s = setting bytes tokens [] in
    reaches_each bytes tokens (pattern_said code nests) (pattern_entry code nests) (pattern_next code nests)
    (pattern_form code nests bytes tokens)
    (top_step bytes tokens) (λ all. top_with (blocks_with signals timings rows all [] [])) (pattern_decl code nests tokens)
    (λ before left. PatternsLeft before left × AllByRecursion (λ exec. IsFew (nests exec)) left)
    (λ before f exec left rest fits here.
    let e = pattern_entry code nests f exec in
    let b = blocks_with signals timings rows before [] [] in
    let all = before ++ pattern_decl code nests tokens f exec ∷ [] in
    let new = fits.0.1 exec fits.0.2.0 fits.0.2.1 in (
      gives_behind (top_step bytes tokens (top_with b) e) _
          (top_with (blocks_with signals timings rows all [] []))
          (keyed bytes tokens b e _ (braced_head here))
          (laid (more_patterns s before e) (λ ds. blocks_with signals timings rows ds [] []) all
          (inl (pattern_read code nests bytes tokens before f exec rest fit fits.1.0 fits.0.2.1 new here))),
      (patterns_left before (pattern_decl code nests tokens f exec) exec left refl fits.0, fits.1.1),
    ))
    execs [] at more ((0, (λ k low small. refl), rise), few) stands

-- ---- bursts

pub bursts_step : {B : Type 0} (bytes : List ℕ) (tokens : List Token) (signals : List SignalDecl) (timings : List TimingBlock)
    (rows : List DefBlock)
    (patterns : List Pattern) (execs : List ℕ) (at : ℕ) (more : Said) → AreRising 0 execs
    → Stands bytes tokens at (each_said burst_said execs more)
    → Reaches B (top_step bytes tokens) (top_with (blocks_with signals timings rows patterns [] []))
    (entries (trees_at at (each_said burst_said execs more)))
    (top_with (blocks_with signals timings rows patterns (each_from (burst_decl tokens) burst_next at execs) []))
    (entries (trees_at (end_from burst_next at execs) more))
bursts_step bytes tokens signals timings rows patterns execs at more rise stands =
    let s = setting bytes tokens [] in
    reaches_each bytes tokens burst_said burst_entry burst_next (burst_form bytes tokens)
    (top_step bytes tokens) (λ all. top_with (blocks_with signals timings rows patterns all [])) (burst_decl tokens) BurstsLeft
    (λ before f exec left rest fits here.
    let e = burst_entry f exec in
    let b = blocks_with signals timings rows patterns before [] in
    let all = before ++ burst_decl tokens f exec ∷ [] in
    let new = fits.1 exec fits.2.0 fits.2.1 in (
      gives_behind (top_step bytes tokens (top_with b) e) _
          (top_with (blocks_with signals timings rows patterns all []))
          (keyed bytes tokens b e _ (braced_head here))
          (laid (more_bursts s before e) (λ ds. blocks_with signals timings rows patterns ds []) all
          (inl (burst_read bytes tokens before f exec rest fits.2.1 new here))),
      bursts_left before (burst_decl tokens f exec) exec left refl fits,
    ))
    execs [] at more (0, (λ k low small. refl), rise) stands

-- ---- executives

pub execs_step : {B : Type 0} (code : Program) (bytes : List ℕ) (tokens : List Token) (signals : List SignalDecl)
    (timings : List TimingBlock)
    (rows : List DefBlock) (patterns : List Pattern) (bursts : List Burst) (execs : List ℕ) (at : ℕ) (more : Said)
    → ((exec : ℕ) → IsText (exec_of code exec).name) → ExecsLeft [] execs → Stands bytes tokens at (each_said (exec_said code) execs more)
    → Reaches B (top_step bytes tokens) (top_with (blocks_with signals timings rows patterns bursts []))
    (entries (trees_at at (each_said (exec_said code) execs more)))
    (top_with (blocks_with signals timings rows patterns bursts (each_from (exec_decl code tokens) (exec_next code) at execs)))
    (entries (trees_at (end_from (exec_next code) at execs) more))
execs_step code bytes tokens signals timings rows patterns bursts execs at more texts few stands =
    let s = setting bytes tokens [] in
    reaches_each bytes tokens (exec_said code) (exec_entry code) (exec_next code) (exec_form code bytes tokens)
    (top_step bytes tokens) (λ all. top_with (blocks_with signals timings rows patterns bursts all)) (exec_decl code tokens) ExecsLeft
    (λ before f exec left rest fits here.
    let e = exec_entry code f exec in
    let b = blocks_with signals timings rows patterns bursts before in
    let all = before ++ exec_decl code tokens f exec ∷ [] in (
      gives_behind (top_step bytes tokens (top_with b) e) _
          (top_with (blocks_with signals timings rows patterns bursts all))
          (keyed bytes tokens b e _ (braced_head here))
          (laid (more_executives s before e) (λ ds. blocks_with signals timings rows patterns bursts ds) all
          (inl (exec_read code bytes tokens before f exec rest (texts exec) fits.1.0 (omega (arith, fits.0)) here))),
      execs_left before (exec_decl code tokens f exec) exec left fits,
    ))
    execs [] at more few stands
