-- The statements of a drill's text are its blocks.
use Rattle.std.proofs.Common.{◌≡◌, ℕ, ◌+◌, Bool, true, false, List, [], ◌∷◌, ◌++◌, take, drop, Some, None, Result, Ok, refl, sym, ap, ◌∙◌, arith}
use Rattle.std.specs.Prelude.{codes}
use Rattle.std.proofs.lemmas.List.{drop_at, drop-drop}
use Rattle.text_bytes.specs.Bytes.{begins_name, is_printable, is_character}
use Rattle.stil_lex.specs.Tokens.{spelled, tokens_of}
use Rattle.stil_lex.specs.declared.token.Token.{Token}
use Rattle.stil_tree.specs.Trees.{Trees, Entry, entries, plain}
use Rattle.stil_form.specs.declared.fault.FormFault.{FormFault}
use Rattle.stil_form.specs.Lexeme.{Lexeme, word, lexemes_of}
use Rattle.stil_form.specs.Setting.{setting, line_at, lexemes_at, at_statement, unskipped}
use Rattle.answers.specs.Reading.{and_then, reading}
use Rattle.stil_ast.specs.Data.Bodies.{written_of}
use Rattle.stil_ast.specs.declared.blocks.Blocks.{Blocks}
use Rattle.stil_ast.specs.declared.blocks.Pattern.{Pattern}
use Rattle.stil_ast.specs.declared.signal.SignalDecl.{SignalDecl}
use Rattle.stil_ast.specs.declared.timing.TimingBlock.{TimingBlock}
use Rattle.stil_ast.specs.declared.executive.Burst.{Burst}
use Rattle.stil_ast.specs.declared.executive.BurstItem.{BurstItem}
use Rattle.stil_ast.specs.declared.executive.BurstWord.TheVariants as burst
use Rattle.stil_ast.specs.declared.body.Step.TheVariants as step
use Rattle.stil_ast.specs.declared.body.PatAction.TheVariants as action
use Rattle.stil_ast.specs.declared.body.PatStmt.{PatStmt}
use Rattle.pat_read.specs.Body.{on_line, body_from}
use Rattle.pat_read.specs.Statements.{only_name}
use Rattle.block_forms.specs.Heads.{where_so, nothing, title_of, behind_first, bare_block, named_block, titled_block}
use Rattle.block_forms.specs.Keywords.{first_meaning}
use Rattle.block_forms.specs.Named.{named_on}
use Rattle.pattern_blocks.specs.Bursts.{burst_words, item_on, where_empty, entry_item, by_word, names_in, judge_burst, items_in}
use Rattle.pattern_blocks.specs.Executives.{exec_said, new_said, judge_exec, exec_called, exec_in}
use Rattle.stil_read.specs.Top.{Top, top_step, start, finished, is_stil_1_0, behind_header, blocks_of, more_signals, more_timings, more_patterns, more_bursts, more_executives}
use Rattle.line_texts.specs.Said.{Said, no_more, statement, pieces_of, count_of, trees_at, spaced}
use Rattle.line_texts.specs.Lexemes.{lexemes_in}
use Rattle.line_texts.proofs.LexemeLemmas.{lexemes_in-append}
use Rattle.line_texts.proofs.SettingLemmas.{stepping-more, head_behind, unskipped_all, length-lexemes_in}
use Rattle.drill_fine.specs.Said.{signals_said, tables_said, body_said, burst_said, text_said}
use Rattle.drill_fine.specs.Said as said
use Rattle.line_texts.specs.Said as spoken
use Rattle.drill_fine.specs.Blocks.{drill_signals, drill_timings, drill_pattern, drill_burst, drill_exec, blocks_with, drill_blocks}
use Rattle.drill_fine.proofs.SaidLemmas.{head_pieces, tail_pieces}

-- what stands so far
abbrev pub top_with : Blocks → Top
top_with blocks = record { words = []; blocks = blocks }

-- the bytes and the tokens before the vectors, and what is behind them
abbrev pub bytes_with : List ℕ → List ℕ
bytes_with rest = spelled head_pieces ++ rest

abbrev pub tokens_with : List Token → List Token
tokens_with more = tokens_of [] head_pieces ++ more

-- the header
abbrev pub header_entry : Entry
header_entry = record { first = 0; count = 4; body = None }

header_read : (rest : List ℕ) (more : List Token)
    → is_stil_1_0 (lexemes_at (setting (bytes_with rest) (tokens_with more) []) header_entry) ≡ true
header_read rest more = refl

-- the signals
abbrev pub signals_entry : Entry
signals_entry = record { first = 5; count = 1; body = Some (trees_at 7 signals_said) }

signals_read : (rest : List ℕ) (more : List Token)
    → top_step (bytes_with rest) (tokens_with more) start signals_entry ≡ Ok (top_with (blocks_with drill_signals [] [] [] []))
unfolding more_signals begins_name is_printable
signals_read rest more = refl

-- the timing
abbrev pub timing_entry : Entry
timing_entry = record { first = 17; count = 1; body = Some (trees_at 19 tables_said) }

timing_read : (rest : List ℕ) (more : List Token)
    → top_step (bytes_with rest) (tokens_with more) (top_with (blocks_with drill_signals [] [] [] [])) timing_entry
    ≡ Ok (top_with (blocks_with drill_signals drill_timings [] [] []))
unfolding more_timings begins_name is_printable is_character
timing_read rest more = refl

-- the pattern's first statement
abbrev pub wave_stmt : PatStmt
wave_stmt = on_line 8 (action.Step (step.Wave (codes "w")))

-- the pattern, by its vectors
abbrev pub pattern_entry : Trees → Entry
pattern_entry vectors = record { first = 66; count = 2; body = Some (plain 69 2 vectors) }

pattern_read : (rest : List ℕ) (more : List Token) (vectors : Trees) (read : List PatStmt)
    → body_from (setting (bytes_with rest) (tokens_with more) []) true (wave_stmt ∷ []) vectors ≡ Ok read
    → top_step (bytes_with rest) (tokens_with more) (top_with (blocks_with drill_signals drill_timings [] [] [])) (pattern_entry vectors)
    ≡ Ok (top_with (blocks_with drill_signals drill_timings (drill_pattern (written_of read) ∷ []) [] []))
unfolding more_patterns begins_name is_printable
pattern_read rest more vectors read h = rw h refl

-- the burst, wherever it stands
abbrev pub burst_entry : ℕ → Entry
burst_entry f = record { first = f; count = 2; body = Some (trees_at (f + 2 + 1) burst_said) }

-- its list
abbrev pub list_entry : ℕ → Entry
list_entry f = record { first = f; count = 1; body = Some (trees_at (f + 1 + 1) (spaced (statement (spoken.word (codes "p") ∷ []) (spaced no_more)))) }

-- and the list's entry
abbrev pub name_entry : ℕ → Entry
name_entry f = record { first = f; count = 1; body = None }

burst_named : (bytes : List ℕ) (tokens : List Token) (f : ℕ)
    → take 2 (drop f (lexemes_of bytes tokens)) ≡ word (codes "PatternBurst") ∷ word (codes "b") ∷ []
    → named_block (setting bytes tokens []) (burst_entry f) ≡ Ok (codes "b")
unfolding begins_name is_printable
burst_named bytes tokens f h = ap (λ (ls : List Lexeme). at_statement f (where_so true (only_name (behind_first ls)))) h

entry_read : (bytes : List ℕ) (tokens : List Token) (f : ℕ)
    → take 1 (drop f (lexemes_of bytes tokens)) ≡ word (codes "p") ∷ []
    → entry_item (setting bytes tokens []) (name_entry f)
    ≡ Ok (record { word = burst.Entry; name = codes "p"; line = line_at tokens f })
unfolding begins_name is_printable
entry_read bytes tokens f h =
    ap (λ (ls : List Lexeme). and_then (at_statement f (only_name ls)) (λ called.
    where_empty [] (item_on (setting bytes tokens []) (name_entry f) burst.Entry called))) h

list_bare : (bytes : List ℕ) (tokens : List Token) (f : ℕ)
    → take 1 (drop f (lexemes_of bytes tokens)) ≡ word (codes "PatList") ∷ []
    → bare_block (setting bytes tokens []) (list_entry f) ≡ Ok []
list_bare bytes tokens f h = ap (λ (ls : List Lexeme). at_statement f (where_so true (nothing (behind_first ls)))) h

list_read : (bytes : List ℕ) (tokens : List Token) (f : ℕ)
    → take 1 (drop f (lexemes_of bytes tokens)) ≡ word (codes "PatList") ∷ []
    → take 1 (drop (f + 1 + 1) (lexemes_of bytes tokens)) ≡ word (codes "p") ∷ []
    → judge_burst (setting bytes tokens []) [] (list_entry f)
    ≡ Ok (record { word = burst.Entry; name = codes "p"; line = line_at tokens (f + 1 + 1) } ∷ [])
list_read bytes tokens f h0 h1 =
    let s = setting bytes tokens [] in
    ap (λ (ls : List Lexeme). by_word s [] (list_entry f) (first_meaning burst_words ls)) h0
    ∙ ap (λ r. and_then r (λ _. reading (λ _ inner. entry_item s inner) [] (unskipped s (name_entry (f + 1 + 1) ∷ []))))
    (list_bare bytes tokens f h0)
    ∙ ap (λ (es : List Entry). reading (λ _ inner. entry_item s inner) [] es) (unskipped_all bytes tokens (name_entry (f + 1 + 1) ∷ []))
    ∙ ap (λ (r : Result BurstItem FormFault). and_then r (λ x. Ok (x ∷ []))) (entry_read bytes tokens (f + 1 + 1) h1)

items_read : (bytes : List ℕ) (tokens : List Token) (f : ℕ)
    → take 1 (drop f (lexemes_of bytes tokens)) ≡ word (codes "PatList") ∷ []
    → take 1 (drop (f + 1 + 1) (lexemes_of bytes tokens)) ≡ word (codes "p") ∷ []
    → items_in (setting bytes tokens []) (list_entry f ∷ [])
    ≡ Ok (record { word = burst.Entry; name = codes "p"; line = line_at tokens (f + 1 + 1) } ∷ [])
items_read bytes tokens f h0 h1 =
    let s = setting bytes tokens [] in
    ap (λ (es : List Entry). and_then (reading (judge_burst s) [] es) (λ told. Ok (names_in told)))
    (unskipped_all bytes tokens (list_entry f ∷ []))
    ∙ ap (λ (r : Result (List BurstItem) FormFault). and_then (and_then r (λ x. Ok (x ∷ []))) (λ told. Ok (names_in told)))
    (list_read bytes tokens f h0 h1)

burst_read : (bytes : List ℕ) (tokens : List Token) (blocks : List SignalDecl) (timings : List TimingBlock) (patterns : List Pattern) (f : ℕ)
    → take 2 (drop f (lexemes_of bytes tokens)) ≡ word (codes "PatternBurst") ∷ word (codes "b") ∷ []
    → take 1 (drop (f + 2 + 1) (lexemes_of bytes tokens)) ≡ word (codes "PatList") ∷ []
    → take 1 (drop (f + 2 + 1 + 1 + 1) (lexemes_of bytes tokens)) ≡ word (codes "p") ∷ []
    → top_step bytes tokens (top_with (blocks_with blocks timings patterns [] [])) (burst_entry f)
    ≡ Ok (top_with (blocks_with blocks timings patterns (drill_burst (line_at tokens (f + 2 + 1 + 1 + 1)) ∷ []) []))
unfolding more_bursts
burst_read bytes tokens blocks timings patterns f h0 h1 h2 =
    rw (h0, burst_named bytes tokens f h0, items_read bytes tokens (f + 2 + 1) h1 h2) refl

-- the executive, wherever it stands
abbrev pub exec_entry : ℕ → Entry
exec_entry f = record { first = f; count = 1; body = Some (trees_at (f + 1 + 1) said.exec_said) }

-- its burst
abbrev pub named_entry : ℕ → Entry
named_entry f = record { first = f; count = 2; body = None }

exec_titled : (bytes : List ℕ) (tokens : List Token) (f : ℕ)
    → take 1 (drop f (lexemes_of bytes tokens)) ≡ word (codes "PatternExec") ∷ []
    → titled_block (setting bytes tokens []) (exec_entry f) ≡ Ok []
exec_titled bytes tokens f h = ap (λ (ls : List Lexeme). at_statement f (where_so true (title_of (behind_first ls)))) h

named_read : (bytes : List ℕ) (tokens : List Token) (f g : ℕ)
    → take 2 (drop g (lexemes_of bytes tokens)) ≡ word (codes "PatternBurst") ∷ word (codes "b") ∷ []
    → and_then (reading (judge_exec (setting bytes tokens [])) [] (named_entry g ∷ [])) (λ told.
    at_statement f (exec_called (line_at tokens f) [] told))
    ≡ Ok (drill_exec (line_at tokens f) (line_at tokens g))
unfolding begins_name is_printable
named_read bytes tokens f g h =
    ap (λ (ls : List Lexeme). and_then (and_then (and_then (at_statement g (exec_said false ls)) (λ one.
    at_statement g (new_said [] (one.0, named_on (setting bytes tokens []) (named_entry g) one.1)))) (λ x. Ok (x ∷ []))) (λ told.
    at_statement f (exec_called (line_at tokens f) [] told))) h

exec_inside : (bytes : List ℕ) (tokens : List Token) (f : ℕ)
    → take 2 (drop (f + 1 + 1) (lexemes_of bytes tokens)) ≡ word (codes "PatternBurst") ∷ word (codes "b") ∷ []
    → exec_in (setting bytes tokens []) (exec_entry f) [] ≡ Ok (drill_exec (line_at tokens f) (line_at tokens (f + 1 + 1)))
exec_inside bytes tokens f h =
    let s = setting bytes tokens [] in
    let g = f + 1 + 1 in
    ap (λ (es : List Entry). and_then (reading (judge_exec s) [] es) (λ told.
    at_statement f (exec_called (line_at tokens f) [] told))) (unskipped_all bytes tokens (named_entry g ∷ []))
    ∙ named_read bytes tokens f g h

exec_read : (bytes : List ℕ) (tokens : List Token) (blocks : List SignalDecl) (timings : List TimingBlock) (patterns : List Pattern)
    (bursts : List Burst) (f : ℕ)
    → take 1 (drop f (lexemes_of bytes tokens)) ≡ word (codes "PatternExec") ∷ []
    → take 2 (drop (f + 1 + 1) (lexemes_of bytes tokens)) ≡ word (codes "PatternBurst") ∷ word (codes "b") ∷ []
    → top_step bytes tokens (top_with (blocks_with blocks timings patterns bursts [])) (exec_entry f)
    ≡ Ok (top_with (blocks_with blocks timings patterns bursts (drill_exec (line_at tokens f) (line_at tokens (f + 1 + 1)) ∷ [])))
unfolding more_executives
exec_read bytes tokens blocks timings patterns bursts f h0 h1 =
    rw (h0, exec_titled bytes tokens f h0, exec_inside bytes tokens f h1) refl

-- the lexemes behind the head of the text
abbrev pub tail_lexemes : List Lexeme
tail_lexemes = lexemes_in tail_pieces

-- the lexemes of the text
pub lexemes_text : (v : Said) → drop 72 (lexemes_in (pieces_of (text_said v))) ≡ lexemes_in (pieces_of v) ++ tail_lexemes
lexemes_text v = lexemes_in-append (pieces_of v) tail_pieces

-- where the burst stands behind vectors
abbrev pub burst_at : Said → ℕ
burst_at v = 66 + 2 + 1 + count_of (pieces_of (body_said v)) + 1

-- the text's blocks, where its vectors are read
pub text_read : (rest : List ℕ) (more : List Token) (v : Said) (read : List PatStmt)
    → lexemes_of (bytes_with rest) (tokens_with more) ≡ lexemes_in (pieces_of (text_said v))
    → body_from (setting (bytes_with rest) (tokens_with more) []) true (wave_stmt ∷ []) (trees_at 72 v) ≡ Ok read
    → blocks_of (bytes_with rest) (tokens_with more) (entries (trees_at 0 (text_said v)))
    ≡ Ok (drill_blocks (written_of read) (line_at (tokens_with more) (burst_at v + 2 + 1 + 1 + 1)) (line_at (tokens_with more) (burst_at v + 2 + 1 + 5 + 1))
    (line_at (tokens_with more) (burst_at v + 2 + 1 + 5 + 1 + 1 + 1)))
text_read rest more v read are vectors =
    let bytes = bytes_with rest in
    let tokens = tokens_with more in
    let all = lexemes_of bytes tokens in
    let c = count_of (pieces_of v) in
    let f = burst_at v in
    let g = f + 2 + 1 + 5 + 1 in
    let place : drop (72 + c) all ≡ tail_lexemes =
    sym (drop-drop c 72 all) ∙ ap (λ (ls : List Lexeme). drop c (drop 72 ls)) are ∙ ap (drop c) (lexemes_text v)
    ∙ drop_at (lexemes_in (pieces_of v)) tail_lexemes c (length-lexemes_in (pieces_of v)) in
    let patterns = drill_pattern (written_of read) ∷ [] in
    let bursts = drill_burst (line_at tokens (f + 2 + 1 + 1 + 1)) ∷ [] in
    let execs = drill_exec (line_at tokens g) (line_at tokens (g + 1 + 1)) ∷ [] in
    let step = top_step bytes tokens in
    let e3 = pattern_entry (trees_at 72 v) in
    let t1 = top_with (blocks_with drill_signals [] [] [] []) in
    let t2 = top_with (blocks_with drill_signals drill_timings [] [] []) in
    let t3 = top_with (blocks_with drill_signals drill_timings patterns [] []) in
    let t4 = top_with (blocks_with drill_signals drill_timings patterns bursts []) in
    let t5 = top_with (blocks_with drill_signals drill_timings patterns bursts execs) in
    let s1 = stepping-more step start t1 signals_entry (timing_entry ∷ e3 ∷ burst_entry f ∷ exec_entry g ∷ []) (signals_read rest more) in
    let s2 = stepping-more step t1 t2 timing_entry (e3 ∷ burst_entry f ∷ exec_entry g ∷ []) (timing_read rest more) in
    let s3 = stepping-more step t2 t3 e3 (burst_entry f ∷ exec_entry g ∷ []) (pattern_read rest more (trees_at 72 v) read vectors) in
    let s4 = stepping-more step t3 t4 (burst_entry f) (exec_entry g ∷ []) (burst_read bytes tokens drill_signals drill_timings patterns f
    (head_behind all tail_lexemes (72 + c) 1 2 f place (omega arith))
    (head_behind all tail_lexemes (72 + c) 4 1 (f + 2 + 1) place (omega arith))
    (head_behind all tail_lexemes (72 + c) 6 1 (f + 2 + 1 + 1 + 1) place (omega arith))) in
    let s5 = stepping-more step t4 t5 (exec_entry g) [] (exec_read bytes tokens drill_signals drill_timings patterns bursts g
    (head_behind all tail_lexemes (72 + c) 10 1 g place (omega arith))
    (head_behind all tail_lexemes (72 + c) 12 2 (g + 1 + 1) place (omega arith))) in
    ap (λ (b : Bool). behind_header bytes tokens b header_entry
    (signals_entry ∷ timing_entry ∷ e3 ∷ burst_entry f ∷ exec_entry g ∷ [])) (header_read rest more)
    ∙ ap finished (s1 ∙ s2 ∙ s3 ∙ s4 ∙ s5)
