-- A text's statements at the top level, and its blocks by their kinds (IEEE 1450-1999, clauses 8 to 24).
use Rattle.std.specs.Prelude.{ℕ, Bool, true, false, ◌&&◌, nat_lt, List, [], ◌∷◌, ◌++◌, length, map, flat_map, codes, Option, Some, None, is_some, Result, Ok, Err, if◌then◌else◌}
use Rattle.stil_lex.specs.declared.token.Token.{Token}
use Rattle.stil_tree.specs.Trees.{Entry}
use Rattle.stil_form.specs.declared.fault.FormKind.{FormKind}
use Rattle.stil_form.specs.declared.fault.FormKind.TheVariants.{NoHeader, Shape, LeftOut, OutOfRange, Twice, NoExec}
use Rattle.stil_form.specs.declared.fault.FormFault.{FormFault}
use Rattle.stil_form.specs.declared.fault.FormFault.TheVariants.{Refused}
use Rattle.stil_form.specs.declared.part.SignKind.TheVariants.{Dot}
use Rattle.stil_form.specs.Lexeme.{Lexeme, word, sign}
use Rattle.stil_form.specs.Reading.{and_then, reading, stepping, is_skipped}
use Rattle.stil_form.specs.Setting.{Setting, setting, lexemes_at, at_statement}
use Rattle.stil_form.specs.Words.{is_keyword}
use Rattle.stil_ast.specs.declared.signal.SignalDecl.{SignalDecl}
use Rattle.stil_ast.specs.declared.signal.GroupBlock.{GroupBlock}
use Rattle.stil_ast.specs.declared.variable.SpecBlock.{SpecBlock}
use Rattle.stil_ast.specs.declared.variable.Selector.{Selector}
use Rattle.stil_ast.specs.declared.timing.TableDecl.{TableDecl}
use Rattle.stil_ast.specs.declared.timing.TimingBlock.{TimingBlock}
use Rattle.stil_ast.specs.declared.scan.ChainDecl.{ChainDecl}
use Rattle.stil_ast.specs.declared.scan.ScanBlock.{ScanBlock}
use Rattle.stil_ast.specs.declared.blocks.BodyDef.{BodyDef}
use Rattle.stil_ast.specs.declared.blocks.DefBlock.{DefBlock}
use Rattle.stil_ast.specs.declared.blocks.Pattern.{Pattern}
use Rattle.stil_ast.specs.declared.blocks.Blocks.{Blocks}
use Rattle.stil_ast.specs.declared.executive.Burst.{Burst}
use Rattle.stil_ast.specs.declared.executive.ExecDecl.{ExecDecl}
use Rattle.stil_read.specs.declared.keyword.Keyword.{Keyword}
use Rattle.stil_read.specs.declared.keyword.Keyword.TheVariants as keyword
use Rattle.text_bytes.specs.Limits.{most_executives}
use Rattle.pat_read.specs.declared.reader.BodyPlace.{BodyPlace}
use Rattle.pat_read.specs.declared.reader.BodyPlace.TheVariants as place
use Rattle.signal_blocks.specs.Signals.{signals_block}
use Rattle.signal_blocks.specs.Groups.{groups_block}
use Rattle.timing_blocks.specs.Variables.{spec_block}
use Rattle.timing_blocks.specs.Selectors.{selector_block}
use Rattle.timing_blocks.specs.Timings.{timing_block}
use Rattle.scan_blocks.specs.Chains.{scan_block}
use Rattle.pattern_blocks.specs.Defs.{defs_block, pattern_block}
use Rattle.pattern_blocks.specs.Bursts.{burst_block}
use Rattle.pattern_blocks.specs.Executives.{exec_block}
use Rattle.pat_read.specs.Statements.{is_there}
use Rattle.block_forms.specs.Keywords.{first_meaning}
use Rattle.block_forms.specs.Heads.{rest_at, bare_block, named_block, titled_block, is_declared, under}

-- the keywords that begin statements at the top level
abbrev pub keywords : List (List ℕ × Keyword)
keywords =
    (codes "Signals", keyword.Signals) ∷ (codes "SignalGroups", keyword.SignalGroups)
    ∷ (codes "Spec", keyword.Spec) ∷ (codes "Selector", keyword.Selector)
    ∷ (codes "Timing", keyword.Timing) ∷ (codes "ScanStructures", keyword.ScanStructures)
    ∷ (codes "MacroDefs", keyword.MacroDefs) ∷ (codes "Procedures", keyword.Procedures)
    ∷ (codes "PatternBurst", keyword.PatternBurst) ∷ (codes "PatternExec", keyword.PatternExec)
    ∷ (codes "Pattern", keyword.Pattern) ∷ (codes "Header", keyword.Header)
    ∷ (codes "UserKeywords", keyword.UserKeywords)
    ∷ (codes "UserFunctions", keyword.UserFunctions) ∷ (codes "STIL", keyword.Stil) ∷ []

-- what stands so far: the words of UserKeywords statements, and the blocks
pub record Top : Type 0 where
  pub words : List (List ℕ)
  pub blocks : Blocks

-- no blocks
abbrev pub no_blocks : Blocks
no_blocks = record {
  signals = [];
  groups = [];
  specs = [];
  selectors = [];
  timings = [];
  scans = [];
  macros = [];
  procedures = [];
  patterns = [];
  bursts = [];
  executives = [];
}

-- the names of tables, each under the title of its Timing
abbrev pub tables_in : List TimingBlock → List (List ℕ × List ℕ)
tables_in timings = flat_map (λ (t : TimingBlock). under t.name (map (λ (d : TableDecl). d.name) t.tables)) timings

-- the names of chains, each under the title of its ScanStructures
abbrev pub chains_in : List ScanBlock → List (List ℕ × List ℕ)
chains_in scans = flat_map (λ (s : ScanBlock). under s.name (map (λ (d : ChainDecl). d.name) s.chains)) scans

-- the names of bodies, each under the title of its MacroDefs or Procedures
abbrev pub bodies_in : List DefBlock → List (List ℕ × List ℕ)
bodies_in blocks = flat_map (λ (b : DefBlock). under b.name (map (λ (d : BodyDef). d.name) b.bodies)) blocks

-- names that have no title
abbrev pub untitled : List (List ℕ) → List (List ℕ × List ℕ)
untitled names = under [] names

-- a named block, whose name may stand once; then what is read of it
abbrev pub once : {X : Type 0} → List (List ℕ × List ℕ) → Setting → Entry → Result X FormFault → Result X FormFault
once declared s e read =
    and_then (named_block s e) (λ called. if is_declared declared [] called then Err (Refused Twice e.first) else read)

-- an executive, of which there may be so many; then what is read of it
abbrev pub few : {X : Type 0} → ℕ → Setting → Entry → Result X FormFault → Result X FormFault
few count s e read =
    and_then (titled_block s e)
    (λ title. if nat_lt count most_executives then read else Err (Refused OutOfRange e.first))

-- the names of patterns
abbrev pub pattern_names : List Pattern → List (List ℕ × List ℕ)
pattern_names patterns = untitled (map (λ (p : Pattern). p.name) patterns)

-- the names of bursts
abbrev pub burst_names : List Burst → List (List ℕ × List ℕ)
burst_names bursts = untitled (map (λ (b : Burst). b.name) bursts)

-- the names of selectors
abbrev pub selector_names : List Selector → List (List ℕ × List ℕ)
selector_names selectors = untitled (map (λ (s : Selector). s.name) selectors)

-- signals behind others
unfoldable pub more_signals : Setting → List SignalDecl → Entry → Result (List SignalDecl) FormFault
more_signals s before e = and_then (signals_block s e) (λ more. Ok (before ++ more))

-- one more SignalGroups block behind others
unfoldable pub more_groups : Setting → List GroupBlock → Entry → Result (List GroupBlock) FormFault
more_groups s before e = and_then (groups_block s e) (λ one. Ok (before ++ one ∷ []))

-- one more Spec block
unfoldable pub more_specs : Setting → List SpecBlock → Entry → Result (List SpecBlock) FormFault
more_specs s before e = and_then (spec_block s e) (λ one. Ok (before ++ one ∷ []))

-- one more Selector, whose name may stand once
unfoldable pub more_selectors : Setting → List Selector → Entry → Result (List Selector) FormFault
more_selectors s before e =
    and_then (once (selector_names before) s e (selector_block s e)) (λ one. Ok (before ++ one ∷ []))

-- one more Timing; blocks of one title are judged as one
unfoldable pub more_timings : Setting → List TimingBlock → Entry → Result (List TimingBlock) FormFault
more_timings s before e = and_then (timing_block s (tables_in before) e) (λ one. Ok (before ++ one ∷ []))

-- one more ScanStructures block; blocks of one title are judged as one
unfoldable pub more_scans : Setting → List ScanBlock → Entry → Result (List ScanBlock) FormFault
more_scans s before e = and_then (scan_block s (chains_in before) e) (λ one. Ok (before ++ one ∷ []))

-- one more MacroDefs or Procedures block; blocks of one title are judged as one
unfoldable pub more_defs : Setting → BodyPlace → List DefBlock → Entry → Result (List DefBlock) FormFault
more_defs s here before e = and_then (defs_block s here (bodies_in before) e) (λ one. Ok (before ++ one ∷ []))

-- one more PatternBurst, whose name may stand once
unfoldable pub more_bursts : Setting → List Burst → Entry → Result (List Burst) FormFault
more_bursts s before e = and_then (once (burst_names before) s e (burst_block s e)) (λ one. Ok (before ++ one ∷ []))

-- one more PatternExec, of which there may be so many
unfoldable pub more_executives : Setting → List ExecDecl → Entry → Result (List ExecDecl) FormFault
more_executives s before e = and_then (few (length before) s e (exec_block s e)) (λ one. Ok (before ++ one ∷ []))

-- one more Pattern, whose name may stand once
unfoldable pub more_patterns : Setting → List Pattern → Entry → Result (List Pattern) FormFault
more_patterns s before e =
    and_then (once (pattern_names before) s e (pattern_block s e)) (λ one. Ok (before ++ one ∷ []))

-- the blocks with what a statement of this keyword declares
abbrev pub block_step : Setting → Blocks → Entry → Keyword → Result Blocks FormFault
block_step s b e keyword.Signals = and_then (more_signals s b.signals e) (λ all. Ok (record b { signals = all }))
block_step s b e keyword.SignalGroups = and_then (more_groups s b.groups e) (λ all. Ok (record b { groups = all }))
block_step s b e keyword.Spec = and_then (more_specs s b.specs e) (λ all. Ok (record b { specs = all }))
block_step s b e keyword.Selector = and_then (more_selectors s b.selectors e) (λ all. Ok (record b { selectors = all }))
block_step s b e keyword.Timing = and_then (more_timings s b.timings e) (λ all. Ok (record b { timings = all }))
block_step s b e keyword.ScanStructures = and_then (more_scans s b.scans e) (λ all. Ok (record b { scans = all }))
block_step s b e keyword.MacroDefs =
    and_then (more_defs s place.Macro b.macros e) (λ all. Ok (record b { macros = all }))
block_step s b e keyword.Procedures =
    and_then (more_defs s place.Procedure b.procedures e) (λ all. Ok (record b { procedures = all }))
block_step s b e keyword.PatternBurst = and_then (more_bursts s b.bursts e) (λ all. Ok (record b { bursts = all }))
block_step s b e keyword.PatternExec =
    and_then (more_executives s b.executives e) (λ all. Ok (record b { executives = all }))
block_step s b e keyword.Pattern = and_then (more_patterns s b.patterns e) (λ all. Ok (record b { patterns = all }))
block_step s b e _ = Err (Refused Shape e.first)

-- the word that a token is
abbrev pub word_in : Lexeme → Option (List ℕ)
word_in (word bytes) = Some bytes
word_in _ = None

-- the words that are tokens of the statement with this first one
abbrev pub words_in : ℕ → List (List ℕ) → List Lexeme → Result (List (List ℕ)) FormFault
words_in first before rest =
    reading (λ (_ : List (List ℕ)) (one : Lexeme). at_statement first (is_there (word_in one))) before rest

-- one word or more behind the others
abbrev pub more_words : ℕ → List (List ℕ) → List Lexeme → Result (List (List ℕ)) FormFault
more_words first before [] = Err (Refused Shape first)
more_words first before (one ∷ rest) = words_in first before (one ∷ rest)

-- the words of a UserKeywords statement behind those before it
abbrev pub words_said : Setting → Entry → Result (List (List ℕ)) FormFault
words_said s e =
    if is_some e.body then Err (Refused Shape e.first) else more_words e.first s.words (rest_at s e)

-- what stands so far with other words
abbrev pub with_words : Top → List (List ℕ) → Top
with_words t words = record { words = words; blocks = t.blocks }

-- what stands so far with other blocks
abbrev pub with_blocks : Top → Blocks → Top
with_blocks t blocks = record { words = t.words; blocks = blocks }

-- the keyword of a statement
abbrev pub keyword_at : Setting → Entry → Option Keyword
keyword_at s e = first_meaning keywords (lexemes_at s e)

-- what stands behind a statement of this keyword
abbrev pub keyword_step : Setting → Top → Entry → Keyword → Result Top FormFault
keyword_step s t e keyword.Header = and_then (bare_block s e) (λ _. Ok t)
keyword_step s t e keyword.UserKeywords = and_then (words_said s e) (λ words. Ok (with_words t words))
keyword_step s t e keyword.UserFunctions = Ok t
keyword_step s t e keyword.Stil = Err (Refused Shape e.first)
keyword_step s t e other = and_then (block_step s t.blocks e other) (λ blocks. Ok (with_blocks t blocks))

-- the same of a statement that may have none, and is then left out
abbrev pub by_keyword : Setting → Top → Entry → Option Keyword → Result Top FormFault
by_keyword s t e None = Err (Refused LeftOut e.first)
by_keyword s t e (Some found) = keyword_step s t e found

-- a statement at the top level, behind what stands so far; one that begins with one of the words is skipped
abbrev pub top_step : List ℕ → List Token → Top → Entry → Result Top FormFault
top_step bytes tokens t e =
    if is_skipped t.words (lexemes_at (setting bytes tokens t.words) e) then Ok t
    else by_keyword (setting bytes tokens t.words) t e (keyword_at (setting bytes tokens t.words) e)

-- `STIL 1.0`
abbrev pub is_stil_1_0 : List Lexeme → Bool
is_stil_1_0 (stil ∷ major ∷ sign Dot ∷ minor ∷ []) =
    is_keyword (codes "STIL") stil && is_keyword (codes "1") major && is_keyword (codes "0") minor
is_stil_1_0 _ = false

-- why a text is refused: for one of its statements, or for want of a header or an executive
pub data TextFault : Type 0 where
  in_statement : FormFault → TextFault
  nowhere : FormKind → TextFault

-- there is an executive
abbrev pub with_executive : Blocks → List ExecDecl → Result Blocks TextFault
with_executive blocks [] = Err (nowhere NoExec)
with_executive blocks (e ∷ es) = Ok blocks

-- the blocks behind all statements
abbrev pub finished : Result Top FormFault → Result Blocks TextFault
finished (Ok t) = with_executive t.blocks t.blocks.executives
finished (Err fault) = Err (in_statement fault)

-- nothing stands so far
abbrev pub start : Top
start = record { words = []; blocks = no_blocks }

-- the blocks behind a header, with a block or without
abbrev pub behind_header : List ℕ → List Token → Bool → Entry → List Entry → Result Blocks TextFault
behind_header bytes tokens true e es = finished (stepping (top_step bytes tokens) start es)
behind_header bytes tokens false e es = Err (in_statement (Refused NoHeader e.first))

-- the blocks of a text by its statements, of which the first is the header; or its first fault in text order
abbrev pub blocks_of : List ℕ → List Token → List Entry → Result Blocks TextFault
blocks_of bytes tokens [] = Err (nowhere NoHeader)
blocks_of bytes tokens (e ∷ es) =
    behind_header bytes tokens (is_stil_1_0 (lexemes_at (setting bytes tokens []) e)) e es
