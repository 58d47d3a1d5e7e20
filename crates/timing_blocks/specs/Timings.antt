-- Timing blocks and their waveform tables (IEEE 1450-1999, clause 18).
use Rattle.std.specs.Prelude.{ℕ, suc, not, nat_lt, Bool, List, [], ◌∷◌, ◌++◌, map, slice_get, codes, Option, Some, None, is_some, Result, Ok, Err, if◌then◌else◌}
use Rattle.std.specs.List.{filter_map, flat_map}
use Rattle.text_bytes.specs.Limits.{most_tables}
use Rattle.answers.specs.Reading.{and_then, reading}
use Rattle.stil_tree.specs.Trees.{Entry}
use Rattle.stil_form.specs.declared.fault.FormFault.{FormFault}
use Rattle.stil_form.specs.declared.fault.FormFault.TheVariants.{Refused}
use Rattle.stil_form.specs.declared.fault.FormKind.{FormKind}
use Rattle.stil_form.specs.declared.fault.FormKind.TheVariants.{LeftOut, OutOfRange, Twice}
use Rattle.stil_form.specs.Lexeme.{Lexeme}
use Rattle.stil_form.specs.Setting.{Setting, lexemes_at, line_at, at_statement, inner_of, unskipped}
use Rattle.stil_ast.specs.declared.name.Named.{Named}
use Rattle.stil_ast.specs.declared.name.Quoted.{Quoted}
use Rattle.stil_ast.specs.declared.timing.SignalWaves.{SignalWaves}
use Rattle.stil_ast.specs.declared.timing.TableDecl.{TableDecl}
use Rattle.stil_ast.specs.declared.timing.TimingBlock.{TimingBlock}
use Rattle.timing_blocks.specs.declared.timings.TableWord.{TableWord}
use Rattle.timing_blocks.specs.declared.timings.TableWord.TheVariants as word
use Rattle.pat_read.specs.Statements.{only_name}
use Rattle.block_forms.specs.Named.{named_on}
use Rattle.block_forms.specs.Quotes.{quoted_at}
use Rattle.block_forms.specs.Keywords.{first_meaning}
use Rattle.block_forms.specs.Heads.{is_first, where_so, only_text, rest_at, bare_block, named_block, titled_block, is_declared, count_under, under}
use Rattle.timing_blocks.specs.Waveforms.{signals_of}

-- the keywords in a waveform table
abbrev pub table_words : List (List ℕ × TableWord)
table_words =
    (codes "Period", word.Period) ∷ (codes "InheritWaveformTable", word.Inherit)
    ∷ (codes "Waveforms", word.Waveforms) ∷ []

-- a keyword and a text, without a block
abbrev pub plain_text : Setting → Entry → Result (List ℕ) FormFault
plain_text s e = at_statement e.first (where_so (not (is_some e.body)) (only_text (rest_at s e)))

-- a keyword and a name, without a block
abbrev pub plain_name : Setting → Entry → Result (List ℕ) FormFault
plain_name s e = at_statement e.first (where_so (not (is_some e.body)) (only_name (rest_at s e)))

-- what a statement of a waveform table says
pub data TableLine : Type 0 where
  period : Quoted → TableLine
  inherit : Named → TableLine
  waves : List SignalWaves → TableLine

-- the period that a statement says
abbrev pub period_in : TableLine → Option Quoted
period_in (period said) = Some said
period_in _ = None

-- the table that a statement inherits
abbrev pub inherit_in : TableLine → Option Named
inherit_in (inherit said) = Some said
inherit_in _ = None

-- the waveforms that a statement says
abbrev pub waves_in : TableLine → List SignalWaves
waves_in (waves said) = said
waves_in _ = []

-- the period that is said first
abbrev pub period_of : List TableLine → Option Quoted
period_of said = slice_get (filter_map period_in said) 0

-- a period, where none is said before it
abbrev pub new_period : List TableLine → Quoted → Result TableLine FormKind
new_period before said = if is_some (period_of before) then Err Twice else Ok (period said)

-- `Period Text;`, `InheritWaveformTable name;` and `Waveforms { }` in a table; any other statement is left out
abbrev pub line_by : Setting → List TableLine → Entry → Option TableWord → Result TableLine FormFault
line_by s before e None = Err (Refused LeftOut e.first)
line_by s before e (Some word.Period) =
    and_then (plain_text s e) (λ text. at_statement e.first (new_period before (quoted_at s (suc e.first) text)))
line_by s before e (Some word.Inherit) =
    and_then (plain_name s e) (λ called. Ok (inherit (named_on s e called)))
line_by s before e (Some word.Waveforms) =
    and_then (bare_block s e) (λ nothing. and_then (signals_of s (inner_of e.body)) (λ said. Ok (waves said)))

-- what one more statement of a waveform table says
abbrev pub judge_line : Setting → List TableLine → Entry → Result TableLine FormFault
judge_line s before e = line_by s before e (first_meaning table_words (lexemes_at s e))

-- the table of this name, on this line, of which this is said
abbrev pub table_in : List ℕ → ℕ → List TableLine → TableDecl
table_in called line said =
    record {
      name = called;
      period = period_of said;
      inherits = filter_map inherit_in said;
      waveforms = flat_map waves_in said;
      line = line;
    }

-- the table of this name, on this line, that statements say
abbrev pub table_of : Setting → List ℕ → ℕ → List Entry → Result TableDecl FormFault
table_of s called line es =
    and_then (reading (judge_line s) [] (unskipped s es)) (λ said. Ok (table_in called line said))

-- the keyword that a Timing may hold
abbrev pub is_table : List Lexeme → Bool
is_table head = is_first (codes "WaveformTable") head

-- one more name of a table: a Timing has at most 64, each once
abbrev pub new_name : List (List ℕ × List ℕ) → List ℕ → List ℕ → Result (List ℕ) FormKind
new_name declared title called =
    if nat_lt (count_under declared title) most_tables
    then (if is_declared declared title called then Err Twice else Ok called)
    else Err OutOfRange

-- the name of one more table of a Timing
abbrev pub table_name : Setting → List (List ℕ × List ℕ) → List ℕ → Entry → Result (List ℕ) FormFault
table_name s declared title e =
    if is_table (lexemes_at s e)
    then and_then (named_block s e) (λ called. at_statement e.first (new_name declared title called))
    else Err (Refused LeftOut e.first)

-- the names of tables
abbrev pub table_names : List TableDecl → List (List ℕ)
table_names tables = map (λ (t : TableDecl). t.name) tables

-- one more table of a Timing of this title, behind those declared
abbrev pub table_said : Setting → List (List ℕ × List ℕ) → List ℕ → Entry → Result TableDecl FormFault
table_said s declared title e =
    and_then (table_name s declared title e) (λ called.
    table_of s called (line_at s.tokens e.first) (inner_of e.body))

-- the same, behind those declared and those before it in the same block
abbrev pub judge_table : Setting → List (List ℕ × List ℕ) → List ℕ → List TableDecl → Entry
    → Result TableDecl FormFault
judge_table s declared title before e = table_said s (declared ++ under title (table_names before)) title e

-- the tables of a Timing of this title
abbrev pub tables_of : Setting → List (List ℕ × List ℕ) → List ℕ → List Entry → Result (List TableDecl) FormFault
tables_of s declared title es = reading (judge_table s declared title) [] (unskipped s es)

-- a Timing block, behind the tables declared before it, each under the title of its Timing
abbrev pub timing_block : Setting → List (List ℕ × List ℕ) → Entry → Result TimingBlock FormFault
timing_block s declared e =
    and_then (titled_block s e) (λ title.
    and_then (tables_of s declared title (inner_of e.body)) (λ tables.
    Ok (record { name = title; tables = tables })))
