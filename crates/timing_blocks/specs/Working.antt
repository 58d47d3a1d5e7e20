-- The same as machines: what the code keeps from one token or statement to the next. No public clause cites them.
use Rattle.std.specs.Prelude.{ℕ, suc, ◌+◌, ◌&&◌, ◌||◌, not, Bool, true, false, List, [], ◌∷◌, ◌++◌, Option, Some, None, is_some, Result, Ok, Err, if◌then◌else◌}
use Rattle.answers.specs.Reading.{and_then}
use Rattle.tester_types.specs.declared.wave.Act.{Act}
use Rattle.stil_tree.specs.Trees.{Entry}
use Rattle.stil_form.specs.declared.fault.FormFault.{FormFault}
use Rattle.stil_form.specs.declared.fault.FormFault.TheVariants.{Refused}
use Rattle.stil_form.specs.declared.fault.FormKind.{FormKind}
use Rattle.stil_form.specs.declared.fault.FormKind.TheVariants.{Shape, LeftOut, Twice}
use Rattle.stil_form.specs.Lexeme.{Lexeme}
use Rattle.stil_form.specs.Setting.{Setting, lexemes_at, at_statement, inner_of}
use Rattle.stil_ast.specs.Meaning.Variables.{chosen_of}
use Rattle.stil_ast.specs.declared.name.Named.{Named}
use Rattle.stil_ast.specs.declared.name.Quoted.{Quoted}
use Rattle.stil_ast.specs.declared.timing.SignalWaves.{SignalWaves}
use Rattle.stil_ast.specs.declared.timing.TableDecl.{TableDecl}
use Rattle.stil_ast.specs.declared.variable.Choice.{Choice}
use Rattle.stil_ast.specs.declared.variable.Choice.TheVariants.{Min, Typ, Max, Meas}
use Rattle.stil_ast.specs.declared.variable.Choices.{Choices}
use Rattle.stil_ast.specs.declared.variable.Selection.{Selection}
use Rattle.timing_blocks.specs.declared.timings.TableWord.{TableWord}
use Rattle.timing_blocks.specs.declared.timings.TableWord.TheVariants as word
use Rattle.block_forms.specs.Named.{named_on}
use Rattle.block_forms.specs.Quotes.{quoted_at}
use Rattle.block_forms.specs.Keywords.{first_meaning}
use Rattle.block_forms.specs.Heads.{bare_block}
use Rattle.timing_blocks.specs.Variables.{choice_at}
use Rattle.timing_blocks.specs.Selectors.{selection_at, is_selected}
use Rattle.timing_blocks.specs.Waveforms.{act_of, is_slash, signals_of}
use Rattle.timing_blocks.specs.Timings.{table_words, plain_text, plain_name}

-- ---- the acts of an event

-- one more act; a token in its place that is none is left out
abbrev pub with_act : List Act → Option Act → Result (List Act) FormKind
with_act before None = Err LeftOut
with_act before (Some found) = Ok (before ++ found ∷ [])

-- one more token of acts: a `/`, or else an act
abbrev pub with_token : Bool → List Act → Lexeme → Result (List Act) FormKind
with_token true before one = if is_slash one then Ok before else Err Shape
with_token false before one = with_act before (act_of one)

-- acts behind others, with `/` between them; whether a `/` comes next. The last token is an act
abbrev pub acts_from : Bool → List Act → List Lexeme → Result (List Act) FormKind
acts_from slash_next before [] = if slash_next then Ok before else Err Shape
acts_from slash_next before (one ∷ rest) =
    and_then (with_token slash_next before one) (λ read. acts_from (not slash_next) read rest)

-- whether a token at an act's place is no act; such a place is the first one, and each behind a `/`
abbrev pub lacks_act : Bool → List Lexeme → Bool
lacks_act at_act [] = false
lacks_act at_act (one ∷ rest) = (at_act && not (is_some (act_of one))) || lacks_act (is_slash one) rest

-- `act` or `act/act/..`; a token at an act's place that is none is left out, whatever else stands there
abbrev pub acts_of : List Lexeme → Result (List Act) FormKind
acts_of parts = if lacks_act true parts then Err LeftOut else acts_from false [] parts

-- ---- the texts of a variable's block

-- a text more
abbrev pub given : Choice → Quoted → Choices → Choices
given Min q c = record { min = Some q; typ = c.typ; max = c.max; meas = c.meas }
given Typ q c = record { min = c.min; typ = Some q; max = c.max; meas = c.meas }
given Max q c = record { min = c.min; typ = c.typ; max = Some q; meas = c.meas }
given Meas q c = record { min = c.min; typ = c.typ; max = c.max; meas = Some q }

-- no text yet
abbrev pub none_given : Choices
none_given = record { min = None; typ = None; max = None; meas = None }

-- a text for a choice that has none yet; it is the second token of its statement
abbrev pub give_once : Setting → Choices → Entry → Choice × List ℕ → Result Choices FormFault
give_once s before e said =
    if is_some (chosen_of said.0 before) then Err (Refused Twice e.first)
    else Ok (given said.0 (quoted_at s (e.first + 1) said.1) before)

-- one more statement of a variable's block
abbrev pub choice_step : Setting → Choices → Entry → Result Choices FormFault
choice_step s before e = and_then (choice_at s e) (give_once s before e)

-- ---- the selections of a Selector

-- a selection more, of a name that isn't there yet
abbrev pub select_once : List Selection → Entry → Selection → Result (List Selection) FormFault
select_once before e c = if is_selected before c.name then Err (Refused Twice e.first) else Ok (before ++ c ∷ [])

-- one more statement of a Selector
abbrev pub selection_step : Setting → List Selection → Entry → Result (List Selection) FormFault
selection_step s before e = and_then (selection_at s e) (select_once before e)

-- ---- the statements of a waveform table

-- a table with this period, where it has none
abbrev pub with_period : TableDecl → Quoted → Result TableDecl FormKind
with_period table period =
    if is_some table.period then Err Twice
    else Ok (record {
      name = table.name;
      period = Some period;
      inherits = table.inherits;
      waveforms = table.waveforms;
      line = table.line;
    })

-- a table that inherits one more
abbrev pub with_inherit : TableDecl → Named → TableDecl
with_inherit table inherited =
    record {
      name = table.name;
      period = table.period;
      inherits = table.inherits ++ inherited ∷ [];
      waveforms = table.waveforms;
      line = table.line;
    }

-- a table with more waveforms
abbrev pub with_waveforms : TableDecl → List SignalWaves → TableDecl
with_waveforms table waveforms =
    record {
      name = table.name;
      period = table.period;
      inherits = table.inherits;
      waveforms = table.waveforms ++ waveforms;
      line = table.line;
    }

-- `Period Text;`, `InheritWaveformTable name;` and `Waveforms { }` in a table; any other statement is left out
abbrev pub table_by : Setting → TableDecl → Entry → Option TableWord → Result TableDecl FormFault
table_by s table e None = Err (Refused LeftOut e.first)
table_by s table e (Some word.Period) =
    and_then (plain_text s e) (λ text. at_statement e.first (with_period table (quoted_at s (suc e.first) text)))
table_by s table e (Some word.Inherit) =
    and_then (plain_name s e) (λ called. Ok (with_inherit table (named_on s e called)))
table_by s table e (Some word.Waveforms) =
    and_then (bare_block s e) (λ nothing. and_then (signals_of s (inner_of e.body)) (λ waveforms.
    Ok (with_waveforms table waveforms)))

-- a table with one more of its statements
abbrev pub table_step : Setting → TableDecl → Entry → Result TableDecl FormFault
table_step s table e = table_by s table e (first_meaning table_words (lexemes_at s e))

-- a table of which nothing was read but its name
abbrev pub empty_table : List ℕ → ℕ → TableDecl
empty_table called line = record { name = called; period = None; inherits = []; waveforms = []; line = line }
