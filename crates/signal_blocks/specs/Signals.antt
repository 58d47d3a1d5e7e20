-- Signals blocks (IEEE 1450-1999, clause 14).
use Rattle.std.specs.Prelude.{ℕ, Bool, true, false, List, [], ◌∷◌, codes, Option, Some, None, option_map, Result, Ok, Err}
use Rattle.stil_tree.specs.Trees.{Entry}
use Rattle.answers.specs.Reading.{and_then, reading}
use Rattle.tester_types.specs.declared.signal.Direction.{Direction}
use Rattle.tester_types.specs.declared.signal.Direction.TheVariants as direction
use Rattle.stil_form.specs.declared.fault.FormFault.{FormFault}
use Rattle.stil_form.specs.declared.fault.FormKind.{FormKind}
use Rattle.stil_form.specs.declared.fault.FormKind.TheVariants.{Shape}
use Rattle.stil_form.specs.declared.front.Span.{Span}
use Rattle.stil_form.specs.declared.part.SignKind.TheVariants.{Open, Dot}
use Rattle.stil_form.specs.Lexeme.{Lexeme, sign}
use Rattle.stil_form.specs.Words.{named_by}
use Rattle.stil_form.specs.Fronts.{index_front}
use Rattle.stil_form.specs.Setting.{Setting, lexemes_at, line_at, at_statement, inner_of, unskipped}
use Rattle.pat_read.specs.References.{range_of}
use Rattle.stil_ast.specs.declared.signal.SignalDecl.{SignalDecl}
use Rattle.signal_blocks.specs.declared.signals.SignalHead.{SignalHead}
use Rattle.pat_read.specs.Statements.{is_there}
use Rattle.block_forms.specs.Heads.{bare_block}
use Rattle.block_forms.specs.Keywords.{only_meaning}
use Rattle.block_forms.specs.Quotes.{attributes}

-- what a signal is for
abbrev pub directions : List (List ℕ × Direction)
directions =
    (codes "In", direction.In) ∷ (codes "Out", direction.Out) ∷ (codes "InOut", direction.InOut)
    ∷ (codes "Supply", direction.Supply) ∷ (codes "Pseudo", direction.Pseudo) ∷ []

-- a direction, and nothing behind it
abbrev pub only_direction : List Lexeme → Result Direction FormKind
only_direction rest = is_there (only_meaning directions rest)

-- behind a `[`: two indices begin, with dots between them
abbrev pub are_two : List Lexeme → Bool
are_two (first ∷ sign Dot ∷ rest) = true
are_two _ = false

-- these indices
abbrev pub some_span : Span × List Lexeme → Option Span × List Lexeme
some_span found = (Some found.0, found.1)

-- the indices `[n..n]`, where they are two
abbrev pub two_front : Bool → List Lexeme → Option (Option Span × List Lexeme)
two_front true rest = option_map some_span (index_front rest)
two_front false rest = None

-- indices `[n..n]` or none, and what stands behind them
abbrev pub span_front : List Lexeme → Option (Option Span × List Lexeme)
span_front (sign Open ∷ rest) = two_front (are_two rest) (sign Open ∷ rest)
span_front rest = Some (None, rest)

-- a signal of these; its indices are judged behind its form
abbrev pub signal_with : ℕ → List ℕ → Option Span → Direction → Result SignalDecl FormKind
signal_with line called span found =
    and_then (range_of span) (λ range. Ok (record { name = called; range = range; direction = found; line = line }))

-- a signal by what stands behind its name
abbrev pub signal_named : ℕ → List ℕ → Option (Option Span × List Lexeme) → Result SignalDecl FormKind
signal_named line called None = Err Shape
signal_named line called (Some found) = and_then (only_direction found.1) (signal_with line called found.0)

-- `name dir` or `name[n..n] dir`, on a line
abbrev pub signal_said : ℕ → List Lexeme → Result SignalDecl FormKind
signal_said line [] = Err Shape
signal_said line (one ∷ rest) =
    and_then (is_there (named_by one)) (λ called. signal_named line called (span_front rest))

-- a head that was read, without where its name lies in memory
abbrev pub signal_of : SignalHead → SignalDecl
signal_of head =
    record { name = head.name.now; range = head.range; direction = head.direction; line = head.line }

-- what a statement's head says
abbrev pub signal_at : Setting → Entry → Result SignalDecl FormFault
signal_at s e = at_statement e.first (signal_said (line_at s.tokens e.first) (lexemes_at s e))

-- a signal, behind which attributes may stand
abbrev pub judge_signal : Setting → List SignalDecl → Entry → Result SignalDecl FormFault
judge_signal s before e = and_then (signal_at s e) (λ said. and_then (attributes s (inner_of e.body)) (λ _. Ok said))

-- the signals of a block's statements
abbrev pub signals_of : Setting → List Entry → Result (List SignalDecl) FormFault
signals_of s es = reading (judge_signal s) [] (unskipped s es)

-- `Signals { }`
abbrev pub signals_block : Setting → Entry → Result (List SignalDecl) FormFault
signals_block s e = and_then (bare_block s e) (λ _. signals_of s (inner_of e.body))
