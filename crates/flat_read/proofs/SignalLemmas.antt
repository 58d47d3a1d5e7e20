-- The signals of a code are read as they are.
use Rattle.std.proofs.Common.{◌≡◌, ℕ, ◌+◌, true, List, [], ◌∷◌, Option, Some, None, Result, Ok, refl, ap, ◌∙◌}
use Rattle.std.specs.List.{AllByRecursion, AllZip}
use Rattle.tester_types.specs.declared.signal.Direction.{Direction}
use Rattle.tester_types.specs.declared.signal.Direction.TheVariants as direction
use Rattle.stil_lex.specs.declared.token.Token.{Token}
use Rattle.stil_tree.specs.Trees.{Entry, entries}
use Rattle.answers.specs.Reading.{and_then, reading}
use Rattle.stil_form.specs.declared.fault.FormKind.{FormKind}
use Rattle.stil_form.specs.Lexeme.{Lexeme, word}
use Rattle.stil_form.specs.Words.{fits_name}
use Rattle.stil_form.specs.Setting.{setting, line_at, at_statement}
use Rattle.stil_ast.specs.declared.signal.SignalDecl.{SignalDecl}
use Rattle.pat_read.specs.Statements.{is_there}
use Rattle.block_forms.specs.Quotes.{attributes}
use Rattle.signal_blocks.specs.Signals.{only_direction, signal_with, signal_named, signal_said as signal_form_said, judge_signal, signals_of}
use Rattle.packed_code.specs.declared.parts.CodeSignal.{CodeSignal}
use Rattle.line_texts.specs.Said.{Said, no_more, trees_at, each_said}
use Rattle.line_texts.proofs.SettingLemmas.{unskipped_all}
use Rattle.line_texts.proofs.StandingLemmas.{Stands, unspaced, statement_head, behind_statement}
use Rattle.flat_parts.specs.FlatText.{direction_word}
use Rattle.flat_parts.specs.FlatBlocks.{IsSignalDecl}
use Rattle.flat_said.specs.FlatSaid.{signal_said}
use Rattle.flat_read.proofs.HeadLemmas.{name_word}
use Rattle.flat_read.proofs.NameLemmas.{named_is}
use Rattle.flat_read.proofs.ReadingLemmas.{each_from, IsForm, reading_each, zip_all}

-- a signal
abbrev pub signal_decl : List Token → ℕ → CodeSignal → SignalDecl
signal_decl tokens at signal =
    record { name = signal.name; range = None; direction = signal.direction; line = line_at tokens at }

abbrev pub signal_entry : ℕ → CodeSignal → Entry
signal_entry at signal = record { first = at; count = 2; body = None }

abbrev pub signal_next : ℕ → CodeSignal → ℕ
signal_next at signal = at + 2 + 1

-- a direction is read by its word
direction_read : (d : Direction) → only_direction (word (direction_word d) ∷ []) ≡ Ok d
direction_read direction.In = refl
direction_read direction.Out = refl
direction_read direction.InOut = refl
direction_read direction.Supply = refl
direction_read direction.Pseudo = refl

-- a signal is read
signal_read : (bytes : List ℕ) (tokens : List Token) (before : List SignalDecl) (at : ℕ) (signal : CodeSignal) (more : Said)
    → fits_name signal.name ≡ true → Stands bytes tokens at (signal_said signal more)
    → judge_signal (setting bytes tokens []) before (signal_entry at signal) ≡ Ok (signal_decl tokens at signal)
signal_read bytes tokens before at signal more fits stands =
    let s = setting bytes tokens [] in
    let line = line_at tokens at in
    let rest : List Lexeme = word (direction_word signal.direction) ∷ [] in
    ap (λ (ls : List Lexeme). and_then (at_statement at (signal_form_said line ls)) (λ said. and_then (attributes s []) (λ u. Ok said)))
    (statement_head stands ∙ name_word signal.name (direction_word signal.direction))
    ∙ ap (λ (o : Option (List ℕ)). and_then (at_statement at (and_then (is_there o)
    (λ called. signal_named line called (Some (None, rest)))))
    (λ said. and_then (attributes s []) (λ u. Ok said))) (named_is signal.name fits)
    ∙ ap (λ (r : Result Direction FormKind). and_then (at_statement at (and_then r (signal_with line signal.name None)))
    (λ said. and_then (attributes s []) (λ u. Ok said))) (direction_read signal.direction)

signal_form : (bytes : List ℕ) (tokens : List Token) → IsForm bytes tokens signal_said signal_entry signal_next
signal_form bytes tokens = record { front = λ signal at more. refl; behind = λ signal at more h. unspaced (behind_statement h) }

-- all signals
pub signals_read : (bytes : List ℕ) (tokens : List Token) (signals : List CodeSignal) (at : ℕ)
    → AllByRecursion (λ s. fits_name s.name ≡ true) signals → Stands bytes tokens at (each_said signal_said signals no_more)
    → signals_of (setting bytes tokens []) (entries (trees_at at (each_said signal_said signals no_more)))
    ≡ Ok (each_from (signal_decl tokens) signal_next at signals)
signals_read bytes tokens signals at fits stands =
    let s = setting bytes tokens [] in
    ap (λ (es : List Entry). reading (judge_signal s) [] es)
    (unskipped_all bytes tokens (entries (trees_at at (each_said signal_said signals no_more))))
    ∙ reading_each bytes tokens signal_said signal_entry signal_next (signal_form bytes tokens) (judge_signal s) (signal_decl tokens)
    (λ before left. AllByRecursion (λ s. fits_name s.name ≡ true) left)
    (λ before place signal left more fit here. (signal_read bytes tokens before place signal more fit.0 here, fit.1))
    signals [] at fits stands

-- each is the signal
pub signals_are : (tokens : List Token) (signals : List CodeSignal) (at : ℕ)
    → AllZip IsSignalDecl signals (each_from (signal_decl tokens) signal_next at signals)
signals_are tokens signals at = zip_all IsSignalDecl (signal_decl tokens) signal_next (λ f signal. refl) signals at
