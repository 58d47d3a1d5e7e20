-- Signals and groups that are read have their forms.
use Rattle.std.proofs.Common.{◌≡◌, ℕ, ◌+◌, ◌<◌, true, List, [], ◌∷◌, length, Option, Some, None, Ok, subst, ◌∙◌, arith}
use Rattle.std.specs.List.{list_all}
use Rattle.std.proofs.lemmas.Bool.{and_from}
use Rattle.answers.specs.Reading.{and_then}
use Rattle.tester_types.specs.declared.signal.Direction.{Direction}
use Rattle.stil_tree.specs.Trees.{Entry}
use Rattle.stil_form.specs.declared.fault.FormKind.{FormKind}
use Rattle.stil_form.specs.declared.front.Span.{Span}
use Rattle.stil_form.specs.Lexeme.{Lexeme}
use Rattle.stil_form.specs.Words.{named_by}
use Rattle.stil_form.specs.Setting.{Setting, lexemes_at, line_at, inner_of, unskipped}
use Rattle.pat_read.specs.References.{range_of}
use Rattle.stil_ast.specs.Data.Texts.{is_name}
use Rattle.stil_ast.specs.Data.Forms.{is_line, is_absent_or, is_range, is_optional_name, is_quoted}
use Rattle.stil_ast.specs.Data.BlockForms.{is_signal_decl, is_group_decl, is_group_block}
use Rattle.stil_ast.specs.declared.signal.SignalDecl.{SignalDecl}
use Rattle.stil_ast.specs.declared.signal.GroupDecl.{GroupDecl}
use Rattle.stil_ast.specs.declared.signal.GroupBlock.{GroupBlock}
use Rattle.pat_read.specs.Statements.{is_there}
use Rattle.block_forms.specs.Heads.{bare_block, titled_block}
use Rattle.block_forms.specs.Quotes.{equal_text_at, quoted_at, attributes}
use Rattle.signal_blocks.specs.Signals.{only_direction, span_front, signal_with, signal_named, signal_said, signal_at, judge_signal, signals_of, signals_block}
use Rattle.signal_blocks.specs.Groups.{group_of, judge_group, groups_of, group_block, groups_block}
use Rattle.pat_read.specs.Accepted.{HasLines}
use Rattle.pat_read.proofs.AcceptedLemmas.{both_ok, said_at, reading-each, first_line, is_range-range_of}
use Rattle.pat_read.proofs.AcceptedBodies.{all_three}
use Rattle.block_forms.proofs.FormLemmas.{is_optional_name-titled_block}
use Rattle.block_forms.proofs.QuoteForms.{same_ok, is_name-there, equal_text_at-is}

-- a signal of judged indices
signal_with-is : (line : ℕ) (called : List ℕ) (span : Option Span) (found : Direction) (d : SignalDecl)
    → is_name called ≡ true → is_line line ≡ true → signal_with line called span found ≡ Ok d
    → is_signal_decl d ≡ true
signal_with-is line called span found d named lined is =
    let both = both_ok (range_of span) (λ range. Ok
    (record { name = called; range = range; direction = found; line = line })) d is in
    subst (λ (x : SignalDecl). is_signal_decl x ≡ true)
    (same_ok {F = FormKind} (record { name = called; range = both.given; direction = found; line = line }) d
    both.made)
    (all_three (is_name called) (is_absent_or is_range both.given) (is_line line) named
    (is_range-range_of span both.given both.met) lined)

signal_named-is : (line : ℕ) (called : List ℕ) (o : Option (Option Span × List Lexeme)) (d : SignalDecl)
    → is_name called ≡ true → is_line line ≡ true → signal_named line called o ≡ Ok d → is_signal_decl d ≡ true
signal_named-is line called None d named lined is = cc
signal_named-is line called (Some found) d named lined is =
    let both = both_ok (only_direction found.1) (signal_with line called found.0) d is in
    signal_with-is line called found.0 both.given d named lined both.made

-- a signal's head
signal_said-is : (line : ℕ) (head : List Lexeme) (d : SignalDecl) → (0 < length head → is_line line ≡ true)
    → signal_said line head ≡ Ok d → is_signal_decl d ≡ true
signal_said-is line [] d lined is = cc
signal_said-is line (one ∷ rest) d lined is =
    let both = both_ok (is_there (named_by one)) (λ called. signal_named line called (span_front rest)) d is in
    signal_named-is line both.given (span_front rest) d (is_name-there one both.given both.met)
    (lined (omega arith)) both.made

-- a signal's statement
judge_signal-is : (s : Setting) → HasLines s → (before : List SignalDecl) (e : Entry) (d : SignalDecl)
    → judge_signal s before e ≡ Ok d → is_signal_decl d ≡ true
judge_signal-is s lines before e d is =
    let head = both_ok (signal_at s e) (λ said. and_then (attributes s (inner_of e.body)) (λ _. Ok said)) d is in
    let behind = both_ok (attributes s (inner_of e.body)) (λ _. Ok head.given) d head.made in
    signal_said-is (line_at s.tokens e.first) (lexemes_at s e) d (first_line s lines e)
    (said_at e.first (signal_said (line_at s.tokens e.first) (lexemes_at s e)) d
    (head.met ∙ behind.made))

-- the signals of a Signals block have their form
pub signals_block-is : (s : Setting) → HasLines s → (e : Entry) (ds : List SignalDecl)
    → signals_block s e ≡ Ok ds → list_all is_signal_decl ds ≡ true
signals_block-is s lines e ds is =
    let both = both_ok (bare_block s e) (λ _. signals_of s (inner_of e.body)) ds is in
    reading-each (judge_signal s) is_signal_decl (λ before x d. judge_signal-is s lines before x d)
    (unskipped s (inner_of e.body)) ds both.made

-- a group's statement
judge_group-is : (s : Setting) → HasLines s → (before : List GroupDecl) (e : Entry) (d : GroupDecl)
    → judge_group s before e ≡ Ok d → is_group_decl d ≡ true
judge_group-is s lines before e d is =
    let head = both_ok (equal_text_at s e)
    (λ said. and_then (attributes s (inner_of e.body)) (λ _. Ok (group_of s e said))) d is in
    let behind = both_ok (attributes s (inner_of e.body)) (λ _. Ok (group_of s e head.given)) d head.made in
    let fits = equal_text_at-is s lines e head.given head.met in
    subst (λ (x : GroupDecl). is_group_decl x ≡ true) (same_ok (group_of s e head.given) d behind.made)
    (all_three (is_name head.given.0) (is_quoted (quoted_at s (e.first + 2) head.given.1))
    (is_line (line_at s.tokens e.first))
    fits.named fits.quoted fits.lined)

-- a SignalGroups block has its form
pub groups_block-is : (s : Setting) → HasLines s → (e : Entry) (b : GroupBlock) → groups_block s e ≡ Ok b
    → is_group_block b ≡ true
groups_block-is s lines e b is =
    let head = both_ok (titled_block s e)
    (λ title. and_then (groups_of s (inner_of e.body)) (λ groups. Ok (group_block title groups))) b is in
    let behind = both_ok (groups_of s (inner_of e.body)) (λ groups. Ok (group_block head.given groups)) b
    head.made in
    subst (λ (x : GroupBlock). is_group_block x ≡ true)
    (same_ok (group_block head.given behind.given) b behind.made)
    (and_from (is_optional_name head.given) (list_all is_group_decl behind.given)
    (is_optional_name-titled_block s e head.given head.met)
    (reading-each (judge_group s) is_group_decl (λ before x d. judge_group-is s lines before x d)
    (unskipped s (inner_of e.body)) behind.given behind.met))
