-- Known whole texts.
use Rattle.std.proofs.Common.{◌≡◌, ℕ, List, [], ◌∷◌, ◌++◌, None, Ok, Err, refl}
use Rattle.std.specs.Prelude.{codes}
use Rattle.text_bytes.specs.Bytes.{is_digit, begins_name, is_printable}
use Rattle.stil_lex.specs.declared.token.Token.{Token}
use Rattle.stil_tree.specs.Trees.{Entry, entries, end, plain, block}
use Rattle.stil_form.specs.declared.fault.FormFault.TheVariants.{Refused}
use Rattle.stil_form.specs.declared.fault.FormKind.TheVariants.{NoHeader, Twice, NoExec}
use Rattle.tester_types.specs.declared.signal.Direction.{Direction}
use Rattle.tester_types.specs.declared.signal.Direction.TheVariants.{In, Out}
use Rattle.stil_ast.specs.declared.signal.SignalDecl.{SignalDecl}
use Rattle.stil_ast.specs.declared.executive.ExecDecl.{ExecDecl}
use Rattle.block_forms.proofs.StandardFacts.Signs.{word, name, mark}
use Rattle.block_forms.proofs.StandardFacts.Lines.{on}
use Rattle.stil_read.specs.Top.{no_blocks, in_statement, nowhere, more_signals, more_defs, more_executives, blocks_of}

-- a signal without indices
abbrev signal : List ℕ → Direction → ℕ → SignalDecl
signal called kind line = record { name = called; range = None; direction = kind; line = line }

-- an executive with a burst alone
abbrev executive : List ℕ → ℕ → ExecDecl
executive burst line = record {
  name = [];
  categories = [];
  selector = None;
  timing = None;
  burst = record { name = burst; line = line };
  line = line;
}

-- `STIL 1.0 { Any; } UserKeywords note; note { }
-- Signals { a In; } Signals { note; b Out; } PatternExec { PatternBurst c; }`
abbrev whole_bytes : List ℕ
whole_bytes =
    codes "STIL 1.0 { Any; } UserKeywords note; note { }|Signals { a In; } Signals { note; b Out; }"
    ++ codes " PatternExec { PatternBurst c; }"

abbrev whole_tokens : List Token
whole_tokens =
    word 0 4 ∷ word 5 6 ∷ mark 46 6 ∷ word 7 8 ∷ mark 123 9 ∷ word 11 14 ∷ mark 59 14 ∷ mark 125 16 ∷
    word 18 30 ∷ word 31 35 ∷ mark 59 35 ∷ word 37 41 ∷ mark 123 42 ∷ mark 125 44 ∷ on 2 (word 46 53) ∷
    on 2 (mark 123 54) ∷ on 2 (word 56 57) ∷ on 2 (word 58 60) ∷ on 2 (mark 59 60) ∷ on 2 (mark 125 62) ∷
    on 2 (word 64 71) ∷ on 2 (mark 123 72) ∷ on 2 (word 74 78) ∷ on 2 (mark 59 78) ∷ on 2 (word 80 81) ∷
    on 2 (word 82 85) ∷ on 2 (mark 59 85) ∷ on 2 (mark 125 87) ∷ on 2 (word 89 100) ∷ on 2 (mark 123 101) ∷
    on 2 (word 103 115) ∷ on 2 (word 116 117) ∷ on 2 (mark 59 117) ∷ on 2 (mark 125 119) ∷ []

abbrev whole_stmts : List Entry
whole_stmts =
    entries (block 0 4 (plain 5 1 end) (plain 8 2 (block 11 1 end (block 14 1 (plain 16 2 end)
    (block 20 1 (plain 22 1 (plain 24 2 end)) (block 28 1 (plain 30 2 end) end))))))

-- Signals blocks are read one behind the other, and words of UserKeywords are skipped from there on
pub whole_is : blocks_of whole_bytes whole_tokens whole_stmts ≡ Ok (record no_blocks {
  signals = signal (codes "a") In 2 ∷ signal (codes "b") Out 2 ∷ [];
  executives = executive (codes "c") 2 ∷ [];
})
unfolding more_signals more_executives is_digit begins_name is_printable
whole_is = refl

-- `STIL 1.0; MacroDefs { m { } } MacroDefs "" { m { } }`
abbrev twice_bytes : List ℕ
twice_bytes = codes "STIL 1.0; MacroDefs { m { } } MacroDefs \"\" { m { } }"

abbrev twice_tokens : List Token
twice_tokens =
    word 0 4 ∷ word 5 6 ∷ mark 46 6 ∷ word 7 8 ∷ mark 59 8 ∷ word 10 19 ∷ mark 123 20 ∷ word 22 23 ∷
    mark 123 24 ∷ mark 125 26 ∷ mark 125 28 ∷ word 30 39 ∷ name 40 42 ∷ mark 123 43 ∷ word 45 46 ∷
    mark 123 47 ∷ mark 125 49 ∷ mark 125 51 ∷ []

abbrev twice_stmts : List Entry
twice_stmts = entries (plain 0 4 (block 5 1 (block 7 1 end end) (block 11 2 (block 14 1 end end) end)))

-- blocks without a title and of an empty one are joined, and the second `m` is refused
pub twice_refused : blocks_of twice_bytes twice_tokens twice_stmts ≡ Err (in_statement (Refused Twice 14))
unfolding more_defs is_digit begins_name is_printable
twice_refused = refl

-- `STIL 1.0; UserKeywords PatternExec; PatternExec { PatternBurst c; }`
abbrev skipped_bytes : List ℕ
skipped_bytes = codes "STIL 1.0; UserKeywords PatternExec; PatternExec { PatternBurst c; }"

abbrev skipped_tokens : List Token
skipped_tokens =
    word 0 4 ∷ word 5 6 ∷ mark 46 6 ∷ word 7 8 ∷ mark 59 8 ∷ word 10 22 ∷ word 23 34 ∷ mark 59 34 ∷
    word 36 47 ∷ mark 123 48 ∷ word 50 62 ∷ word 63 64 ∷ mark 59 64 ∷ mark 125 66 ∷ []

abbrev skipped_stmts : List Entry
skipped_stmts = entries (plain 0 4 (plain 5 2 (block 8 1 (plain 10 2 end) end)))

-- an executive that is skipped isn't there
pub skipped_refused : blocks_of skipped_bytes skipped_tokens skipped_stmts ≡ Err (nowhere NoExec)
skipped_refused = refl

-- `STIL 1.1;`
abbrev other_version : List Token
other_version = word 0 4 ∷ word 5 6 ∷ mark 46 6 ∷ word 7 8 ∷ mark 59 8 ∷ []

-- another version is no header, and nor is nothing
pub other_version_refused :
    blocks_of (codes "STIL 1.1;") other_version (entries (plain 0 4 end)) ≡ Err (in_statement (Refused NoHeader 0))
other_version_refused = refl

pub nothing_refused : blocks_of [] [] [] ≡ Err (nowhere NoHeader)
nothing_refused = refl
