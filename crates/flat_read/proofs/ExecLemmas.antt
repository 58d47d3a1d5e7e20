-- The executives of a code are read as they are.
use Rattle.std.proofs.Common.{◌≡◌, ℕ, ◌+◌, ◌^◌, ◌≤◌, ◌<◌, Bool, true, List, [], ◌∷◌, ◌++◌, length, Option, Some, None, Result, Ok, Err, refl, ap, ◌∙◌, arith, cond, length-append}
use Rattle.std.specs.Prelude.{codes, nat_lt}
use Rattle.std.specs.List.{AllByRecursion}
use Rattle.std.proofs.lemmas.Bool.{lt-ltb}
use Rattle.text_bytes.specs.Bytes.{is_printable}
use Rattle.text_bytes.specs.Limits.{most_executives}
use Rattle.stil_lex.specs.Pieces.{Piece}
use Rattle.stil_lex.specs.declared.token.Token.{Token}
use Rattle.stil_tree.specs.Trees.{Entry}
use Rattle.answers.specs.Reading.{and_then, reading}
use Rattle.stil_form.specs.declared.fault.FormFault.{FormFault}
use Rattle.stil_form.specs.declared.fault.FormFault.TheVariants.{Refused}
use Rattle.stil_form.specs.declared.fault.FormKind.TheVariants.{OutOfRange}
use Rattle.stil_form.specs.Lexeme.{Lexeme, name}
use Rattle.stil_form.specs.Setting.{setting, line_at, at_statement}
use Rattle.stil_ast.specs.declared.executive.ExecDecl.{ExecDecl}
use Rattle.pat_read.specs.Statements.{is_there}
use Rattle.block_forms.specs.Heads.{where_so, title_of, behind_first, titled_block}
use Rattle.pattern_blocks.specs.Executives.{judge_exec, exec_called, exec_in, exec_block}
use Rattle.stil_read.specs.Top.{few, more_executives}
use Rattle.packed_code.specs.Program.{Program}
use Rattle.packed_code.specs.Conditions.{IsText}
use Rattle.packed_code.specs.Cycles.{exec_of}
use Rattle.line_texts.specs.Said.{Said, no_more, statement, blank, spaced, pieces_of, count_of, trees_at}
use Rattle.line_texts.specs.Said as spoken
use Rattle.line_texts.specs.Lexemes.{lexemes_in}
use Rattle.line_texts.proofs.LexemeLemmas.{unquoted_name}
use Rattle.line_texts.proofs.SettingLemmas.{unskipped_all}
use Rattle.line_texts.proofs.StandingLemmas.{Stands, unspaced, statement_head, behind_statement, braced_head, inside_braced, behind_braced}
use Rattle.flat_parts.specs.FlatBlocks.{numbered, IsExecDecl}
use Rattle.flat_said.specs.FlatSaid.{title_pieces, exec_said}
use Rattle.flat_read.proofs.HeadLemmas.{named_head}
use Rattle.flat_read.proofs.NameLemmas.{named_is, text_fits, numbered_fits}
use Rattle.flat_read.proofs.ReadingLemmas.{IsForm}

-- the head of an executive
abbrev pub exec_head : Program → ℕ → List Piece
exec_head code exec = spoken.word (codes "PatternExec") ∷ title_pieces (exec_of code exec).name

-- the statements in it
abbrev pub exec_inside : ℕ → Said
exec_inside exec =
    spaced
    (statement (spoken.word (codes "Timing") ∷ blank ∷ spoken.a_name (numbered (codes "t") exec) ∷ [])
    (spaced
    (statement (spoken.word (codes "PatternBurst") ∷ blank ∷ spoken.a_name (numbered (codes "b") exec) ∷ []) (spaced no_more))))

-- where they begin
abbrev pub exec_block_at : Program → ℕ → ℕ → ℕ
exec_block_at code at exec = at + count_of (exec_head code exec) + 1

-- an executive
abbrev pub exec_decl : Program → List Token → ℕ → ℕ → ExecDecl
exec_decl code tokens at exec = record {
  name = (exec_of code exec).name;
  categories = [];
  selector = None;
  timing = Some (record { name = numbered (codes "t") exec; line = line_at tokens (exec_block_at code at exec) });
  burst = record { name = numbered (codes "b") exec; line = line_at tokens (exec_block_at code at exec + 2 + 1) };
  line = line_at tokens at;
}

abbrev pub exec_entry : Program → ℕ → ℕ → Entry
exec_entry code at exec =
    record { first = at; count = count_of (exec_head code exec); body = Some (trees_at (exec_block_at code at exec) (exec_inside exec)) }

abbrev pub exec_next : Program → ℕ → ℕ → ℕ
exec_next code at exec = exec_block_at code at exec + count_of (pieces_of (exec_inside exec)) + 1

pub exec_form : (code : Program) (bytes : List ℕ) (tokens : List Token)
    → IsForm bytes tokens (exec_said code) (exec_entry code) (exec_next code)
exec_form code bytes tokens = record { front = λ exec at more. refl; behind = λ exec at more h. unspaced (behind_braced h) }

-- the title of an executive
title_is : (called : List ℕ) → IsText called
    → title_of (behind_first (lexemes_in (spoken.word (codes "PatternExec") ∷ title_pieces called))) ≡ Ok called
title_is [] is = refl
title_is (byte ∷ called) is =
    ap (λ (n : List ℕ). title_of (name n ∷ [])) (unquoted_name (byte ∷ called))
    ∙ ap (λ (o : Option (List ℕ)). is_there o) (named_is (byte ∷ called) (text_fits byte called is))

-- is read
title_read : (code : Program) (bytes : List ℕ) (tokens : List Token) (at exec : ℕ) (more : Said) → IsText (exec_of code exec).name
    → Stands bytes tokens at (exec_said code exec more)
    → titled_block (setting bytes tokens []) (exec_entry code at exec) ≡ Ok (exec_of code exec).name
title_read code bytes tokens at exec more is stands =
    ap (λ (ls : List Lexeme). at_statement at (where_so true (title_of (behind_first ls)))) (braced_head stands)
    ∙ ap (at_statement at) (title_is (exec_of code exec).name is)

-- the Timing, and behind it the burst
parts_read : (bytes : List ℕ) (tokens : List Token) (title : List ℕ) (at f exec : ℕ) (more behind : Said) → exec < 2 ^ 64
    → Stands bytes tokens f (statement (spoken.word (codes "Timing") ∷ blank ∷ spoken.a_name (numbered (codes "t") exec) ∷ []) more)
    → Stands bytes tokens (f + 2 + 1)
    (statement (spoken.word (codes "PatternBurst") ∷ blank ∷ spoken.a_name (numbered (codes "b") exec) ∷ []) behind)
    → and_then (reading (judge_exec (setting bytes tokens [])) []
    (record { first = f; count = 2; body = None } ∷ record { first = f + 2 + 1; count = 2; body = None } ∷ []))
    (λ told. at_statement at (exec_called (line_at tokens at) title told))
    ≡ Ok (record {
      name = title;
      categories = [];
      selector = None;
      timing = Some (record { name = numbered (codes "t") exec; line = line_at tokens f });
      burst = record { name = numbered (codes "b") exec; line = line_at tokens (f + 2 + 1) };
      line = line_at tokens at;
    })
unfolding is_printable
parts_read bytes tokens title at f exec more behind small timing burst =
    let first = statement_head timing ∙ named_head (codes "Timing") (numbered (codes "t") exec) in
    let second = statement_head burst ∙ named_head (codes "PatternBurst") (numbered (codes "b") exec) in
    let timing_fits = numbered_fits 116 exec refl small in
    let burst_fits = numbered_fits 98 exec refl small in
    rw first (rw timing_fits (rw second (rw burst_fits refl)))

-- an executive by its statements
inside_read : (code : Program) (bytes : List ℕ) (tokens : List Token) (at exec : ℕ) → exec < 2 ^ 64
    → Stands bytes tokens (exec_block_at code at exec) (exec_inside exec)
    → exec_in (setting bytes tokens []) (exec_entry code at exec) (exec_of code exec).name ≡ Ok (exec_decl code tokens at exec)
inside_read code bytes tokens at exec small stands =
    let s = setting bytes tokens [] in
    let f = exec_block_at code at exec in
    let title = (exec_of code exec).name in
    let first : Entry = record { first = f; count = 2; body = None } in
    let second : Entry = record { first = f + 2 + 1; count = 2; body = None } in
    let one = unspaced stands in
    ap (λ (es : List Entry). and_then (reading (judge_exec s) [] es) (λ told. at_statement at (exec_called (line_at tokens at) title told)))
    (unskipped_all bytes tokens (first ∷ second ∷ []))
    ∙ parts_read bytes tokens title at f exec _ _ small one (unspaced (behind_statement one))

-- one more
pub exec_read : (code : Program) (bytes : List ℕ) (tokens : List Token) (before : List ExecDecl) (at exec : ℕ) (more : Said)
    → IsText (exec_of code exec).name → exec < 2 ^ 64 → length before < most_executives → Stands bytes tokens at (exec_said code exec more)
    → more_executives (setting bytes tokens []) before (exec_entry code at exec) ≡ Ok (before ++ exec_decl code tokens at exec ∷ [])
unfolding more_executives
exec_read code bytes tokens before at exec more is small room stands =
    let s = setting bytes tokens [] in
    let e = exec_entry code at exec in
    let titled = title_read code bytes tokens at exec more is stands in
    let block : exec_block s e ≡ Ok (exec_decl code tokens at exec) =
    ap (λ (r : Result (List ℕ) FormFault). and_then r (λ title. exec_in s e title)) titled
    ∙ inside_read code bytes tokens at exec small (inside_braced stands) in
    let one : few (length before) s e (exec_block s e) ≡ Ok (exec_decl code tokens at exec) =
    ap (λ (r : Result (List ℕ) FormFault). and_then r (λ title.
    cond (nat_lt (length before) most_executives) (exec_block s e) (Err (Refused OutOfRange at)))) titled
    ∙ ap (λ (b : Bool). cond b (exec_block s e) (Err (Refused OutOfRange at))) (lt-ltb (length before) most_executives room) ∙ block in
    ap (λ (r : Result ExecDecl FormFault). and_then r (λ x. Ok (before ++ x ∷ []))) one

-- each is the executive of its number
pub exec_is : (code : Program) (tokens : List Token) (at exec : ℕ) → IsExecDecl code exec (exec_decl code tokens at exec)
exec_is code tokens at exec = record {
  name = refl;
  categories = refl;
  selector = refl;
  timing_line = line_at tokens (exec_block_at code at exec);
  timing = refl;
  burst = refl;
}

-- what was read, and what is still to be read
abbrev pub ExecsLeft : List ExecDecl → List ℕ → Type 0
ExecsLeft before left =
    (length before + length left ≤ most_executives) × AllByRecursion (λ x. x < 2 ^ 64) left

-- the same behind one more
pub execs_left : (before : List ExecDecl) (d : ExecDecl) (exec : ℕ) (left : List ℕ) → ExecsLeft before (exec ∷ left)
    → ExecsLeft (before ++ d ∷ []) left
execs_left before d exec left h = (omega (arith, h.0, length-append before (d ∷ [])), h.1.1)
