-- A drill's text is read as its blocks.
use Rattle.std.proofs.Common.{◌≡◌, ℕ, List, [], ◌∷◌, ◌++◌, drop, Ok, sym, ap, subst, ◌∙◌, append-nil, true, ◌+◌}
use Rattle.std.specs.List.{range_with_len}
use Rattle.stil_lex.specs.Tokens.{spelled, tokens_of}
use Rattle.stil_lex.specs.declared.token.Token.{Token}
use Rattle.stil_lex.proofs.Loop.{tokens_of-append}
use Rattle.stil_tree.specs.Trees.{entries}
use Rattle.stil_form.specs.Lexeme.{lexemes_of}
use Rattle.stil_form.specs.Setting.{setting, line_at}
use Rattle.stil_ast.specs.Data.Bodies.{written_of}
use Rattle.stil_ast.specs.Data.Written.{Written}
use Rattle.stil_ast.specs.declared.blocks.Blocks.{Blocks}
use Rattle.pat_read.specs.Body.{body_from}
use Rattle.stil_read.specs.Top.{blocks_of}
use Rattle.stil_program.specs.Front.{IsReadAs}
use Rattle.drill_fine.specs.Texts.{vectors, stil_text}
use Rattle.line_texts.specs.Said.{Said, pieces_of, trees_at}
use Rattle.line_texts.specs.Lexemes.{lexemes_in}
use Rattle.line_texts.proofs.PieceLemmas.{spelled-append}
use Rattle.line_texts.proofs.LexemeLemmas.{lexemes_of-pieces}
use Rattle.drill_fine.specs.Said.{vectors_said, text_said, drill_said}
use Rattle.drill_fine.specs.Blocks.{drill_blocks}
use Rattle.drill_fine.proofs.SaidLemmas.{head_pieces, tail_pieces, spelled_drill, drill_tokens, drill_reads, drill_parses}
use Rattle.drill_fine.proofs.ReadLemmas.{stmts_from, vectors_read}
use Rattle.drill_fine.proofs.BlockLemmas.{bytes_with, tokens_with, wave_stmt, tail_lexemes, lexemes_text, burst_at, text_read}

-- the bytes and the tokens behind the head of the text, which has these vectors
abbrev pub bytes_behind : Said → List ℕ
bytes_behind v = spelled (pieces_of v ++ tail_pieces)

abbrev pub tokens_behind : Said → List Token
tokens_behind v = tokens_of (spelled head_pieces) (pieces_of v ++ tail_pieces)

-- those of the text
pub bytes_are : (v : Said) → spelled (pieces_of (text_said v)) ≡ bytes_with (bytes_behind v)
bytes_are v = spelled-append head_pieces (pieces_of v ++ tail_pieces)

pub tokens_are : (v : Said) → tokens_of [] (pieces_of (text_said v)) ≡ tokens_with (tokens_behind v)
tokens_are v = tokens_of-append [] head_pieces (pieces_of v ++ tail_pieces)

-- its lexemes
pub lexemes_are : (v : Said) → lexemes_of (bytes_with (bytes_behind v)) (tokens_with (tokens_behind v)) ≡ lexemes_in (pieces_of (text_said v))
lexemes_are v =
    ap (λ (bytes : List ℕ). lexemes_of bytes (tokens_with (tokens_behind v))) (sym (append-nil (spelled (pieces_of (text_said v))) ∙ bytes_are v))
    ∙ ap (lexemes_of (spelled (pieces_of (text_said v)) ++ [])) (sym (tokens_are v))
    ∙ lexemes_of-pieces [] (pieces_of (text_said v)) []

-- the statements of the pattern of a drill
abbrev pub drill_written : List Token → ℕ → Written
drill_written tokens n = written_of (wave_stmt ∷ stmts_from tokens n 72 (range_with_len 0 (vectors n)))

-- the blocks of a drill
abbrev pub blocks_for : List Token → ℕ → Blocks
blocks_for tokens n =
    drill_blocks (drill_written tokens n) (line_at tokens (burst_at (vectors_said n) + 2 + 1 + 1 + 1))
    (line_at tokens (burst_at (vectors_said n) + 2 + 1 + 5 + 1)) (line_at tokens (burst_at (vectors_said n) + 2 + 1 + 5 + 1 + 1 + 1))

-- its vectors are read
body_read : (n : ℕ)
    → body_from (setting (bytes_with (bytes_behind (vectors_said n))) (tokens_with (tokens_behind (vectors_said n))) []) true
    (wave_stmt ∷ []) (trees_at 72 (vectors_said n))
    ≡ Ok (wave_stmt ∷ stmts_from (tokens_with (tokens_behind (vectors_said n))) n 72 (range_with_len 0 (vectors n)))
unfolding vectors_said
body_read n =
    let v = vectors_said n in
    vectors_read (bytes_with (bytes_behind v)) (tokens_with (tokens_behind v)) n (range_with_len 0 (vectors n)) (wave_stmt ∷ []) 72 tail_lexemes
    (ap (drop 72) (lexemes_are v) ∙ lexemes_text v)

-- the text is read as these blocks
pub drill_is_read : (n : ℕ) → IsReadAs (stil_text n) (blocks_for (drill_tokens n) n)
drill_is_read n =
    let v = vectors_said n in
    let found = text_read (bytes_behind v) (tokens_behind v) v _ (lexemes_are v) (body_read n) in
    record {
      tokens = drill_tokens n;
      forest = trees_at 0 (drill_said n);
      reads = drill_reads n;
      parses = drill_parses n;
      are = subst (λ (bytes : List ℕ). blocks_of bytes (drill_tokens n) (entries (trees_at 0 (drill_said n))) ≡ Ok (blocks_for (drill_tokens n) n))
          (sym (bytes_are v) ∙ spelled_drill n)
          (subst (λ (tokens : List Token). blocks_of (bytes_with (bytes_behind v)) tokens (entries (trees_at 0 (drill_said n))) ≡ Ok (blocks_for tokens n))
          (sym (tokens_are v)) found);
    }
