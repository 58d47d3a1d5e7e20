-- The text of a drill's pattern is the statements that are said, and has their tokens.
use Rattle.std.proofs.Common.{◌≡◌, ℕ, ◌-◌, Bool, true, false, List, [], ◌++◌, take, drop, refl, sym, ap, subst, ◌∙◌, append_assoc, append-nil, cond}
use Rattle.std.specs.Prelude.{nat_lt, codes}
use Rattle.std.specs.List.{flat_map, range_with_len}
use Rattle.text_bytes.specs.Bytes.{is_blank, is_word, is_printing, is_printable}
use Rattle.stil_lex.specs.Bytes.{may_be_quoted}
use Rattle.stil_lex.specs.Pieces.{Piece}
use Rattle.stil_lex.specs.Tokens.{spelled, ArePieces, tokens_of, Reads}
use Rattle.stil_lex.specs.declared.token.Token.{Token}
use Rattle.stil_lex.specs.Step.{mark_len}
use Rattle.stil_lex.specs.Slow.{line_test, comment_test, annotation_test, closed_test, word_test, quoted_rest_test, comments_test, sign_byte_test}
use Rattle.stil_tree.specs.Grammar.{Parses}
use Rattle.drill_fine.specs.Texts.{vectors, driven_bit, vector_line, stil_head, stil_tail, stil_text}
use Rattle.line_texts.specs.Said.{no_more, pieces_of, trees_at}
use Rattle.line_texts.specs.Tests.{are_pieces, fits}
use Rattle.line_texts.proofs.PieceLemmas.{are_pieces-are, spelled-append, ArePieces-append, reads_pieces}
use Rattle.line_texts.proofs.TreeLemmas.{said_parses}
use Rattle.line_texts.proofs.EachLemmas.{pieces_each, spelled_each, ArePieces_each, fits_each}
use Rattle.drill_fine.specs.Said.{vector_of, vector_said, vectors_said, text_said, drill_said}

-- the pieces of a vector
abbrev pub pieces_with : Bool → Bool → Bool → List Piece
pieces_with high unknown seen = pieces_of (vector_of high unknown seen no_more)

-- the pieces of vector i
abbrev pub vector_pieces : ℕ → ℕ → List Piece
vector_pieces n i = pieces_with (driven_bit n i) (nat_lt i n) (driven_bit n (i - n))

-- the line of a vector by the same Booleans
abbrev pub line_with : Bool → Bool → Bool → List ℕ
line_with high unknown seen =
    codes "V { d=" ++ (cond high (codes "1") (codes "0")) ++ codes "; ck=P; q="
    ++ (cond unknown (codes "X") (cond seen (codes "H") (codes "L"))) ++ codes "; }\n"

-- a vector's line is spelled by its pieces
spelled_with : (high unknown seen : Bool) → spelled (pieces_with high unknown seen) ≡ line_with high unknown seen
spelled_with true true seen = refl
spelled_with true false true = refl
spelled_with true false false = refl
spelled_with false true seen = refl
spelled_with false false true = refl
spelled_with false false false = refl

-- the same of vector i
spelled_vector : (n i : ℕ) → spelled (vector_pieces n i) ≡ vector_line n i
unfolding vector_line
spelled_vector n i = spelled_with (driven_bit n i) (nat_lt i n) (driven_bit n (i - n))

-- they are pieces before any text
are_with : (high unknown seen : Bool) (after : List ℕ) → are_pieces (pieces_with high unknown seen) after ≡ true
unfolding is_blank is_word is_printing is_printable may_be_quoted mark_len line_test comment_test annotation_test closed_test word_test quoted_rest_test comments_test sign_byte_test
are_with true true seen after = refl
are_with true false true after = refl
are_with true false false after = refl
are_with false true seen after = refl
are_with false false true after = refl
are_with false false false after = refl

-- the pieces before the vectors, and those behind them
abbrev pub head_pieces : List Piece
head_pieces = take 126 (pieces_of (text_said no_more))

abbrev pub tail_pieces : List Piece
tail_pieces = drop 126 (pieces_of (text_said no_more))

-- the pieces of all vectors
pub pieces_vectors : (n : ℕ) → pieces_of (vectors_said n) ≡ flat_map (vector_pieces n) (range_with_len 0 (vectors n))
unfolding vectors_said
pieces_vectors n =
    pieces_each (vector_said n) (vector_pieces n) (λ i more. refl) (range_with_len 0 (vectors n)) no_more ∙ append-nil _

-- the text before the vectors, and behind them, is spelled by the pieces there
spelled_head : spelled head_pieces ≡ stil_head
unfolding stil_head
spelled_head = refl

spelled_tail : spelled tail_pieces ≡ stil_tail
unfolding stil_tail
spelled_tail = refl

-- the text is what is said
pub spelled_drill : (n : ℕ) → spelled (pieces_of (drill_said n)) ≡ stil_text n
unfolding stil_text
spelled_drill n =
    let vs = pieces_of (vectors_said n) in
    let lines : spelled vs ≡ flat_map (vector_line n) (range_with_len 0 (vectors n)) =
    ap spelled (pieces_vectors n) ∙ spelled_each (vector_pieces n) (vector_line n) (spelled_vector n) (range_with_len 0 (vectors n)) in
    spelled-append head_pieces (vs ++ tail_pieces)
    ∙ ap (λ (ys : List ℕ). spelled head_pieces ++ ys) (spelled-append vs tail_pieces)
    ∙ sym (append_assoc (spelled head_pieces) (spelled vs) (spelled tail_pieces))
    ∙ ap (λ (ys : List ℕ). (ys ++ spelled vs) ++ spelled tail_pieces) spelled_head
    ∙ ap (λ (ys : List ℕ). (stil_head ++ ys) ++ spelled tail_pieces) lines
    ∙ ap (λ (ys : List ℕ). (stil_head ++ flat_map (vector_line n) (range_with_len 0 (vectors n))) ++ ys) spelled_tail

-- the pieces before the vectors are pieces before any text, and those behind them at the text's end
are_head : (after : List ℕ) → are_pieces head_pieces after ≡ true
unfolding is_blank is_word is_printing is_printable may_be_quoted mark_len line_test comment_test annotation_test closed_test word_test quoted_rest_test comments_test sign_byte_test
are_head after = refl

are_tail : are_pieces tail_pieces [] ≡ true
unfolding is_blank is_word is_printing is_printable may_be_quoted mark_len line_test comment_test annotation_test closed_test word_test quoted_rest_test comments_test sign_byte_test
are_tail = refl

-- the pieces of the text are pieces
pub are_drill : (n : ℕ) → ArePieces (pieces_of (drill_said n)) []
are_drill n =
    let vs = pieces_of (vectors_said n) in
    let vectors_are : (after : List ℕ) → ArePieces vs after = λ after.
    subst (λ (ps : List Piece). ArePieces ps after) (sym (pieces_vectors n))
    (ArePieces_each (vector_pieces n)
    (λ i rest. are_pieces-are (vector_pieces n i) rest (are_with (driven_bit n i) (nat_lt i n) (driven_bit n (i - n)) rest))
    (range_with_len 0 (vectors n)) after) in
    ArePieces-append head_pieces (vs ++ tail_pieces) []
    (are_pieces-are head_pieces (spelled (vs ++ tail_pieces) ++ []) (are_head (spelled (vs ++ tail_pieces) ++ [])))
    (ArePieces-append vs tail_pieces [] (vectors_are (spelled tail_pieces ++ [])) (are_pieces-are tail_pieces [] are_tail))

-- the tokens of the text
abbrev pub drill_tokens : ℕ → List Token
drill_tokens n = tokens_of [] (pieces_of (drill_said n))

-- the text has these tokens
pub drill_reads : (n : ℕ) → Reads (stil_text n) (drill_tokens n)
drill_reads n =
    subst (λ (bytes : List ℕ). Reads bytes (drill_tokens n)) (spelled_drill n) (reads_pieces (pieces_of (drill_said n)) (are_drill n))

-- the statements fit
fits_vectors : (n : ℕ) → fits 1 (vectors_said n) ≡ true
unfolding vectors_said
fits_vectors n = fits_each (vector_said n) 1 (λ i more. refl) (range_with_len 0 (vectors n)) no_more

pub fits_drill : (n : ℕ) → fits 0 (drill_said n) ≡ true
fits_drill n = rw (fits_vectors n) refl

-- and are those of the tokens
pub drill_parses : (n : ℕ) → Parses (drill_tokens n) (trees_at 0 (drill_said n))
drill_parses n = said_parses 0 0 [] (drill_said n) (fits_drill n)
