-- Statements as a text says them, with their gaps: the pieces that they are, and the trees that they make.
use Rattle.std.specs.Prelude.{ℕ, ◌+◌, List, [], ◌∷◌, ◌++◌}
use Rattle.stil_lex.specs.Pieces.{Piece, gap, token}
use Rattle.stil_lex.specs.Bytes.{double_quote, single_quote}
use Rattle.stil_lex.specs.declared.token.TokenKind.TheVariants.{Word, Name, Text, Sign}
use Rattle.stil_tree.specs.Signs.{semicolon, open_brace, close_brace}
use Rattle.stil_tree.specs.Trees.{Trees, end, plain, block}

-- statements in order, each with those behind it. A head is tokens with the gaps between them
pub data Said : Type 0 where
  no_more : Said
  -- a gap in front of the rest
  space : List ℕ → Said → Said
  -- a statement that `;` ends
  statement : List Piece → Said → Said
  -- a statement with a block
  braced : List Piece → Said → Said → Said

-- a sign
abbrev pub a_sign : ℕ → Piece
a_sign byte = token (Sign byte) (byte ∷ [])

-- the pieces of statements
abbrev pub pieces_of : Said → List Piece
pieces_of no_more = []
pieces_of (space text more) = gap text ∷ pieces_of more
pieces_of (statement head more) = head ++ (a_sign semicolon ∷ pieces_of more)
pieces_of (braced head body more) =
    head ++ (a_sign open_brace ∷ (pieces_of body ++ (a_sign close_brace ∷ pieces_of more)))

-- how many of the pieces are tokens
abbrev pub count_of : List Piece → ℕ
count_of [] = 0
count_of (gap text ∷ ps) = count_of ps
count_of (token kind text ∷ ps) = 1 + count_of ps

-- the trees of statements, of which the first token has the index `at`
abbrev pub trees_at : ℕ → Said → Trees
trees_at at no_more = end
trees_at at (space text more) = trees_at at more
trees_at at (statement head more) = plain at (count_of head) (trees_at (at + count_of head + 1) more)
trees_at at (braced head body more) =
    block at (count_of head) (trees_at (at + count_of head + 1) body)
    (trees_at (at + count_of head + 1 + count_of (pieces_of body) + 1) more)

-- statements in front of others
abbrev pub in_front_of : Said → Said → Said
in_front_of no_more more = more
in_front_of (space text rest) more = space text (in_front_of rest more)
in_front_of (statement head rest) more = statement head (in_front_of rest more)
in_front_of (braced head body rest) more = braced head body (in_front_of rest more)

-- the statements of each item of a list, one after another, in front of others
abbrev pub each_said : {X : Type 0} → (X → Said → Said) → List X → Said → Said
each_said said [] more = more
each_said said (x ∷ xs) more = said x (each_said said xs more)

-- ---- pieces and gaps

-- a word
abbrev pub word : List ℕ → Piece
word text = token Word text

-- a name in double quotes
abbrev pub a_name : List ℕ → Piece
a_name name = token Name (double_quote ∷ name ++ double_quote ∷ [])

-- a text in single quotes
abbrev pub a_text : List ℕ → Piece
a_text text = token Text (single_quote ∷ text ++ single_quote ∷ [])

-- one space between words
abbrev pub blank : Piece
blank = gap (32 ∷ [])

-- one space in front of statements
abbrev pub spaced : Said → Said
spaced more = space (32 ∷ []) more

-- a line's end in front of statements
abbrev pub next_line : Said → Said
next_line more = space (10 ∷ []) more
