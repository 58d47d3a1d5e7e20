-- The grammar of statements (the block structure of IEEE 1450-1999): a list of head tokens that `;` ends, or with a
-- block in braces.
use Rattle.std.specs.Prelude.{◌≡◌, ℕ, suc, ◌+◌, ◌<◌, true, false, List, [], ◌∷◌, ◌++◌, length}
use Rattle.std.specs.List.{list_any}
use Rattle.stil_lex.specs.declared.token.Token.{Token}
use Rattle.stil_tree.specs.Signs.{semicolon, open_brace, close_brace, is_sign, is_delimiter}
use Rattle.stil_tree.specs.Trees.{Trees, end, plain, block}
use Rattle.stil_tree.specs.declared.builder.TheConstants.{MOST_LEVELS}

-- how many blocks may stand one inside another
abbrev pub most_levels : ℕ
most_levels = MOST_LEVELS

-- head tokens: any but `;`, `{` and `}`
abbrev pub AreHead : List Token → Type 0
AreHead tokens = list_any is_delimiter tokens ≡ false

-- the tokens, of which the first has the index `at`, are these statements, inside `depth` blocks
pub data ParsesAt : ℕ → ℕ → Trees → List Token → Type 0 where
  -- no statements
  nothing : (depth at : ℕ) → ParsesAt depth at end []
  -- a `;` without a head, which is skipped
  skipped : (depth at : ℕ) (more : Trees) (stop : Token) (rest : List Token) → is_sign semicolon stop ≡ true
      → ParsesAt depth (at + 1) more rest → ParsesAt depth at more (stop ∷ rest)
  -- a statement that `;` ends, and the rest
  ended : (depth at : ℕ) (more : Trees) (head : List Token) (stop : Token) (rest : List Token) → (head ≡ [] → ⊥)
      → AreHead head → is_sign semicolon stop ≡ true
      → ParsesAt depth (at + length head + 1) more rest
      → ParsesAt depth at (plain at (length head) more) (head ++ stop ∷ rest)
  -- a statement with a block, and the rest
  nested : (depth at : ℕ) (body more : Trees) (head : List Token)
      (open' : Token) (inner : List Token) (close : Token) (rest : List Token)
      → depth < most_levels → AreHead head
      → is_sign open_brace open' ≡ true → ParsesAt (suc depth) (at + length head + 1) body inner
      → is_sign close_brace close ≡ true
      → ParsesAt depth (at + length head + 1 + length inner + 1) more rest
      → ParsesAt depth at (block at (length head) body more) (head ++ open' ∷ (inner ++ close ∷ rest))

-- the tokens of a whole text are these statements
abbrev pub Parses : List Token → Trees → Type 0
Parses tokens forest = ParsesAt 0 0 forest tokens
