-- The fault of tokens that are no statements: the first refusal from left to right.
-- Up to where it is met, the tokens are statements, and heads of statements that are not finished.
use Rattle.std.specs.Prelude.{◌≡◌, ◌⊎◌, ℕ, suc, ◌+◌, ◌<◌, true, List, [], ◌∷◌, ◌++◌, length}
use Rattle.stil_lex.specs.declared.token.Token.{Token}
use Rattle.stil_tree.specs.Signs.{open_brace, close_brace, is_sign}
use Rattle.stil_tree.specs.Trees.{Trees}
use Rattle.stil_tree.specs.Grammar.{most_levels, AreHead, ParsesAt}
use Rattle.stil_tree.specs.declared.fault.TreeFault.{TreeFault}
use Rattle.stil_tree.specs.declared.fault.TreeFault.TheVariants.{NoMemory, OpenBlock, OpenStatement, StrayClose, TooDeep}

-- tokens of one level from the index `from` on: statements that are done, and a head, maybe empty, that begins at the
-- index `first`
pub record IsLevel (depth from : ℕ) (done : Trees) (first : ℕ) (tokens : List Token) : Type 0 where
  pub front : List Token
  pub head : List Token
  pub spelled : tokens ≡ front ++ head
  pub parses : ParsesAt depth from done front
  pub are_head : AreHead head
  pub begins : first ≡ from + length front

-- tokens of a level, then a `{` at the index `brace`, and inside that block tokens of the next level
pub record IsInBlock (Outer : ℕ → List Token → Type 0) (depth brace first : ℕ) (tokens : List Token) : Type 0 where
  pub outer : List Token
  pub brace_token : Token
  pub inner : List Token
  pub spelled : tokens ≡ outer ++ brace_token ∷ inner
  pub opens : is_sign open_brace brace_token ≡ true
  pub place : brace ≡ length outer
  pub outer_first : ℕ
  pub outside : Outer outer_first outer
  pub done : Trees
  pub level : IsLevel depth (brace + 1) done first inner

-- tokens that end inside the blocks whose `{` have these indices, the innermost first, in a head that begins at `first`
abbrev pub EndsInside : List ℕ → ℕ → List Token → Type 0
EndsInside [] first tokens = (done : Trees) × IsLevel 0 0 done first tokens
EndsInside (brace ∷ braces) first tokens =
    (length braces < most_levels) × IsInBlock (EndsInside braces) (suc (length braces)) brace first tokens

-- a sign at an index, before which the tokens are so
pub record IsMet (byte : ℕ) (Before : List Token → Type 0) (place : ℕ) (tokens : List Token) : Type 0 where
  pub front : List Token
  pub sign : Token
  pub back : List Token
  pub spelled : tokens ≡ front ++ sign ∷ back
  pub is_it : is_sign byte sign ≡ true
  pub is_place : place ≡ length front
  pub before : Before front

-- the refusals, each with its index
abbrev pub IsFault : List Token → TreeFault → Type 0
IsFault tokens NoMemory = ⊥
-- the text's end inside a block: the index of the innermost open `{`
IsFault tokens (OpenBlock brace) = (braces : List ℕ) × (first : ℕ) × EndsInside (brace ∷ braces) first tokens
-- a `}` inside a block, or the text's end outside all blocks, after an unfinished head: the index of the head's first
-- token
IsFault tokens (OpenStatement first) =
    ((place : ℕ) × IsMet close_brace
    (λ front. (first < length front) × ((brace : ℕ) × (braces : List ℕ) × EndsInside (brace ∷ braces) first front))
    place tokens)
    ⊎ ((first < length tokens) × EndsInside [] first tokens)
-- a `}` outside all blocks: its index
IsFault tokens (StrayClose place) = IsMet close_brace (λ front. (first : ℕ) × EndsInside [] first front) place tokens
-- a `{` that opens one level more than there may be: its index
IsFault tokens (TooDeep place) =
    IsMet open_brace
    (λ front. (braces : List ℕ) × (first : ℕ) × (length braces ≡ most_levels) × EndsInside braces first front)
    place tokens
