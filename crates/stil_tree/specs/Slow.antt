-- What the plain slow reader says of one statement at the front of tokens. No public clause cites this file.
use Rattle.std.specs.Prelude.{ℕ, map, zero, suc, ◌+◌, ◌-◌, ◌==◌, ◌≤◌, ◌<◌, if◌then◌else◌, List, [], ◌∷◌, length, drop, Option, Some, None}
use Rattle.stil_lex.specs.declared.token.Token.{Token}
use Rattle.stil_tree.specs.declared.stmt.Stmt.{Stmt}
use Rattle.stil_tree.specs.Trees.{Trees, plain, in_front, trees_from, entry_of}
use Rattle.stil_tree.specs.Signs.{open_brace, close_brace, is_sign}
use Rattle.stil_tree.specs.Grammar.{ParsesAt}

-- the trees of statements in memory
abbrev pub trees_of : List Stmt → Trees
trees_of stmts = trees_from (map entry_of stmts)

-- an entry in front of others, where there is one
abbrev pub before : Option Stmt → Trees → Trees
before None more = more
before (Some s) more = in_front (entry_of s).first (entry_of s).count (entry_of s).body more

-- so many tokens are this statement, or a `;` that is skipped: with whatever statements the rest is, the tokens are
-- these
pub record IsFirst (depth at : ℕ) (stmt : Option Stmt) (len : ℕ) (tokens : List Token) : Type 0 where
  pub some : 0 < len
  pub within : len ≤ length tokens
  pub completes : (more : Trees) → ParsesAt depth (at + len) more (drop len tokens)
      → ParsesAt depth at (before stmt more) tokens
  -- where the tokens are statements, so is the rest
  pub goes : (found : Trees) → ParsesAt depth at found tokens
      → (more : Trees) × ParsesAt depth (at + len) more (drop len tokens)

-- a statement that `;` ends, in front of others; without head tokens it is skipped
abbrev pub plain_before : ℕ → ℕ → Trees → Trees
plain_before first zero more = more
plain_before first (suc n) more = plain first (suc n) more

-- how many tokens stand before the `}` that closes a block, of which these are the rest and in which so many blocks are
-- open; all, where there is none
abbrev pub block_end : ℕ → List Token → ℕ
block_end n [] = 0
block_end n (t ∷ ts) =
    if is_sign open_brace t then 1 + block_end (n + 1) ts
    else (if is_sign close_brace t then (if n == 0 then 0 else 1 + block_end (n - 1) ts) else 1 + block_end n ts)
