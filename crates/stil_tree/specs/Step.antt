-- What the code does at each token. No public clause cites this file.
use Rattle.std.specs.Prelude.{◌≡◌, ℕ, zero, suc, ◌+◌, ◌-◌, ◌==◌, if◌then◌else◌, List, [], ◌∷◌, length, Result, Ok, Err}
use Rattle.stil_lex.specs.declared.token.Token.{Token}
use Rattle.stil_tree.specs.Signs.{semicolon, open_brace, close_brace, is_sign}
use Rattle.stil_tree.specs.Blocks.{open_braces, BeginsAt}
use Rattle.stil_tree.specs.Trees.{Trees, end, plain, block}
use Rattle.stil_tree.specs.Grammar.{most_levels}
use Rattle.stil_tree.specs.declared.fault.TreeFault.{TreeFault}
use Rattle.stil_tree.specs.declared.fault.TreeFault.TheVariants.{OpenBlock, OpenStatement, StrayClose, TooDeep}

-- one more statement behind others
abbrev pub join : Trees → Trees → Trees
join end more = more
join (plain first count rest) more = plain first count (join rest more)
join (block first count body rest) more = block first count body (join rest more)

-- an open block: its statement's head, and the statements before it
pub record Frame : Type 0 where
  pub before : Trees
  pub first : ℕ
  pub count : ℕ

-- the index of its `{`
abbrev pub brace_of : Frame → ℕ
brace_of f = f.first + f.count

-- the open blocks, the innermost first, the statements done in the innermost, and where its unfinished head begins; or
-- a fault
pub data State : Type 0 where
  going : List Frame → Trees → ℕ → State
  failed : TreeFault → State

-- a statement with this many head tokens, where there are any
abbrev pub ended_by : Trees → ℕ → ℕ → Trees
ended_by done first zero = done
ended_by done first (suc n) = join done (plain first (suc n) end)

-- a `{`
abbrev pub opened : ℕ → List Frame → Trees → ℕ → State
opened at frames done first =
    if length frames == most_levels then failed (TooDeep at)
    else going (record { before = done; first = first; count = at - first } ∷ frames) end (at + 1)

-- a `}`
abbrev pub closed : ℕ → List Frame → Trees → ℕ → State
closed at [] done first = failed (StrayClose at)
closed at (f ∷ fs) done first =
    if first == at then going fs (join f.before (block f.first f.count done end)) (at + 1)
    else failed (OpenStatement first)

-- the state behind a token with the index `at`
unfoldable pub step : ℕ → List Frame → Trees → ℕ → Token → State
step at frames done first t =
    if is_sign semicolon t then going frames (ended_by done first (at - first)) (at + 1)
    else if is_sign open_brace t then opened at frames done first
    else if is_sign close_brace t then closed at frames done first
    else going frames done first

-- the state behind a token; a fault stays
abbrev pub step_on : ℕ → State → Token → State
step_on at (failed fault) t = failed fault
step_on at (going frames done first) t = step at frames done first t

-- the state behind tokens, of which the first has the index `at`
abbrev pub run : ℕ → State → List Token → State
run at s [] = s
run at s (t ∷ ts) = run (at + 1) (step_on at s t) ts

-- what is answered at the end, behind so many tokens
abbrev pub outcome : ℕ → State → Result Trees TreeFault
outcome len (failed fault) = Err fault
outcome len (going [] done first) = if first == len then Ok done else Err (OpenStatement first)
outcome len (going (f ∷ fs) done first) = Err (OpenBlock (brace_of f))

-- the statements of tokens, or their fault
abbrev pub forest_of : List Token → Result Trees TreeFault
forest_of tokens = outcome (length tokens) (run 0 (going [] end 0) tokens)

-- what is kept behind tokens: where the statement outside all braces that is open begins, and how many braces are open
pub record IsSpot (tokens : List Token) (start braces : ℕ) : Type 0 where
  pub begins : BeginsAt tokens start
  pub are_open : braces ≡ open_braces tokens
