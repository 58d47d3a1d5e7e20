-- Statements as plain trees, which name their tokens by index.
use Rattle.std.specs.Prelude.{ℕ, List, [], ◌∷◌, Option, Some, None}
use Rattle.stil_tree.specs.declared.stmt.Stmt.{Stmt}
use Rattle.stil_tree.specs.declared.stmt.StmtList.{StmtList}
use Rattle.stil_tree.specs.declared.stmt.Stmt.TheOpen.{Stmt-F, StmtList-F}
use Rattle.stil_tree.specs.declared.stmt.Stmt.TheFolds.{fold-StmtList, fold-Stmt}

-- no statement; one that `;` ends and those behind it; one with a block, the block's statements and those behind it.
-- A statement has the index of its first token and the number of tokens in its head.
pub data Trees : Type 0 where
  end : Trees
  plain : ℕ → ℕ → Trees → Trees
  block : ℕ → ℕ → Trees → Trees → Trees

-- one statement: the index of its first token, how many tokens its head has, and its block where it has one
pub record Entry : Type 0 where
  pub first : ℕ
  pub count : ℕ
  pub body : Option Trees

-- a statement in front of others
abbrev pub in_front : ℕ → ℕ → Option Trees → Trees → Trees
in_front first count None more = plain first count more
in_front first count (Some body) more = block first count body more

-- the trees of these statements in order
abbrev pub trees_from : List Entry → Trees
trees_from [] = end
trees_from (e ∷ es) = in_front e.first e.count e.body (trees_from es)

-- the statements of one level in order
abbrev pub entries : Trees → List Entry
entries end = []
entries (plain first count more) = record { first = first; count = count; body = None } ∷ entries more
entries (block first count body more) = record { first = first; count = count; body = Some body } ∷ entries more

-- a statement in memory, its block being seen as trees
abbrev pub stmt_step : Stmt-F Entry Trees → Entry
stmt_step s = record { first = s.first; count = s.count; body = s.body }

-- a list in memory, its statements being seen as entries
abbrev pub list_step : StmtList-F Entry Trees → Trees
list_step l = trees_from l.stmts.items

-- a list of statements, seen as trees
abbrev pub trees : StmtList → Trees
trees = fold-StmtList Entry Trees stmt_step list_step

-- a statement, seen as an entry
abbrev pub entry_of : Stmt → Entry
entry_of = fold-Stmt Entry Trees stmt_step list_step
