-- A list of statements in memory, and its trees.
use Rattle.std.proofs.Common.{◌≡◌, ℕ, List, [], ◌∷◌, ◌++◌, Option, Some, None, refl, sym, ap, ◌∙◌, map, length}
use Rattle.std.proofs.lemmas.List.{length-map, map_push}
use Rattle.stil_tree.specs.declared.stmt.Stmt.{Stmt}
use Rattle.stil_tree.specs.declared.stmt.StmtList.{StmtList}
use Rattle.stil_tree.specs.declared.stmt.Stmt.TheViews.{out-StmtList, roll-Stmt}
use Rattle.stil_tree.specs.declared.stmt.Stmt.TheFolds.{fold_out-StmtList, fold-roll-Stmt}
use Rattle.stil_tree.specs.Trees.{Trees, end, Entry, in_front, trees_from, entries, trees, entry_of, stmt_step, list_step}
use Rattle.stil_tree.specs.Step.{join}
use Rattle.stil_tree.specs.Slow.{trees_of}

-- a statement in front is the first
pub entries-in_front : (first count : ℕ) (body : Option Trees) (more : Trees)
    → entries (in_front first count body more) ≡ record { first = first; count = count; body = body } ∷ entries more
entries-in_front first count None more = refl
entries-in_front first count (Some body) more = refl

-- the statements of trees made from entries are these
pub entries-trees_from : (es : List Entry) → entries (trees_from es) ≡ es
entries-trees_from [] = refl
entries-trees_from (e ∷ es) = entries-in_front e.first e.count e.body (trees_from es) ∙ ap (λ ys. e ∷ ys) (entries-trees_from es)

-- the trees of a list are those of its statements
pub trees-out : (l : StmtList) → trees l ≡ trees_from (map entry_of (out-StmtList l).stmts.items)
trees-out l = fold_out-StmtList Entry Trees stmt_step list_step l

-- the statements of a list
pub entries-trees : (l : StmtList) → map entry_of (out-StmtList l).stmts.items ≡ entries (trees l)
entries-trees l = sym (ap entries (trees-out l) ∙ entries-trees_from (map entry_of (out-StmtList l).stmts.items))

-- how many statements a slice has
pub length-entries : (xs : List Stmt) (es : List Entry) → map entry_of xs ≡ es → length xs ≡ length es
length-entries xs es e = sym (length-map xs entry_of) ∙ ap length e

-- statements behind a statement
pub join-in_front : (first count : ℕ) (body : Option Trees) (more behind : Trees)
    → join (in_front first count body more) behind ≡ in_front first count body (join more behind)
join-in_front first count None more behind = refl
join-in_front first count (Some body) more behind = refl

-- one more entry
pub trees_from-push : (es : List Entry) (e : Entry) → trees_from (es ++ e ∷ []) ≡ join (trees_from es) (in_front e.first e.count e.body end)
trees_from-push [] e = refl
trees_from-push (x ∷ es) e =
    ap (in_front x.first x.count x.body) (trees_from-push es e) ∙ sym (join-in_front x.first x.count x.body (trees_from es) (in_front e.first e.count e.body end))

-- one more statement in memory
pub trees_of-push : (xs : List Stmt) (s : Stmt) (e : Entry) → entry_of s ≡ e
    → trees_of (xs ++ s ∷ []) ≡ join (trees_of xs) (in_front e.first e.count e.body end)
trees_of-push xs s e is = ap trees_from (map_push entry_of xs s ∙ ap (λ x. map entry_of xs ++ x ∷ []) is) ∙ trees_from-push (map entry_of xs) e

-- a statement made with a block
pub entry_of-block : (first count : ℕ) (l : StmtList)
    → entry_of (roll-Stmt (record { first = first; count = count; body = Some l })) ≡ record { first = first; count = count; body = Some (trees l) }
entry_of-block first count l = fold-roll-Stmt Entry Trees stmt_step list_step (record { first = first; count = count; body = Some l })

-- one more statement with a block
pub entries-push_block : (xs ys : List Stmt) (first count : ℕ) (l : StmtList) (body : Trees) →
    ys ≡ xs ++ roll-Stmt (record { first = first; count = count; body = Some l }) ∷ [] → trees l ≡ body →
    map entry_of ys ≡ map entry_of xs ++ record { first = first; count = count; body = Some body } ∷ []
entries-push_block xs ys first count l body e is =
    ap (map entry_of) e ∙ map_push entry_of xs (roll-Stmt (record { first = first; count = count; body = Some l }))
    ∙ ap (λ entry. map entry_of xs ++ entry ∷ [])
    (entry_of-block first count l ∙ ap (λ b. record { first = first; count = count; body = Some b }) is)
