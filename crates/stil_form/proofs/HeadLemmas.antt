-- A head is cut out of the tokens wherever its place and its length point.
use Rattle.std.proofs.Common.{◌≡◌, ℕ, ◌-◌, List, length, take, drop, map, min, sym, ap, ◌∙◌, arith}
use Rattle.std.proofs.lemmas.List.{take_rest, take_min, drop_min}
use Rattle.stil_tree.specs.declared.stmt.Stmt.{Stmt}
use Rattle.stil_tree.specs.declared.stmt.Stmt.TheViews.{out-Stmt}
use Rattle.stil_tree.specs.declared.stmt.Stmt.TheFolds.{fold_out-Stmt}
use Rattle.stil_tree.specs.Trees.{Entry, Trees, entry_of, stmt_step, list_step}
use Rattle.std.specs.List.{drop-map, take-map}
use Rattle.stil_form.specs.declared.source.Source.{Source}
use Rattle.stil_form.specs.Lexeme.{lexeme_at, lexemes_of, lexemes, head_of}
use Rattle.stil_form.specs.Setting.{tokens_at}

-- where a statement in memory begins, and how long its head is
pub first-out : (s : Stmt) → (entry_of s).first ≡ (out-Stmt s).first
first-out s = ap (λ e. e.first) (fold_out-Stmt Entry Trees stmt_step list_step s)

pub count-out : (s : Stmt) → (entry_of s).count ≡ (out-Stmt s).count
count-out s = ap (λ e. e.count) (fold_out-Stmt Entry Trees stmt_step list_step s)

min-comm : (a b : ℕ) → min a b ≡ min b a
min-comm a b = omega arith

-- a slice that is cut to the list, seen through a view
pub cut-is : {X Y : Type 0} (view : X → Y) (xs : List X) (first count from size : ℕ) →
    from ≡ min (length xs) first → size ≡ min (length (take (length xs - from) (drop from xs))) count →
    map view (take size (take (length xs - from) (drop from xs))) ≡ take count (drop first (map view xs))
cut-is view xs first count from size from_is size_is =
    let rest : take (length xs - from) (drop from xs) ≡ drop first xs =
    take_rest xs from ∙ ap (λ n. drop n xs) (from_is ∙ min-comm (length xs) first) ∙ drop_min first xs in
    let some : take size (take (length xs - from) (drop from xs)) ≡ take count (take (length xs - from) (drop from xs)) =
    ap (λ n. take n (take (length xs - from) (drop from xs))) (size_is ∙ min-comm (length (take (length xs - from) (drop from xs))) count)
    ∙ take_min count (take (length xs - from) (drop from xs)) in
    ap (map view) (some ∙ ap (take count) rest) ∙ sym (take-map view count (drop first xs)) ∙ ap (take count) (sym (drop-map view first xs))

-- the lexemes of a head's tokens are the head's
pub lexemes-cut : (source head : Source) (e : Entry) →
    head.bytes.now ≡ source.bytes.now → head.tokens.now ≡ tokens_at source.tokens.now e → lexemes head ≡ head_of (lexemes source) e
lexemes-cut source head e bytes tokens =
    ap (λ bs. lexemes_of bs head.tokens.now) bytes
    ∙ ap (lexemes_of source.bytes.now) tokens
    ∙ sym (take-map (lexeme_at source.bytes.now) e.count (drop e.first source.tokens.now))
    ∙ sym (ap (take e.count) (drop-map (lexeme_at source.bytes.now) e.first source.tokens.now))
