-- The loop over the statements of a body, and how large their blocks are.
use Rattle.std.proofs.Common.{◌≡◌, ℕ, zero, suc, ◌+◌, ◌<◌, ◌≤◌, Bool, false, cond, List, [], ◌∷◌, ◌++◌, length, drop, map, get_or, Option, Some, None, Result, Ok, Err, refl, sym, ap, ◌∙◌, arith}
use Rattle.stil_tree.specs.declared.stmt.Stmt.{Stmt}
use Rattle.stil_tree.specs.Trees.{Trees, end, plain, block, entries, entry_of, in_front, trees_from}
use Rattle.stil_form.specs.declared.fault.FormFault.{FormFault}
use Rattle.stil_form.specs.declared.fault.FormFault.TheVariants.{NoMemory, Refused}
use Rattle.stil_form.specs.Reading.{Answers, AnswersBy, and_then, is_skipped}
use Rattle.text_bytes.proofs.ListLemmas.{drop-item}
use Rattle.stil_ast.specs.declared.body.PatStmt.{PatStmt}
use Rattle.stil_form.specs.Setting.{Setting, lexemes_at, inner_of}
use Rattle.pat_read.specs.Body.{judge_statement, one_more, body_from}

-- the trees of a tree's statements are the tree
pub trees_from-entries : (t : Trees) → trees_from (entries t) ≡ t
trees_from-entries end = refl
trees_from-entries (plain first count more) = ap (plain first count) (trees_from-entries more)
trees_from-entries (block first count body more) = ap (block first count body) (trees_from-entries more)

-- the statements of a statement's block, as a body
abbrev pub inner_body : Setting → Option Trees → Result (List PatStmt) FormFault
inner_body s body = body_from s false [] (trees_from (inner_of body))

-- a statement in front of others
body-front : (s : Setting) (top : Bool) (before : List PatStmt) (first count : ℕ) (body : Option Trees) (more : Trees) →
    body_from s top before (in_front first count body more)
    ≡ one_more s top before (record { first = first; count = count; body = body }) (inner_body s body) (λ read. body_from s top read more)
body-front s top before first count None more = refl
body-front s top before first count (Some t) more =
    ap (λ tree. one_more s top before (record { first = first; count = count; body = Some t }) (body_from s false [] tree) (λ read. body_from s top read more))
    (sym (trees_from-entries t))

-- the statement at hand, and those behind it
pub body-at : (s : Setting) (top : Bool) (before : List PatStmt) (stmts : List Stmt) (i : ℕ) (item : Stmt) →
    i < length stmts → item ≡ get_or stmts i item →
    body_from s top before (trees_from (map entry_of (drop i stmts)))
    ≡ one_more s top before (entry_of item) (inner_body s (entry_of item).body)
    (λ read. body_from s top read (trees_from (map entry_of (drop (i + 1) stmts))))
body-at s top before stmts i item within is =
    ap (λ ss. body_from s top before (trees_from (map entry_of ss))) (drop-item stmts i item within is)
    ∙ body-front s top before (entry_of item).first (entry_of item).count (entry_of item).body (trees_from (map entry_of (drop (i + 1) stmts)))

-- a statement that is not skipped comes before the rest
body-kept : (s : Setting) (top : Bool) (before : List PatStmt) (stmts : List Stmt) (i : ℕ) (item : Stmt) (whole : Result (List PatStmt) FormFault) →
    i < length stmts → item ≡ get_or stmts i item → is_skipped s.words (lexemes_at s (entry_of item)) ≡ false →
    body_from s top before (trees_from (map entry_of (drop i stmts))) ≡ whole →
    and_then (judge_statement s top (entry_of item) (inner_body s (entry_of item).body))
    (λ stmt. body_from s top (before ++ stmt ∷ []) (trees_from (map entry_of (drop (i + 1) stmts)))) ≡ whole
body-kept s top before stmts i item whole within is stays all =
    let rest : List PatStmt → Result (List PatStmt) FormFault = λ read. body_from s top read (trees_from (map entry_of (drop (i + 1) stmts))) in
    sym (ap (λ b. cond b (rest before) (and_then (judge_statement s top (entry_of item) (inner_body s (entry_of item).body)) (λ stmt. rest (before ++ stmt ∷ [])))) stays)
    ∙ sym (body-at s top before stmts i item within is) ∙ all

-- a statement that is read
pub body_goes_on : (s : Setting) (top : Bool) (before : List PatStmt) (stmts : List Stmt) (i : ℕ) (item : Stmt)
    (whole : Result (List PatStmt) FormFault) (stmt : PatStmt) →
    i < length stmts → item ≡ get_or stmts i item → is_skipped s.words (lexemes_at s (entry_of item)) ≡ false →
    judge_statement s top (entry_of item) (inner_body s (entry_of item).body) ≡ Ok stmt →
    body_from s top before (trees_from (map entry_of (drop i stmts))) ≡ whole →
    body_from s top (before ++ stmt ∷ []) (trees_from (map entry_of (drop (i + 1) stmts))) ≡ whole
body_goes_on s top before stmts i item whole stmt within is stays read all =
    sym (ap (λ r. and_then r (λ one. body_from s top (before ++ one ∷ []) (trees_from (map entry_of (drop (i + 1) stmts))))) read)
    ∙ body-kept s top before stmts i item whole within is stays all

-- a fault of one step is the fault of the whole
met : {Y Z W : Type 0} (view : Z → W) (fault : FormFault) (judged : Result Y FormFault) (next : Y → Result W FormFault) (whole : Result W FormFault) →
    Answers {X = Y} (Err fault) judged → and_then judged next ≡ whole → AnswersBy {X = Z} view (Err fault) whole
met view NoMemory judged next whole answer all = tt
met view (Refused kind first) judged next whole answer all = sym all ∙ ap (λ r. and_then r next) answer

-- a statement that is refused
pub body_stops : {Z : Type 0} (view : Z → List PatStmt) (s : Setting) (top : Bool) (before : List PatStmt) (stmts : List Stmt) (i : ℕ) (item : Stmt)
    (whole : Result (List PatStmt) FormFault) (fault : FormFault) →
    i < length stmts → item ≡ get_or stmts i item → is_skipped s.words (lexemes_at s (entry_of item)) ≡ false →
    Answers {X = PatStmt} (Err fault) (judge_statement s top (entry_of item) (inner_body s (entry_of item).body)) →
    body_from s top before (trees_from (map entry_of (drop i stmts))) ≡ whole →
    AnswersBy {X = Z} view (Err fault) whole
body_stops view s top before stmts i item whole fault within is stays answer all =
    met view fault (judge_statement s top (entry_of item) (inner_body s (entry_of item).body)) _ whole answer
    (body-kept s top before stmts i item whole within is stays all)

-- how large trees are: three for each statement
abbrev pub weight : Trees → ℕ
weight end = 0
weight (plain first count more) = 3 + weight more
weight (block first count body more) = 3 + weight body + weight more

weight-front : (first count : ℕ) (body : Option Trees) (more : Trees) →
    3 + weight (trees_from (inner_of body)) ≤ weight (in_front first count body more)
weight-front first count None more = omega arith
weight-front first count (Some t) more =
    let same : weight (trees_from (entries t)) ≡ weight t = ap weight (trees_from-entries t) in omega arith

weight-more : (first count : ℕ) (body : Option Trees) (more : Trees) → weight more ≤ weight (in_front first count body more)
weight-more first count None more = omega arith
weight-more first count (Some t) more = omega arith

weight-drop : (i : ℕ) (stmts : List Stmt) → weight (trees_from (map entry_of (drop i stmts))) ≤ weight (trees_from (map entry_of stmts))
weight-drop zero stmts = omega arith
weight-drop (suc i) [] = omega arith
weight-drop (suc i) (stmt ∷ stmts) =
    omega (arith, weight-drop i stmts, weight-more (entry_of stmt).first (entry_of stmt).count (entry_of stmt).body (trees_from (map entry_of stmts)))

-- a block is smaller than the statements among which it stands
pub weight-inner : (stmts : List Stmt) (i : ℕ) (item : Stmt) → i < length stmts → item ≡ get_or stmts i item →
    2 + weight (trees_from (inner_of (entry_of item).body)) < weight (trees_from (map entry_of stmts))
weight-inner stmts i item within is =
    let here : weight (trees_from (map entry_of (drop i stmts))) ≡ weight (trees_from (map entry_of (item ∷ drop (i + 1) stmts))) =
    ap (λ ss. weight (trees_from (map entry_of ss))) (drop-item stmts i item within is) in
    omega (
      arith,
      here,
      weight-drop i stmts,
      weight-front (entry_of item).first (entry_of item).count (entry_of item).body (trees_from (map entry_of (drop (i + 1) stmts))),
    )
