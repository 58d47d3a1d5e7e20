-- The loop that reads statements one after another, and its first fault.
use Rattle.std.proofs.Common.{◌≡◌, ℕ, ◌+◌, ◌<◌, List, [], ◌∷◌, ◌++◌, length, drop, map, get_or, Result, Err, sym, refl, ap, ◌∙◌, Bool, true, false, not, cond}
use Rattle.text_bytes.proofs.ListLemmas.{drop-item}
use Rattle.answers.specs.Reading.{and_then, reading}
use Rattle.stil_tree.specs.Trees.{Entry}
use Rattle.stil_form.specs.declared.fault.FormFault.{FormFault}
use Rattle.stil_form.specs.declared.fault.FormFault.TheVariants.{NoMemory, Refused}
use Rattle.stil_form.specs.Reading.{AnswersBy, Answers, is_skipped}
use Rattle.stil_form.specs.Setting.{Setting, lexemes_at, unskipped}

-- a fault at the statement at hand is the fault of the whole
pub stops_here : {X Z : Type 0} (view : Z → List X) (judge : List X → Entry → Result X FormFault) (read : List X)
    (e : Entry) (es : List Entry) (whole : Result (List X) FormFault) (fault : FormFault) →
    reading judge read (e ∷ es) ≡ whole → Answers {X = X} (Err fault) (judge read e) → AnswersBy {X = Z} view (Err fault) whole
stops_here view judge read e es whole NoMemory all answer = tt
stops_here view judge read e es whole (Refused kind first) all answer =
    sym all ∙ ap (λ r. and_then r (λ x. reading judge (read ++ x ∷ []) es)) answer

-- the same at an index of a list of statements that are seen as entries
pub stops_at : {S X Z : Type 0} (view : Z → List X) (entry : S → Entry) (judge : List X → Entry → Result X FormFault) (read : List X)
    (stmts : List S) (i : ℕ) (item : S) (whole : Result (List X) FormFault) (fault : FormFault) →
    i < length stmts → item ≡ get_or stmts i item →
    reading judge read (map entry (drop i stmts)) ≡ whole → Answers {X = X} (Err fault) (judge read (entry item)) →
    AnswersBy {X = Z} view (Err fault) whole
stops_at view entry judge read stmts i item whole fault within is all answer =
    stops_here view judge read (entry item) (map entry (drop (i + 1) stmts)) whole fault
    (ap (λ s. reading judge read (map entry s)) (sym (drop-item stmts i item within is)) ∙ all) answer

-- a statement that is not skipped stays
kept_one : (b : Bool) (e : Entry) (es : List Entry) → b ≡ false → cond (not b) (e ∷ es) es ≡ e ∷ es
kept_one true e es is = cc
kept_one false e es is = refl

-- a fault at a statement that is not skipped is the fault of the whole
pub unskipped_stops : {S X Z : Type 0} (view : Z → List X) (entry : S → Entry) (judge : List X → Entry → Result X FormFault)
    (s : Setting) (read : List X) (stmts : List S) (i : ℕ) (item : S) (whole : Result (List X) FormFault) (fault : FormFault) →
    i < length stmts → item ≡ get_or stmts i item → is_skipped s.words (lexemes_at s (entry item)) ≡ false →
    reading judge read (unskipped s (map entry (drop i stmts))) ≡ whole → Answers {X = X} (Err fault) (judge read (entry item)) →
    AnswersBy {X = Z} view (Err fault) whole
unskipped_stops view entry judge s read stmts i item whole fault within is stays all answer =
    let rest : List Entry = unskipped s (map entry (drop (i + 1) stmts)) in
    stops_here view judge read (entry item) rest whole fault
    (ap (reading judge read) (sym (ap (λ ss. unskipped s (map entry ss)) (drop-item stmts i item within is)
    ∙ kept_one (is_skipped s.words (lexemes_at s (entry item))) (entry item) rest stays)) ∙ all) answer
