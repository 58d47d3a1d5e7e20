-- Heads of statements with their tokens, and faults of forms as those of statements.
use Rattle.std.proofs.Common.{◌≡◌, ℕ, Bool, List, Result, Err, ap, subst, ◌∙◌}
use Rattle.stil_lex.specs.declared.token.Token.{Token}
use Rattle.stil_form.specs.declared.fault.FormFault.{FormFault}
use Rattle.stil_form.specs.declared.fault.FormFault.TheVariants as form
use Rattle.stil_form.specs.declared.fault.FormKind.{FormKind}
use Rattle.stil_form.specs.Lexeme.{Lexeme}
use Rattle.stil_form.specs.Reading.{AnswersBy}
use Rattle.pat_read.specs.declared.fault.DataFault.{DataFault}
use Rattle.pat_read.specs.declared.fault.DataFault.TheVariants.{NoMemory, Shape, LeftOut, OutOfRange}
use Rattle.pat_read.specs.Fault.{DataAnswers, fault_at}
use Rattle.pat_read.specs.References.{assignment_of}
use Rattle.stil_form.specs.Setting.{at_statement}

-- what is to be answered is the same
pub answers_same : {X Y : Type 0} (view : X → Y) (result : Result X DataFault) (wanted other : Result Y FormKind) →
    wanted ≡ other → DataAnswers {X = X} view result wanted → DataAnswers {X = X} view result other
answers_same {X} view result wanted other same answer =
    let P : Result _ FormKind → Type 0 = λ w. DataAnswers {X = X} view result w in subst P same answer

-- an assignment of the same parts
pub same_assignment : (b b' : List ℕ) (t t' : List Token) (l l' : ℕ) (h h' : Bool) (x x' : List Lexeme) →
    b ≡ b' → t ≡ t' → l ≡ l' → h ≡ h' → x ≡ x' → assignment_of b t l h x ≡ assignment_of b' t' l' h' x'
same_assignment b b' t t' l l' h h' x x' bytes tokens line block head =
    ap (λ v. assignment_of v t l h x) bytes ∙ ap (λ v. assignment_of b' v l h x) tokens ∙ ap (λ v. assignment_of b' t' v h x) line
    ∙ ap (λ v. assignment_of b' t' l' v x) block ∙ ap (λ v. assignment_of b' t' l' h' v) head

-- a fault of a form is that of its statement
pub fault_at_statement : {X Y Z : Type 0} (view : X → Y) (view' : Z → Y) (fault : DataFault) (first : ℕ) (wanted : Result Y FormKind) →
    DataAnswers {X = X} view (Err fault) wanted → AnswersBy {X = Z} view' (Err (fault_at fault first)) (at_statement first wanted)
fault_at_statement view view' NoMemory first wanted answer = tt
fault_at_statement view view' Shape first wanted answer = ap (at_statement first) answer
fault_at_statement view view' LeftOut first wanted answer = ap (at_statement first) answer
fault_at_statement view view' OutOfRange first wanted answer = ap (at_statement first) answer

-- a fault is the same, however what is read is seen
pub fault_seen : {X Y Z : Type 0} (view : X → Y) (view' : Z → Y) (fault : FormFault) (wanted : Result Y FormFault) →
    AnswersBy {X = X} view (Err fault) wanted → AnswersBy {X = Z} view' (Err fault) wanted
fault_seen view view' form.NoMemory wanted answer = tt
fault_seen view view' (form.Refused kind first) wanted answer = answer
