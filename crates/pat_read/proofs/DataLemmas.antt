-- Items behind items: what a token adds to data, and where data stop.
use Rattle.std.proofs.Common.{◌≡◌, ℕ, ◌+◌, ◌<◌, List, ◌∷◌, ◌++◌, length, drop, get_or, append_assoc, Result, Ok, Err, refl, sym, ap, subst, ◌∙◌}
use Rattle.std.proofs.Math.Seq.{drop-cons}
use Rattle.text_bytes.proofs.ListLemmas.{suc-plus}
use Rattle.stil_lex.specs.declared.token.Token.{Token}
use Rattle.stil_form.specs.declared.fault.FormKind.{FormKind}
use Rattle.stil_ast.specs.Meaning.Statements.{Item}
use Rattle.pat_read.specs.declared.data.Awaited.{Awaited}
use Rattle.pat_read.specs.declared.fault.DataFault.{DataFault}
use Rattle.pat_read.specs.declared.fault.DataFault.TheVariants.{NoMemory, Shape, LeftOut, OutOfRange}
use Rattle.answers.specs.Reading.{and_then}
use Rattle.pat_read.specs.Fault.{DataAnswers}
use Rattle.pat_read.specs.Data.{said_by, behind, data_from, said_behind}

-- items behind items that stand behind items
pub behind-append : (before items : List Item) (more : Result (List Item) FormKind) →
    behind before (behind items more) ≡ behind (before ++ items) more
behind-append before items (Ok rest) = ap (λ xs. Ok xs) (sym (append_assoc before items rest))
behind-append before items (Err kind) = refl

-- what a token says, and what stands behind it
behind-said : (before : List Item) (said : Result (List Item × Awaited) FormKind) (rest : Awaited → Result (List Item) FormKind) →
    behind before (and_then said (λ s. behind s.0 (rest s.1))) ≡ and_then (said_behind before said) (λ s. behind s.0 (rest s.1))
behind-said before (Ok said) rest = behind-append before said.0 (rest said.1)
behind-said before (Err kind) rest = refl

-- behind items stand a token and those behind it
pub data-token : (before : List Item) (bytes : List ℕ) (wanted : Awaited) (token : Token) (tokens : List Token) →
    behind before (data_from bytes wanted (token ∷ tokens))
    ≡ and_then (said_behind before (said_by bytes wanted token)) (λ s. behind s.0 (data_from bytes s.1 tokens))
data-token before bytes wanted token tokens =
    behind-said before (said_by bytes wanted token) (λ next. data_from bytes next tokens)

-- the token at hand in front of those behind it
data-at : (before : List Item) (bytes : List ℕ) (wanted : Awaited) (tokens : List Token) (i : ℕ) (d : Token) → i < length tokens →
    and_then (said_behind before (said_by bytes wanted (get_or tokens i d)))
    (λ s. behind s.0 (data_from bytes s.1 (drop (i + 1) tokens)))
    ≡ behind before (data_from bytes wanted (drop i tokens))
data-at before bytes wanted tokens i d within =
    sym (data-token before bytes wanted (get_or tokens i d) (drop (i + 1) tokens))
    ∙ ap (λ ts. behind before (data_from bytes wanted ts))
    (sym (drop-cons tokens i d within ∙ ap (λ j. get_or tokens i d ∷ drop j tokens) (suc-plus i)))

-- what was read with one token more, and the rest, are the whole
pub data_goes_on : (before after : List Item) (bytes : List ℕ) (wanted next : Awaited) (tokens : List Token)
    (i : ℕ) (d : Token) (whole : Result (List Item) FormKind) →
    i < length tokens →
    said_behind before (said_by bytes wanted (get_or tokens i d)) ≡ Ok (after, next) →
    behind before (data_from bytes wanted (drop i tokens)) ≡ whole →
    behind after (data_from bytes next (drop (i + 1) tokens)) ≡ whole
data_goes_on before after bytes wanted next tokens i d whole within said is =
    ap (λ r. and_then r (λ s. behind s.0 (data_from bytes s.1 (drop (i + 1) tokens)))) (sym said)
    ∙ data-at before bytes wanted tokens i d within ∙ is

-- a fault of one step is the fault of all
pub fault_stays : {X Y Z W : Type 0} (view : X → Y) (view' : Z → W) (fault : DataFault) (first : Result Y FormKind) (next : Y → Result W FormKind) →
    DataAnswers {X = X} view (Err fault) first → DataAnswers {X = Z} view' (Err fault) (and_then first next)
fault_stays view view' NoMemory first next answer = tt
fault_stays view view' Shape first next answer = ap (λ r. and_then r next) answer
fault_stays view view' LeftOut first next answer = ap (λ r. and_then r next) answer
fault_stays view view' OutOfRange first next answer = ap (λ r. and_then r next) answer

-- a fault at the token at hand is the fault of the whole
pub data_stops : {Z : Type 0} (view : Z → List Item) (view' : Awaited → List Item × Awaited) (before : List Item)
    (bytes : List ℕ) (wanted : Awaited) (tokens : List Token) (i : ℕ) (d : Token) (whole : Result (List Item) FormKind)
    (fault : DataFault) → i < length tokens →
    DataAnswers {X = Awaited} view' (Err fault) (said_behind before (said_by bytes wanted (get_or tokens i d))) →
    behind before (data_from bytes wanted (drop i tokens)) ≡ whole →
    DataAnswers {X = Z} view (Err fault) whole
data_stops {Z} view view' before bytes wanted tokens i d whole fault within answer is =
    let P : Result (List Item) FormKind → Type 0 = λ r. DataAnswers {X = Z} view (Err fault) r in
    subst P (data-at before bytes wanted tokens i d within ∙ is) (fault_stays view' view fault _ _ answer)
