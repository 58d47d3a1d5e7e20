-- A token that doesn't fit refuses the acts of an event.
use Rattle.std.proofs.Common.{◌≡◌, ℕ, suc, ◌<◌, List, ◌∷◌, length, drop, get_or, Result, Ok, Err, sym, ap, ◌∙◌, subst, Bool, not}
use Rattle.std.proofs.Math.Seq.{drop-cons}
use Rattle.answers.specs.Reading.{and_then}
use Rattle.tester_types.specs.declared.wave.Act.{Act}
use Rattle.stil_lex.specs.declared.token.Token.{Token}
use Rattle.stil_form.specs.Lexeme.{Lexeme, lexeme_at, lexemes_of}
use Rattle.stil_form.specs.declared.fault.FormKind.{FormKind}
use Rattle.stil_form.specs.declared.fault.FormFault.{FormFault}
use Rattle.stil_form.specs.declared.fault.FormFault.TheVariants.{NoMemory, Refused}
use Rattle.stil_form.specs.Reading.{AnswersBy}
use Rattle.stil_form.specs.Setting.{at_statement}
use Rattle.timing_blocks.specs.Working.{with_token, acts_from}

-- a fault at the first of two steps
pub first_stops : {X Y Z W : Type 0} (view : Z → X) (view' : W → Y) (first : ℕ) (o : Result X FormKind)
    (next : X → Result Y FormKind) (fault : FormFault) → AnswersBy {X = Z} view (Err fault) (at_statement first o)
    → AnswersBy {X = W} view' (Err fault) (at_statement first (and_then o next))
first_stops view view' first o next NoMemory answer = tt
first_stops view view' first (Ok x) next (Refused kind at) answer = cc
first_stops view view' first (Err other) next (Refused kind at) answer = cc

-- a fault at the token at hand
pub acts_stop : {Z W : Type 0} (view : Z → List Act) (view' : W → List Act) (first : ℕ) (slash_next : Bool)
    (acts : List Act) (bytes : List ℕ) (tokens : List Token) (i : ℕ) (d : Token) (part : Lexeme)
    (whole : Result (List Act) FormKind) (fault : FormFault) → i < length tokens
    → part ≡ lexeme_at bytes (get_or tokens i d)
    → AnswersBy {X = Z} view (Err fault) (at_statement first (with_token slash_next acts part))
    → acts_from slash_next acts (lexemes_of bytes (drop i tokens)) ≡ whole
    → AnswersBy {X = W} view' (Err fault) (at_statement first whole)
acts_stop {Z} {W} view view' first slash_next acts bytes tokens i d part whole fault within is answer all =
    let rest : List Lexeme = lexemes_of bytes (drop (suc i) tokens) in
    subst (λ (o : Result (List Act) FormKind). AnswersBy {X = W} view' (Err fault) (at_statement first o))
    (ap (λ p. acts_from slash_next acts (p ∷ rest)) is
    ∙ ap (λ ts. acts_from slash_next acts (lexemes_of bytes ts)) (sym (drop-cons tokens i d within)) ∙ all)
    (first_stops {Z = Z} {W = W} view view' first (with_token slash_next acts part) (λ read. acts_from (not slash_next) read rest) fault answer)
