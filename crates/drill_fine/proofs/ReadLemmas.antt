-- Vectors are read, one after another.
use Rattle.std.proofs.Common.{◌≡◌, ℕ, ◌+◌, Bool, true, false, List, [], ◌∷◌, ◌++◌, take, drop, Some, Result, Ok, refl, sym, ap, ◌∙◌, append_assoc, append-nil, arith}
use Rattle.std.specs.Prelude.{◌-◌, nat_lt, codes}
use Rattle.std.proofs.lemmas.List.{drop-drop}
use Rattle.text_bytes.specs.Bytes.{begins_name, is_printable}
use Rattle.stil_lex.specs.declared.token.Token.{Token}
use Rattle.stil_tree.specs.Trees.{Entry, end, plain}
use Rattle.stil_form.specs.declared.fault.FormFault.{FormFault}
use Rattle.stil_form.specs.declared.part.SignKind.TheVariants.{Equals, Other}
use Rattle.stil_form.specs.Lexeme.{Lexeme, word, sign, lexemes_of}
use Rattle.stil_form.specs.Setting.{setting, line_at}
use Rattle.stil_ast.specs.declared.body.Step.TheVariants as step
use Rattle.stil_ast.specs.declared.body.PatAction.TheVariants as action
use Rattle.stil_ast.specs.declared.body.PatStmt.{PatStmt}
use Rattle.pat_read.specs.Data.{has_underscore}
use Rattle.pat_read.specs.Body.{on_line, one_more, body_from}
use Rattle.line_texts.specs.Said.{no_more, pieces_of, trees_at, each_said}
use Rattle.line_texts.specs.Lexemes.{lexemes_in}
use Rattle.line_texts.proofs.AssignmentLemmas.{gives, assignment_said}
use Rattle.line_texts.proofs.SettingLemmas.{head_behind}
use Rattle.drill_fine.specs.Said.{bit_byte, look_byte, vector_said}
use Rattle.drill_fine.specs.Texts.{driven_bit}

-- the statement of a vector
abbrev pub vector_stmt : List Token → ℕ → ℕ → ℕ → ℕ → ℕ → ℕ → PatStmt
vector_stmt tokens at f1 f2 f3 bit look =
    on_line (line_at tokens at) (action.Step (step.Vector (
    gives (codes "d") bit (line_at tokens f1) ∷ gives (codes "ck") 80 (line_at tokens f2) ∷ gives (codes "q") look (line_at tokens f3) ∷ [])))

-- the entry of a vector
abbrev pub vector_entry : ℕ → ℕ → ℕ → ℕ → Entry
vector_entry at f1 f2 f3 = record { first = at; count = 1; body = Some (plain f1 3 (plain f2 3 (plain f3 3 end))) }

-- a vector is read, whatever stands for its block's statements
pub vector_read : (bytes : List ℕ) (tokens : List Token) (before : List PatStmt) (at f1 f2 f3 bit look : ℕ)
    (inner : Result (List PatStmt) FormFault) (rest : List PatStmt → Result (List PatStmt) FormFault)
    → take 1 (drop at (lexemes_of bytes tokens)) ≡ word (codes "V") ∷ []
    → take 3 (drop f1 (lexemes_of bytes tokens)) ≡ word (codes "d") ∷ sign Equals ∷ word (bit ∷ []) ∷ []
    → take 3 (drop f2 (lexemes_of bytes tokens)) ≡ word (codes "ck") ∷ sign Equals ∷ word (codes "P") ∷ []
    → take 3 (drop f3 (lexemes_of bytes tokens)) ≡ word (codes "q") ∷ sign Equals ∷ word (look ∷ []) ∷ []
    → has_underscore (bit ∷ []) ≡ false → has_underscore (look ∷ []) ≡ false
    → one_more (setting bytes tokens []) true before (vector_entry at f1 f2 f3) inner rest
    ≡ rest (before ++ vector_stmt tokens at f1 f2 f3 bit look ∷ [])
unfolding begins_name is_printable
vector_read bytes tokens before at f1 f2 f3 bit look inner rest h0 h1 h2 h3 fits1 fits3 =
    let a1 = assignment_said bytes tokens [] f1 (word (codes "d")) (codes "d") bit h1 refl fits1 in
    let a2 = assignment_said bytes tokens [] f2 (word (codes "ck")) (codes "ck") 80 h2 refl refl in
    let a3 = assignment_said bytes tokens [] f3 (word (codes "q")) (codes "q") look h3 refl fits3 in
    rw (h0, h1, h2, h3) (rw (a1, a2, a3) refl)

-- the statements of vectors of which the first has the index `at`
abbrev pub stmts_from : List Token → ℕ → ℕ → List ℕ → List PatStmt
stmts_from tokens n at [] = []
stmts_from tokens n at (i ∷ is) =
    vector_stmt tokens at (at + 1 + 1) (at + 1 + 1 + 3 + 1) (at + 1 + 1 + 3 + 1 + 3 + 1) (bit_byte (driven_bit n i)) (look_byte (nat_lt i n) (driven_bit n (i - n)))
    ∷ stmts_from tokens n (at + 1 + 1 + 12 + 1) is

-- what the lexemes of vector i are, in front of others
abbrev pub lexemes_with : ℕ → ℕ → List Lexeme → List Lexeme
lexemes_with bit look more =
    word (codes "V") ∷ sign (Other 123) ∷ word (codes "d") ∷ sign Equals ∷ word (bit ∷ []) ∷ sign (Other 59)
    ∷ word (codes "ck") ∷ sign Equals ∷ word (codes "P") ∷ sign (Other 59)
    ∷ word (codes "q") ∷ sign Equals ∷ word (look ∷ []) ∷ sign (Other 59) ∷ sign (Other 125) ∷ more

-- no character of a vector is a low line
bit_fits : (high : Bool) → has_underscore (bit_byte high ∷ []) ≡ false
bit_fits true = refl
bit_fits false = refl

look_fits : (unknown seen : Bool) → has_underscore (look_byte unknown seen ∷ []) ≡ false
look_fits true seen = refl
look_fits false true = refl
look_fits false false = refl

-- one vector behind others
pub one_read : (bytes : List ℕ) (tokens : List Token) (before : List PatStmt) (at bit look : ℕ) (more : List Lexeme)
    (inner : Result (List PatStmt) FormFault) (rest : List PatStmt → Result (List PatStmt) FormFault)
    → drop at (lexemes_of bytes tokens) ≡ lexemes_with bit look more
    → has_underscore (bit ∷ []) ≡ false → has_underscore (look ∷ []) ≡ false
    → one_more (setting bytes tokens []) true before
    (vector_entry at (at + 1 + 1) (at + 1 + 1 + 3 + 1) (at + 1 + 1 + 3 + 1 + 3 + 1)) inner rest
    ≡ rest (before ++ vector_stmt tokens at (at + 1 + 1) (at + 1 + 1 + 3 + 1) (at + 1 + 1 + 3 + 1 + 3 + 1) bit look ∷ [])
one_read bytes tokens before at bit look more inner rest are fits1 fits3 =
    let all = lexemes_of bytes tokens in
    let here = lexemes_with bit look more in
    vector_read bytes tokens before at (at + 1 + 1) (at + 1 + 1 + 3 + 1) (at + 1 + 1 + 3 + 1 + 3 + 1) bit look inner rest
    (ap (take 1) are)
    (head_behind all here at 2 3 (at + 1 + 1) are (omega arith))
    (head_behind all here at 6 3 (at + 1 + 1 + 3 + 1) are (omega arith))
    (head_behind all here at 10 3 (at + 1 + 1 + 3 + 1 + 3 + 1) are (omega arith))
    fits1 fits3

-- vectors are read behind other statements, up to what is behind them
pub vectors_read : (bytes : List ℕ) (tokens : List Token) (n : ℕ) (is : List ℕ) (before : List PatStmt) (at : ℕ)
    (after : List Lexeme)
    → drop at (lexemes_of bytes tokens) ≡ lexemes_in (pieces_of (each_said (vector_said n) is no_more)) ++ after
    → body_from (setting bytes tokens []) true before (trees_at at (each_said (vector_said n) is no_more))
    ≡ Ok (before ++ stmts_from tokens n at is)
vectors_read bytes tokens n [] before at after are = ap (λ (done : List PatStmt). Ok done) (sym (append-nil before))
vectors_read bytes tokens n (i ∷ is) before at after are =
    let all = lexemes_of bytes tokens in
    let bit = bit_byte (driven_bit n i) in
    let look = look_byte (nat_lt i n) (driven_bit n (i - n)) in
    let rest = each_said (vector_said n) is no_more in
    let more = lexemes_in (pieces_of rest) ++ after in
    let here : drop at all ≡ lexemes_with bit look more = are in
    let next = at + 1 + 1 + 12 + 1 in
    let behind : drop next all ≡ more =
    ap (λ k. drop k all) (omega arith) ∙ sym (drop-drop 15 at all) ∙ ap (drop 15) here in
    let stmt = vector_stmt tokens at (at + 1 + 1) (at + 1 + 1 + 3 + 1) (at + 1 + 1 + 3 + 1 + 3 + 1) bit look in
    one_read bytes tokens before at bit look more _ (λ read. body_from (setting bytes tokens []) true read (trees_at next rest)) here
    (bit_fits (driven_bit n i)) (look_fits (nat_lt i n) (driven_bit n (i - n)))
    ∙ vectors_read bytes tokens n is (before ++ stmt ∷ []) next after behind
    ∙ ap (λ (done : List PatStmt). Ok done) (append_assoc before (stmt ∷ []) (stmts_from tokens n next is))
