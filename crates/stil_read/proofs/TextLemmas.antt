-- A text has one answer: its blocks, or what is told of its first fault.
use Rattle.std.proofs.Common.{◌≡◌, ◌⊎◌, ℕ, List, [], ◌∷◌, Bool, true, false, Result, Ok, Err, MatchResult, refl, sym, ap, subst, ◌∙◌, inl, inr}
use Rattle.answers.specs.Reading.{stepping}
use Rattle.stil_lex.specs.declared.token.Token.{Token}
use Rattle.stil_tree.specs.Trees.{Entry}
use Rattle.stil_form.specs.declared.fault.FormKind.TheVariants as kind
use Rattle.stil_form.specs.declared.fault.FormFault.{FormFault}
use Rattle.stil_form.specs.declared.fault.FormFault.TheVariants as form
use Rattle.stil_form.specs.Reading.{AnswersBy}
use Rattle.stil_form.specs.Setting.{setting, lexemes_at}
use Rattle.stil_ast.specs.declared.blocks.Blocks.{Blocks}
use Rattle.stil_ast.specs.declared.executive.ExecDecl.{ExecDecl}
use Rattle.stil_ast.specs.declared.fault.StilFault.{StilFault}
use Rattle.stil_ast.specs.Data.Refusal.{StilRefusal}
use Rattle.answers.specs.declared.short.Short.TheVariants.{NoMemory, Fault}
use Rattle.pat_read.specs.Refusal.{Tells}
use Rattle.pat_read.proofs.ToldLemmas.{told_once}
use Rattle.stil_read.specs.Top.{Top, TextFault, in_statement, nowhere, top_step, start, is_stil_1_0, with_executive, finished, behind_header, blocks_of}
use Rattle.stil_read.specs.Text.{told_nowhere, ended_with, IsToldOf, IsFaultOf, IsTextFault, TextAnswers}

-- a text whose first statement is no header
pub no_header : (bytes : List ℕ) (tokens : List Token) (e : Entry) (es : List Entry) (refusal : StilRefusal)
    → is_stil_1_0 (lexemes_at (setting bytes tokens []) e) ≡ false
    → Tells bytes tokens (form.Refused kind.NoHeader e.first) refusal
    → TextAnswers bytes tokens (e ∷ es) (Err refusal)
no_header bytes tokens e es NoMemory header tells = tt
no_header bytes tokens e es (Fault told) header tells = record {
  which = in_statement (form.Refused kind.NoHeader e.first);
  refused = ap (λ (b : Bool). behind_header bytes tokens b e es) header;
  told = tells;
}

-- the blocks behind a header
behind : (bytes : List ℕ) (tokens : List Token) (e : Entry) (es : List Entry) (reached : Result Top FormFault)
    → is_stil_1_0 (lexemes_at (setting bytes tokens []) e) ≡ true → stepping (top_step bytes tokens) start es ≡ reached
    → blocks_of bytes tokens (e ∷ es) ≡ finished reached
behind bytes tokens e es reached header is =
    ap (λ (b : Bool). behind_header bytes tokens b e es) header ∙ ap finished is

-- a text of which a statement behind the header is refused
pub statement_refused : {X : Type 0} (view : X → Top) (bytes : List ℕ) (tokens : List Token) (e : Entry) (es : List Entry)
    (fault : FormFault) (refusal : StilRefusal) → is_stil_1_0 (lexemes_at (setting bytes tokens []) e) ≡ true
    → AnswersBy {X = X} view (Err fault) (stepping (top_step bytes tokens) start es) → Tells bytes tokens fault refusal
    → TextAnswers bytes tokens (e ∷ es) (Err refusal)
statement_refused view bytes tokens e es fault NoMemory header is tells = tt
statement_refused view bytes tokens e es form.NoMemory (Fault told) header is tells = absurd tells
statement_refused view bytes tokens e es (form.Refused kind first) (Fault told) header is tells = record {
  which = in_statement (form.Refused kind first);
  refused = behind bytes tokens e es (Err (form.Refused kind first)) header is;
  told = tells;
}

-- a text whose statements are read has its blocks, or no executive
ended : (bytes : List ℕ) (tokens : List Token) (es : List Entry) (blocks : Blocks) (executives : List ExecDecl)
    → blocks_of bytes tokens es ≡ with_executive blocks executives
    → TextAnswers bytes tokens es (ended_with blocks executives)
ended bytes tokens es blocks [] is = record { which = nowhere kind.NoExec; refused = is; told = refl }
ended bytes tokens es blocks (one ∷ more) is = is

pub all_read : (bytes : List ℕ) (tokens : List Token) (e : Entry) (es : List Entry) (t : Top)
    → is_stil_1_0 (lexemes_at (setting bytes tokens []) e) ≡ true → stepping (top_step bytes tokens) start es ≡ Ok t
    → TextAnswers bytes tokens (e ∷ es) (ended_with t.blocks t.blocks.executives)
all_read bytes tokens e es t header is =
    ended bytes tokens (e ∷ es) t.blocks t.blocks.executives (behind bytes tokens e es (Ok t) header is)

-- of one fault of a text one thing is told
one_told : (bytes : List ℕ) (tokens : List Token) (which : TextFault) (f g : StilFault)
    → IsToldOf bytes tokens which f → IsToldOf bytes tokens which g → f ≡ g
one_told bytes tokens (in_statement form.NoMemory) f g p q = absurd p
one_told bytes tokens (in_statement (form.Refused kind first)) f g p q = told_once bytes tokens kind first f g p q
one_told bytes tokens (nowhere kind) f g p q = p ∙ sym q

-- a text has one fault
one_fault : (bytes : List ℕ) (tokens : List Token) (es : List Entry) (f g : StilFault)
    → IsFaultOf bytes tokens es f → IsFaultOf bytes tokens es g → f ≡ g
one_fault bytes tokens es f g p q =
    let both : ◌≡◌ {A = Result Blocks TextFault} (Err p.which) (Err q.which) = sym p.refused ∙ q.refused in
    let same : p.which ≡ q.which = cc in
    one_told bytes tokens q.which f g (subst (λ (w : TextFault). IsToldOf bytes tokens w f) same p.told) q.told

-- read and refused at once
not_both : (bytes : List ℕ) (tokens : List Token) (es : List Entry) (read : Blocks) (fault : StilFault)
    → blocks_of bytes tokens es ≡ Ok read → IsFaultOf bytes tokens es fault → ⊥
not_both bytes tokens es read fault is told = let refused = told.refused in cc

-- a fault of the text is the answer, or there is no memory
pub refused_once : (bytes : List ℕ) (tokens : List Token) (es : List Entry) (result : Result Blocks StilRefusal) (fault : StilRefusal)
    → TextAnswers bytes tokens es result → IsTextFault bytes tokens es fault
    → MatchResult result (λ _. ⊥) (λ e. (e ≡ NoMemory) ⊎ (e ≡ fault))
refused_once bytes tokens es result NoMemory answer is = absurd is
refused_once bytes tokens es (Ok read) (Fault fault) answer is = not_both bytes tokens es read fault answer is
refused_once bytes tokens es (Err NoMemory) (Fault fault) answer is = inl refl
refused_once bytes tokens es (Err (Fault told)) (Fault fault) answer is = inr (ap Fault (one_fault bytes tokens es told fault answer is))

-- a text without statements
pub nothing_there : (bytes : List ℕ) (tokens : List Token) (es : List Entry) (refusal : StilRefusal)
    → es ≡ [] → refusal ≡ Fault (told_nowhere kind.NoHeader) → TextAnswers bytes tokens es (Err refusal)
nothing_there bytes tokens es refusal none is =
    let nothing : TextAnswers bytes tokens [] (Err (Fault (told_nowhere kind.NoHeader)))
    = record { which = nowhere kind.NoHeader; refused = refl; told = refl } in
    subst (λ (r : StilRefusal). TextAnswers bytes tokens es (Err r)) (sym is)
    (subst (λ (l : List Entry). TextAnswers bytes tokens l (Err (Fault (told_nowhere kind.NoHeader)))) (sym none) nothing)
