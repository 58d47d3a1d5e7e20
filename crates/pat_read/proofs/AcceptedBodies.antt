-- Bodies that are read have their form.
use Rattle.std.proofs.Common.{◌≡◌, ℕ, zero, suc, ◌-◌, ◌<◌, Bool, true, false, ◌&&◌, cond, List, [], ◌∷◌, ◌++◌, length, take, drop, is_some, Option, Some, None, Result, Ok, Err, refl, subst, arith, nat_le}
use Rattle.std.specs.List.{list_all}
use Rattle.std.proofs.lemmas.Bool.{and_parts, and_from}
use Rattle.text_bytes.specs.Numbers.{number_by, is_within}
use Rattle.text_bytes.specs.Limits.{most_passes}
use Rattle.answers.specs.Reading.{and_then}
use Rattle.stil_lex.specs.declared.token.Token.{Token}
use Rattle.stil_tree.specs.Trees.{Trees, Entry, end, plain, block}
use Rattle.stil_form.specs.declared.fault.FormFault.{FormFault}
use Rattle.stil_form.specs.declared.fault.FormKind.{FormKind}
use Rattle.stil_form.specs.declared.fault.FormKind.TheVariants.{Shape, OutOfRange}
use Rattle.stil_form.specs.declared.part.SignKind.TheVariants as mark
use Rattle.stil_form.specs.Lexeme.{Lexeme, word, name, text, sign, lexeme_at}
use Rattle.stil_form.specs.Words.{named_by}
use Rattle.stil_form.specs.Fronts.{Ref, reference_front}
use Rattle.stil_form.specs.Reading.{is_skipped}
use Rattle.stil_form.specs.Setting.{Setting, tokens_at, lexemes_at, line_at, at_statement, inner_of, unskipped}
use Rattle.stil_ast.specs.Meaning.Statements.{Item}
use Rattle.stil_ast.specs.Data.Texts.{is_name}
use Rattle.stil_ast.specs.Data.Forms.{is_line, is_sig_ref, is_item}
use Rattle.stil_ast.specs.Data.Written.{Written}
use Rattle.stil_ast.specs.Data.Bodies.{written_of}
use Rattle.stil_ast.specs.Data.BlockForms.{is_assignment, is_step, is_body}
use Rattle.stil_ast.specs.declared.name.SigRef.{SigRef}
use Rattle.stil_ast.specs.declared.body.Assignment.{Assignment}
use Rattle.stil_ast.specs.declared.body.Step.{Step}
use Rattle.stil_ast.specs.declared.body.Step.TheVariants as step
use Rattle.stil_ast.specs.declared.body.PatAction.{PatAction}
use Rattle.stil_ast.specs.declared.body.PatAction.TheVariants as action
use Rattle.stil_ast.specs.declared.body.PatStmt.{PatStmt}
use Rattle.pat_read.specs.declared.outline.Keyword.{Keyword}
use Rattle.pat_read.specs.declared.outline.Keyword.TheVariants as keyword
use Rattle.pat_read.specs.declared.outline.Plain.{Plain}
use Rattle.pat_read.specs.declared.outline.Plain.TheVariants as said
use Rattle.pat_read.specs.declared.outline.Outline.{Outline}
use Rattle.pat_read.specs.declared.outline.Outline.TheVariants as outline
use Rattle.pat_read.specs.declared.reader.BodyPlace.{BodyPlace}
use Rattle.pat_read.specs.Accepted.{is_spelled, AreSpelled, AreLexed}
use Rattle.pat_read.specs.References.{last_of, data_behind, referred, assigned, assignment_by, assignment_of}
use Rattle.pat_read.specs.Statements.{keyword_of, unlabelled, alone, is_there, only_name, named, of_times, looped, block_at_break, keyword_said, by_keyword, unlabelled_said, statement_said}
use Rattle.pat_read.specs.Body.{assignment_at, judge_assignment, assignments_of, step_of, action_of, on_line, outline_at, judge_statement, body_from, is_pattern, body_of}
use Rattle.pat_read.proofs.AcceptedLemmas.{both_ok, said_at, list_all-one, reading-each, first_line, is_name-named_by, FitsRef, fits_front, is_sig_ref-ref_of}
use Rattle.pat_read.proofs.AcceptedData.{data_fit}

-- the last tokens, and those of a head, are spelled as all are
spelled_drop : (bytes : List ℕ) (n : ℕ) (tokens : List Token) → AreSpelled bytes tokens → AreSpelled bytes (drop n tokens)
spelled_drop bytes zero tokens all = all
spelled_drop bytes (suc n) [] all = refl
spelled_drop bytes (suc n) (t ∷ tokens) all =
    spelled_drop bytes n tokens
    (and_parts (is_spelled (lexeme_at bytes t)) (list_all (λ x. is_spelled (lexeme_at bytes x)) tokens) all).1

spelled_take : (bytes : List ℕ) (n : ℕ) (tokens : List Token) → AreSpelled bytes tokens → AreSpelled bytes (take n tokens)
spelled_take bytes zero tokens all = refl
spelled_take bytes (suc n) [] all = refl
spelled_take bytes (suc n) (t ∷ tokens) all =
    let each = and_parts (is_spelled (lexeme_at bytes t)) (list_all (λ x. is_spelled (lexeme_at bytes x)) tokens) all in
    and_from (is_spelled (lexeme_at bytes t)) (list_all (λ x. is_spelled (lexeme_at bytes x)) (take n tokens)) each.0
    (spelled_take bytes n tokens each.1)

-- what ends well has an item in front
abbrev IsThere : List Lexeme → Type 0
IsThere head = 0 < length head

-- the data of an assignment
behind_equals : (bytes : List ℕ) (tokens : List Token) (head : List Lexeme) (items : List Item) → AreSpelled bytes tokens
    → data_behind bytes tokens head ≡ Ok items → list_all is_item items ≡ true
behind_equals bytes tokens [] items all is = cc
behind_equals bytes tokens (word b ∷ rest) items all is = cc
behind_equals bytes tokens (name b ∷ rest) items all is = cc
behind_equals bytes tokens (text b ∷ rest) items all is = cc
behind_equals bytes tokens (sign mark.Equals ∷ rest) items all is =
    data_fit bytes (last_of (length rest) tokens) items (spelled_drop bytes (length tokens - length rest) tokens all) is
behind_equals bytes tokens (sign mark.Open ∷ rest) items all is = cc
behind_equals bytes tokens (sign mark.Close ∷ rest) items all is = cc
behind_equals bytes tokens (sign mark.Dot ∷ rest) items all is = cc
behind_equals bytes tokens (sign mark.Hash ∷ rest) items all is = cc
behind_equals bytes tokens (sign mark.Percent ∷ rest) items all is = cc
behind_equals bytes tokens (sign mark.Slash ∷ rest) items all is = cc
behind_equals bytes tokens (sign mark.Backslash ∷ rest) items all is = cc
behind_equals bytes tokens (sign mark.Colon ∷ rest) items all is = cc
behind_equals bytes tokens (sign mark.Plus ∷ rest) items all is = cc
behind_equals bytes tokens (sign mark.Minus ∷ rest) items all is = cc
behind_equals bytes tokens (sign mark.Bang ∷ rest) items all is = cc
behind_equals bytes tokens (sign (mark.Other b) ∷ rest) items all is = cc

-- the reference of an assignment
referred_fits : (line : ℕ) (b : Bool) (found : Ref) (reference : SigRef) → is_line line ≡ true → FitsRef found
    → referred line b found ≡ Ok reference → is_sig_ref reference ≡ true
referred_fits line true found reference lined fits is = cc
referred_fits line false found reference lined fits is = is_sig_ref-ref_of line found reference lined fits is

-- an assignment by its reference
by_reference : (bytes : List ℕ) (tokens : List Token) (line : ℕ) (b : Bool) (o : Option (Ref × List Lexeme)) (a : Assignment)
    → is_line line ≡ true → AreSpelled bytes tokens
    → ((found : Ref × List Lexeme) → o ≡ Some found → FitsRef found.0)
    → assignment_by bytes tokens line b o ≡ Ok a → is_assignment a ≡ true
by_reference bytes tokens line b None a lined all fits is = cc
by_reference bytes tokens line b (Some found) a lined all fits is =
    let given = both_ok (data_behind bytes tokens found.1) (λ items. assigned line b found.0 items) a is in
    let items = given.given in
    let one = both_ok (referred line b found.0) (λ r. Ok (record { reference = r; items = items; line = line })) a given.made in
    let made : record { reference = one.given; items = items; line = line } ≡ a = cc in
    subst (λ (x : Assignment). is_assignment x ≡ true) made
    (and_from (is_sig_ref one.given && list_all is_item items) (is_line line)
    (and_from (is_sig_ref one.given) (list_all is_item items)
    (referred_fits line b found.0 one.given lined (fits found refl) one.met)
    (behind_equals bytes tokens found.1 items all given.met)) lined)

-- an assignment has a reference in front
has_reference : (bytes : List ℕ) (tokens : List Token) (line : ℕ) (b : Bool) (head : List Lexeme) (a : Assignment)
    → assignment_of bytes tokens line b head ≡ Ok a → IsThere head
has_reference bytes tokens line b [] a is = cc
has_reference bytes tokens line b (one ∷ rest) a is = omega arith

assignment_fits : (s : Setting) → AreLexed s → (before : List Assignment) (e : Entry) (a : Assignment)
    → judge_assignment s before e ≡ Ok a → is_assignment a ≡ true
assignment_fits s lexed before e a is =
    let bytes = s.bytes in
    let tokens = tokens_at s.tokens e in
    let line = line_at s.tokens e.first in
    let head = lexemes_at s e in
    let found = said_at e.first (assignment_at s e) a is in
    let lined = first_line s lexed.lines e (has_reference bytes tokens line (is_some e.body) head a found) in
    by_reference bytes tokens line (is_some e.body) (reference_front head) a lined
    (spelled_take bytes e.count (drop e.first s.tokens) (spelled_drop bytes e.first s.tokens lexed.words))
    (λ one met. fits_front head one met) found

-- assignments in a block
abbrev FitAssigned : Result (List Assignment) FormFault → Type 0
FitAssigned r = (list : List Assignment) → r ≡ Ok list → list_all is_assignment list ≡ true

assigned_fit : (s : Setting) → AreLexed s → (es : List Entry) → FitAssigned (assignments_of s es)
assigned_fit s lexed es list is =
    reading-each (judge_assignment s) is_assignment (assignment_fits s lexed) (unskipped s es) list is

-- what a plain statement says without its block
abbrev FitsPlain : Bool → Plain → Type 0
FitsPlain top (said.Wave called) = is_name called ≡ true
FitsPlain top said.Vector = Unit {0}
FitsPlain top said.Condition = Unit {0}
FitsPlain top (said.Macro called) = is_name called ≡ true
FitsPlain top (said.Call called) = is_name called ≡ true
FitsPlain top said.Stop = top ≡ true
FitsPlain top said.BreakPoint = Unit {0}
FitsPlain top said.IddqTestPoint = Unit {0}

-- the same of any statement
abbrev FitsOutline : Bool → Outline → Type 0
FitsOutline top (outline.Step one) = FitsPlain top one
FitsOutline top (outline.Loop times) = is_within 1 most_passes times ≡ true
FitsOutline top outline.Shift = Unit {0}

-- a statement that is said without a fault
abbrev Says : Bool → Result Outline FormKind → Type 0
Says top r = (found : Outline) → r ≡ Ok found → FitsOutline top found

says_one : (top : Bool) (one : Outline) → FitsOutline top one → Says top (Ok one)
says_one top one fits found is = let same : one ≡ found = cc in subst (FitsOutline top) same fits

says_nothing : (top : Bool) (kind : FormKind) → Says top (Err kind)
says_nothing top kind found is = cc

says_alone : (top : Bool) (one : Outline) (rest : List Lexeme) → FitsOutline top one → Says top (alone one rest)
says_alone top one [] fits = says_one top one fits
says_alone top one (next ∷ rest) fits = says_nothing top Shape

-- what is there
pub there : {X : Type 0} (o : Option X) (x : X) → is_there o ≡ Ok x → o ≡ Some x
there None x is = cc
there (Some y) x is = cc

-- the one name behind a keyword
pub is_name-only_name : (rest : List Lexeme) (called : List ℕ) → only_name rest ≡ Ok called → is_name called ≡ true
is_name-only_name [] called is = cc
is_name-only_name (one ∷ []) called is = is_name-named_by one called (there (named_by one) called is)
is_name-only_name (one ∷ two ∷ rest) called is = cc

says_named : (top : Bool) (make : List ℕ → Plain) (rest : List Lexeme)
    → ((called : List ℕ) → is_name called ≡ true → FitsPlain top (make called)) → Says top (named make rest)
says_named top make rest fits found is =
    let both = both_ok (only_name rest) (λ called. Ok (outline.Step (make called))) found is in
    let same : outline.Step (make both.given) ≡ found = cc in
    subst (FitsOutline top) same (fits both.given (is_name-only_name rest both.given both.met))

-- a Loop
in_range : (top : Bool) (times : ℕ) (b : Bool) → (nat_le 1 times && nat_le times most_passes) ≡ b
    → Says top (cond b (Ok (outline.Loop times)) (Err OutOfRange))
in_range top times true is = says_one top (outline.Loop times) is
in_range top times false is = says_nothing top OutOfRange

says_times : (top : Bool) (o : Option ℕ) → Says top (of_times o)
says_times top None = says_nothing top Shape
says_times top (Some times) = in_range top times (nat_le 1 times && nat_le times most_passes) refl

says_loop : (top : Bool) (rest : List Lexeme) → Says top (looped rest)
says_loop top [] = says_nothing top Shape
says_loop top (word digits ∷ []) = says_times top (number_by digits)
says_loop top (word digits ∷ next ∷ rest) = says_nothing top Shape
says_loop top (name bytes ∷ rest) = says_nothing top Shape
says_loop top (text bytes ∷ rest) = says_nothing top Shape
says_loop top (sign kind ∷ rest) = says_nothing top Shape

-- a BreakPoint with a block
says_break : (top : Bool) (rest : List Lexeme) → Says top (block_at_break rest)
says_break top [] found is = cc
says_break top (next ∷ rest) found is = cc

-- each keyword
says_keyword : (top : Bool) (k : Keyword) (b : Bool) (rest : List Lexeme) → Says top (keyword_said top k b rest)
says_keyword top keyword.Wave false rest found is = says_named top said.Wave rest (λ called fits. fits) found is
says_keyword top keyword.Wave true rest found is = says_nothing top Shape found is
says_keyword top keyword.Vector true rest found is = says_alone top (outline.Step said.Vector) rest tt found is
says_keyword top keyword.Vector false rest found is = says_nothing top Shape found is
says_keyword top keyword.Condition true rest found is = says_alone top (outline.Step said.Condition) rest tt found is
says_keyword top keyword.Condition false rest found is = says_nothing top Shape found is
says_keyword top keyword.Loop true rest found is = says_loop top rest found is
says_keyword top keyword.Loop false rest found is = says_nothing top Shape found is
says_keyword top keyword.Macro true rest found is = says_named top said.Macro rest (λ called fits. fits) found is
says_keyword top keyword.Macro false rest found is = says_named top said.Macro rest (λ called fits. fits) found is
says_keyword top keyword.Call true rest found is = says_named top said.Call rest (λ called fits. fits) found is
says_keyword top keyword.Call false rest found is = says_named top said.Call rest (λ called fits. fits) found is
says_keyword top keyword.Shift true rest found is = says_alone top outline.Shift rest tt found is
says_keyword top keyword.Shift false rest found is = says_nothing top Shape found is
says_keyword false keyword.Stop true rest found is = cc
says_keyword false keyword.Stop false rest found is = cc
says_keyword true keyword.Stop true rest found is = says_nothing true Shape found is
says_keyword true keyword.Stop false rest found is = says_alone true (outline.Step said.Stop) rest refl found is
says_keyword top keyword.BreakPoint false rest found is = says_alone top (outline.Step said.BreakPoint) rest tt found is
says_keyword top keyword.BreakPoint true rest found is = says_break top rest found is
says_keyword top keyword.IddqTestPoint false rest found is = says_alone top (outline.Step said.IddqTestPoint) rest tt found is
says_keyword top keyword.IddqTestPoint true rest found is = says_nothing top Shape found is

says_by : (top : Bool) (o : Option Keyword) (b : Bool) (rest : List Lexeme) → Says top (by_keyword top o b rest)
says_by top None b rest found is = cc
says_by top (Some k) b rest found is = says_keyword top k b rest found is

says_unlabelled : (top b : Bool) (head : List Lexeme) → Says top (unlabelled_said top b head)
says_unlabelled top b [] found is = cc
says_unlabelled top b (one ∷ rest) found is = says_by top (keyword_of one) b rest found is

-- a statement has a lexeme in front
has_keyword : (top b : Bool) (head : List Lexeme) (found : Outline) → statement_said top b head ≡ Ok found → IsThere head
has_keyword top b [] found is = cc
has_keyword top b (one ∷ rest) found is = omega arith

-- assignments behind their keyword
assigns_fit : {X : Type 0} (r : Result (List Assignment) FormFault) (make : List Assignment → X) (x : X) → FitAssigned r
    → and_then r (λ given. Ok (make given)) ≡ Ok x
    → (list : List Assignment) × (list_all is_assignment list ≡ true) × (make list ≡ x)
assigns_fit r make x fit is =
    let both = both_ok r (λ given. Ok (make given)) x is in
    (both.given, fit both.given both.met, cc)

-- a plain statement with what its block assigns
step_fits : (top : Bool) (one : Plain) (r : Result (List Assignment) FormFault) (found : Step) → FitsPlain top one
    → FitAssigned r → step_of one r ≡ Ok found → is_step top found ≡ true
step_fits top (said.Wave called) r found fits fit is =
    let same : step.Wave called ≡ found = cc in subst (λ (x : Step). is_step top x ≡ true) same fits
step_fits top said.Vector r found fits fit is =
    let one = assigns_fit r step.Vector found fit is in subst (λ (x : Step). is_step top x ≡ true) one.2 one.1
step_fits top said.Condition r found fits fit is =
    let one = assigns_fit r step.Condition found fit is in subst (λ (x : Step). is_step top x ≡ true) one.2 one.1
step_fits top (said.Macro called) r found fits fit is =
    let one = assigns_fit r (step.Macro called) found fit is in
    subst (λ (x : Step). is_step top x ≡ true) one.2 (and_from (is_name called) (list_all is_assignment one.0) fits one.1)
step_fits top (said.Call called) r found fits fit is =
    let one = assigns_fit r (step.Call called) found fit is in
    subst (λ (x : Step). is_step top x ≡ true) one.2 (and_from (is_name called) (list_all is_assignment one.0) fits one.1)
step_fits top said.Stop r found fits fit is =
    let same : step.Stop ≡ found = cc in subst (λ (x : Step). is_step top x ≡ true) same fits
step_fits top said.BreakPoint r found fits fit is =
    let same : step.BreakPoint ≡ found = cc in subst (λ (x : Step). is_step top x ≡ true) same refl
step_fits top said.IddqTestPoint r found fits fit is =
    let same : step.IddqTestPoint ≡ found = cc in subst (λ (x : Step). is_step top x ≡ true) same refl

-- what a statement does, and a statement
abbrev is_action : Bool → PatAction → Bool
is_action top (action.Step one) = is_step top one
is_action top (action.Loop times body) = is_within 1 most_passes times && is_body false body
is_action top (action.Shift body) = is_body false body

abbrev is_stmt : Bool → PatStmt → Bool
is_stmt top stmt = is_line stmt.line && is_action top stmt.action

-- three tests that pass
pub all_three : (a b c : Bool) → a ≡ true → b ≡ true → c ≡ true → (a && b && c) ≡ true
all_three a b c p q r = and_from (a && b) c (and_from a b p q) r

all_four : (a b c d : Bool) → a ≡ true → (b && c) ≡ true → d ≡ true → (a && b && c && d) ≡ true
all_four a b c d p q r =
    let parts = and_parts b c q in and_from (a && b && c) d (all_three a b c p parts.0 parts.1) r

-- statements are a body
fit_body : (top : Bool) (stmts : List PatStmt) → list_all (is_stmt top) stmts ≡ true → is_body top (written_of stmts) ≡ true
fit_body top [] all = refl
fit_body top (stmt ∷ stmts) all =
    let each = and_parts (is_stmt top stmt) (list_all (is_stmt top) stmts) all in
    let parts = and_parts (is_line stmt.line) (is_action top stmt.action) each.0 in
    by_action stmt.line stmt.action parts.0 parts.1 (fit_body top stmts each.1)
  where
    by_action : (line : ℕ) (does : PatAction) → is_line line ≡ true → is_action top does ≡ true
        → is_body top (written_of stmts) ≡ true
        → is_body top (written_of (record { line = line; action = does } ∷ stmts)) ≡ true
    by_action line (action.Step one) lined fits rest =
        all_three (is_line line) (is_step top one) (is_body top (written_of stmts)) lined fits rest
    by_action line (action.Loop times body) lined fits rest =
        all_four (is_line line) (is_within 1 most_passes times) (is_body false body) (is_body top (written_of stmts)) lined fits rest
    by_action line (action.Shift body) lined fits rest =
        all_three (is_line line) (is_body false body) (is_body top (written_of stmts)) lined fits rest

-- the statements of a block, where they are read without a fault
abbrev FitInner : Result (List PatStmt) FormFault → Type 0
FitInner r = (stmts : List PatStmt) → r ≡ Ok stmts → list_all (is_stmt false) stmts ≡ true

-- what a statement does
action_fits : (top : Bool) (one : Outline) (r : Result (List Assignment) FormFault) (inner : Result (List PatStmt) FormFault)
    (does : PatAction) → FitsOutline top one → FitAssigned r → FitInner inner → action_of one r inner ≡ Ok does
    → is_action top does ≡ true
action_fits top (outline.Step one) r inner does fits assigned fit is =
    let both = both_ok (step_of one r) (λ found. Ok (action.Step found)) does is in
    let same : action.Step both.given ≡ does = cc in
    subst (λ (x : PatAction). is_action top x ≡ true) same (step_fits top one r both.given fits assigned both.met)
action_fits top (outline.Loop times) r inner does fits assigned fit is =
    let both = both_ok inner (λ stmts. Ok (action.Loop times (written_of stmts))) does is in
    let same : action.Loop times (written_of both.given) ≡ does = cc in
    subst (λ (x : PatAction). is_action top x ≡ true) same
    (and_from (is_within 1 most_passes times) (is_body false (written_of both.given)) fits
    (fit_body false both.given (fit both.given both.met)))
action_fits top outline.Shift r inner does fits assigned fit is =
    let both = both_ok inner (λ stmts. Ok (action.Shift (written_of stmts))) does is in
    let same : action.Shift (written_of both.given) ≡ does = cc in
    subst (λ (x : PatAction). is_action top x ≡ true) same (fit_body false both.given (fit both.given both.met))

-- a statement
statement_fits : (s : Setting) → AreLexed s → (top : Bool) (e : Entry) (inner : Result (List PatStmt) FormFault) (stmt : PatStmt)
    → FitInner inner → judge_statement s top e inner ≡ Ok stmt → is_stmt top stmt ≡ true
statement_fits s lexed top e inner stmt fit is =
    let r = assignments_of s (inner_of e.body) in
    let line = line_at s.tokens e.first in
    let head = lexemes_at s e in
    let one = both_ok (at_statement e.first (outline_at s top e))
    (λ found. and_then (action_of found r inner) (λ does. Ok (on_line line does))) stmt is in
    let two = both_ok (action_of one.given r inner) (λ does. Ok (on_line line does)) stmt one.made in
    let found = said_at e.first (outline_at s top e) one.given one.met in
    let fits = says_unlabelled top (is_some e.body) (unlabelled head) one.given found in
    let lined = first_line s lexed.lines e (has_keyword top (is_some e.body) head one.given found) in
    let same : on_line line two.given ≡ stmt = cc in
    subst (λ (x : PatStmt). is_stmt top x ≡ true) same
    (and_from (is_line line) (is_action top two.given) lined
    (action_fits top one.given r inner two.given fits (assigned_fit s lexed (inner_of e.body)) fit two.met))

-- one more statement, or one that is skipped
one_fits : (s : Setting) → AreLexed s → (top b : Bool) (before : List PatStmt) (e : Entry) (inner : Result (List PatStmt) FormFault)
    (rest : List PatStmt → Result (List PatStmt) FormFault) (read : List PatStmt) → FitInner inner
    → ((next : List PatStmt) → list_all (is_stmt top) next ≡ true → rest next ≡ Ok read → list_all (is_stmt top) read ≡ true)
    → list_all (is_stmt top) before ≡ true
    → cond b (rest before) (and_then (judge_statement s top e inner) (λ stmt. rest (before ++ stmt ∷ []))) ≡ Ok read
    → list_all (is_stmt top) read ≡ true
one_fits s lexed top true before e inner rest read fit later all is = later before all is
one_fits s lexed top false before e inner rest read fit later all is =
    let both = both_ok (judge_statement s top e inner) (λ stmt. rest (before ++ stmt ∷ [])) read is in
    later (before ++ both.given ∷ [])
    (list_all-one (is_stmt top) before both.given all (statement_fits s lexed top e inner both.given fit both.met)) both.made

-- no statements
fit_none : FitInner (Ok [])
fit_none stmts is = let same : ◌≡◌ {A = List PatStmt} [] stmts = cc in subst (λ (xs : List PatStmt). list_all (is_stmt false) xs ≡ true) same refl

-- the statements of a body
body_fits : (s : Setting) → AreLexed s → (top : Bool) (before : List PatStmt) (t : Trees) (read : List PatStmt)
    → list_all (is_stmt top) before ≡ true → body_from s top before t ≡ Ok read → list_all (is_stmt top) read ≡ true
body_fits s lexed top before end read all is =
    let same : before ≡ read = cc in subst (λ (xs : List PatStmt). list_all (is_stmt top) xs ≡ true) same all
body_fits s lexed top before (plain first count more) read all is =
    let e : Entry = record { first = first; count = count; body = None } in
    one_fits s lexed top (is_skipped s.words (lexemes_at s e)) before e (Ok []) (λ next. body_from s top next more) read
    fit_none (λ next. body_fits s lexed top next more read) all is
body_fits s lexed top before (block first count inside more) read all is =
    let e : Entry = record { first = first; count = count; body = Some inside } in
    one_fits s lexed top (is_skipped s.words (lexemes_at s e)) before e (body_from s false [] inside)
    (λ next. body_from s top next more) read (λ stmts inner. body_fits s lexed false [] inside stmts refl inner)
    (λ next. body_fits s lexed top next more read) all is

-- a body
pub bodies_have_form : (s : Setting) (here : BodyPlace) (t : Trees) (w : Written) → AreLexed s → body_of s here t ≡ Ok w
    → is_body (is_pattern here) w ≡ true
bodies_have_form s here t w lexed is =
    let top = is_pattern here in
    let both = both_ok (body_from s top [] t) (λ read. Ok (written_of read)) w is in
    let same : written_of both.given ≡ w = cc in
    subst (λ (x : Written). is_body top x ≡ true) same
    (fit_body top both.given (body_fits s lexed top [] t both.given refl both.met))
