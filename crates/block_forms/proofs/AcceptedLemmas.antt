-- What each statement with a line keeps, all keep.
use Rattle.std.proofs.Common.{◌≡◌, Bool, true, false, cond, not, List, [], ◌∷◌, ◌++◌, Option, Some, None, Result, Ok, subst, filter}
use Rattle.std.specs.List.{AllByRecursion, list_all}
use Rattle.answers.specs.Reading.{and_then, reading, stepping}
use Rattle.stil_tree.specs.Trees.{Trees, Entry, end, plain, block, entries}
use Rattle.stil_form.specs.Setting.{Setting, lexemes_at, line_at, inner_of, unskipped}
use Rattle.stil_form.specs.Reading.{is_skipped}
use Rattle.stil_ast.specs.Data.Forms.{is_line}
use Rattle.pat_read.proofs.AcceptedLemmas.{both_ok, list_all-one}
use Rattle.block_forms.specs.Heads.{trees_in}

-- one step after another: both are taken
pub both_taken : {X Y F : Type 0} (r : Result X F) (next : X → Result Y F) (y : Y)
    → and_then r next ≡ Ok y → (x : X) × (r ≡ Ok x) × (next x ≡ Ok y)
both_taken r next y is = let both = both_ok r next y is in (both.given, both.met, both.made)

-- a fact that each step keeps holds at the end
pub kept : {S E F : Type 0} (step : S → E → Result S F) (P : S → Type 0) (Q : E → Type 0)
    (each : (state next : S) (e : E) → Q e → P state → step state e ≡ Ok next → P next)
    (start final : S) (es : List E) → AllByRecursion Q es → P start → stepping step start es ≡ Ok final → P final
kept step P Q each start final [] all holds is = let same : start ≡ final = cc in subst P same holds
kept step P Q each start final (e ∷ es) all holds is =
    let parts = both_taken (step start e) (λ next. stepping step next es) final is in
    kept step P Q each parts.0 final es all.1 (each start parts.0 e all.0 holds parts.1) parts.2

-- the statement's first token has a line
abbrev pub HasLine : Setting → Entry → Type 0
HasLine s e = is_line (line_at s.tokens e.first) ≡ true

-- each statement of trees does, at any depth
abbrev pub HaveLines : Setting → Trees → Type 0
HaveLines s end = Unit {0}
HaveLines s (plain first count more) = (is_line (line_at s.tokens first) ≡ true) × HaveLines s more
HaveLines s (block first count inside more) =
    (is_line (line_at s.tokens first) ≡ true) × HaveLines s inside × HaveLines s more

-- a statement that has a line, as all in its block do
abbrev pub IsLined : Setting → Entry → Type 0
IsLined s e = HasLine s e × HaveLines s (trees_in e.body)

-- the statements of trees have lines, as all in their blocks do
pub each_lined : (s : Setting) (t : Trees) → HaveLines s t → AllByRecursion (IsLined s) (entries t)
each_lined s end lined = tt
each_lined s (plain first count more) lined = ((lined.0, tt), each_lined s more lined.1)
each_lined s (block first count inside more) lined = ((lined.0, lined.1), each_lined s more lined.2)

-- the same of the statements of a block
in_block : (s : Setting) (body : Option Trees) → HaveLines s (trees_in body) → AllByRecursion (IsLined s)
    (inner_of body)
in_block s None lined = tt
in_block s (Some t) lined = each_lined s t lined

-- what holds of each holds of each that is kept
kept_or_not : {X : Type 0} (Q : X → Type 0) (b : Bool) (x : X) (xs : List X) → Q x → AllByRecursion Q xs
    → AllByRecursion Q (cond b (x ∷ xs) xs)
kept_or_not Q true x xs one all = (one, all)
kept_or_not Q false x xs one all = all

of_filtered : {X : Type 0} (p : X → Bool) (Q : X → Type 0) (xs : List X) → AllByRecursion Q xs
    → AllByRecursion Q (filter p xs)
of_filtered p Q [] all = tt
of_filtered p Q (x ∷ xs) all = kept_or_not Q (p x) x (filter p xs) all.0 (of_filtered p Q xs all.1)

-- the same of those that are not skipped
pub inner_lined : (s : Setting) (e : Entry) → IsLined s e → AllByRecursion (IsLined s)
    (unskipped s (inner_of e.body))
inner_lined s e lined =
    of_filtered (λ (x : Entry). not (is_skipped s.words (lexemes_at s x))) (IsLined s) (inner_of e.body) (in_block s e.body lined.1)

-- what is read of each statement passes
pub kept_each : {X E F : Type 0} (judge : List X → E → Result X F) (p : X → Bool) (Q : E → Type 0)
    (each : (before : List X) (e : E) (x : X) → Q e → judge before e ≡ Ok x → p x ≡ true)
    (before read : List X) (es : List E) → AllByRecursion Q es → list_all p before ≡ true
    → reading judge before es ≡ Ok read → list_all p read ≡ true
kept_each judge p Q each before read [] all passes is =
    let same : before ≡ read = cc in subst (λ xs. list_all p xs ≡ true) same passes
kept_each judge p Q each before read (e ∷ es) all passes is =
    let parts = both_taken (judge before e) (λ x. reading judge (before ++ x ∷ []) es) read is in
    kept_each judge p Q each (before ++ parts.0 ∷ []) read es all.1
    (list_all-one p before parts.0 passes (each before e parts.0 all.0 parts.1)) parts.2

-- a fact that each statement keeps holds of what is read
pub kept_read : {X E F : Type 0} (judge : List X → E → Result X F) (P : List X → Type 0) (Q : E → Type 0)
    (each : (before : List X) (e : E) (x : X) → Q e → P before → judge before e ≡ Ok x → P (before ++ x ∷ []))
    (before read : List X) (es : List E) → AllByRecursion Q es → P before → reading judge before es ≡ Ok read
    → P read
kept_read judge P Q each before read [] all holds is = let same : before ≡ read = cc in subst P same holds
kept_read judge P Q each before read (e ∷ es) all holds is =
    let parts = both_taken (judge before e) (λ x. reading judge (before ++ x ∷ []) es) read is in
    kept_read judge P Q each (before ++ parts.0 ∷ []) read es all.1 (each before e parts.0 all.0 holds parts.1) parts.2
