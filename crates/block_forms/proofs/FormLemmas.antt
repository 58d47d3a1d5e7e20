-- What readers accept has its form: names, lines and references; and what each statement keeps, all keep.
use Rattle.std.proofs.Common.{◌≡◌, ℕ, ◌<◌, List, [], ◌∷◌, ◌++◌, length, Result, Ok, Err, Bool, true, false, cond, nat_lt, nat_le, is_some, refl, subst, arith, length-append}
use Rattle.std.proofs.lemmas.Bool.{ltb-true, le-leb}
use Rattle.answers.specs.Reading.{and_then, reading, stepping}
use Rattle.stil_tree.specs.Trees.{Entry}
use Rattle.stil_form.specs.declared.fault.FormKind.{FormKind}
use Rattle.stil_form.specs.Lexeme.{Lexeme, name}
use Rattle.stil_form.specs.Setting.{Setting}
use Rattle.stil_ast.specs.Data.Texts.{is_name}
use Rattle.stil_ast.specs.Data.Forms.{is_optional_name}
use Rattle.pat_read.proofs.AcceptedLemmas.{said_at, reading-keeps}
use Rattle.pat_read.proofs.AcceptedBodies.{is_name-only_name}
use Rattle.pat_read.specs.Statements.{only_name}
use Rattle.block_forms.specs.Heads.{where_so, name_or_empty, title_of, behind_first, rest_at, named_block, titled_block}

-- what is said where a test passes
pub said_where : {X F : Type 0} (b : Bool) (r : Result X F) (fault : F) (x : X)
    → cond b r (Err fault) ≡ Ok x → (b ≡ true) × (r ≡ Ok x)
said_where true r fault x is = (refl, is)
said_where false r fault x is = cc

-- what is made where a test passes
pub made_where : {X F : Type 0} (b : Bool) (fault : F) (made x : X) → cond b (Ok made) (Err fault) ≡ Ok x
    → (b ≡ true) × (made ≡ x)
made_where true fault made x is = (refl, cc)
made_where false fault made x is = cc

-- what is said where a test fails
pub said_unless : {X F : Type 0} (b : Bool) (fault : F) (r : Result X F) (x : X) → cond b (Err fault) r ≡ Ok x
    → (b ≡ false) × (r ≡ Ok x)
said_unless true fault r x is = cc
said_unless false fault r x is = (refl, is)

-- what is made where a test fails
pub made_unless : {X F : Type 0} (b : Bool) (fault : F) (made x : X) → cond b (Err fault) (Ok made) ≡ Ok x
    → (b ≡ false) × (made ≡ x)
made_unless true fault made x is = cc
made_unless false fault made x is = (refl, cc)

-- what is said of a statement with the right end
pub said_so : {X : Type 0} (b : Bool) (r : Result X FormKind) (x : X) → where_so b r ≡ Ok x → r ≡ Ok x
said_so true r x is = is
said_so false r x is = cc

-- a step, and those behind it
keeps_on : {S E F : Type 0} (step : S → E → Result S F) (P : S → Type 0) (es : List E) (reached : S) (r : Result S F)
    → ((next : S) → r ≡ Ok next → P next) → ((next : S) → stepping step next es ≡ Ok reached → P next → P reached)
    → and_then r (λ next. stepping step next es) ≡ Ok reached → P reached
keeps_on step P es reached (Ok next) one later is = later next is (one next refl)
keeps_on step P es reached (Err fault) one later is = cc

-- what each step keeps, all keep
pub stepping-keeps : {S E F : Type 0} (step : S → E → Result S F) (P : S → Type 0)
    → ((state : S) (e : E) (next : S) → step state e ≡ Ok next → P state → P next)
    → (state : S) (es : List E) (reached : S) → stepping step state es ≡ Ok reached → P state → P reached
stepping-keeps step P one state [] reached is held =
    let same : state ≡ reached = cc in subst P same held
stepping-keeps step P one state (e ∷ es) reached is held =
    keeps_on step P es reached (step state e) (λ next stepped. one state e next stepped held)
    (λ next. stepping-keeps step P one next es reached) is

-- a limit that is judged before each item is kept
pub reading-within : {X E F : Type 0} (judge : List X → E → Result X F) (most : ℕ)
    → ((before : List X) (e : E) (x : X) → judge before e ≡ Ok x → nat_lt (length before) most ≡ true)
    → (es : List E) (read : List X) → reading judge [] es ≡ Ok read → nat_le (length read) most ≡ true
reading-within judge most one es read is =
    reading-keeps judge (λ xs. nat_le (length xs) most ≡ true)
    (λ before e x judged held. le-leb (length (before ++ x ∷ [])) most
    (let room = ltb-true (length before) most (one before e x judged) in
    omega (arith, room, length-append before (x ∷ [])))) [] es read is (le-leb 0 most (omega arith))

-- a name is one that may be left away
pub is_optional_name-name : (called : List ℕ) → is_name called ≡ true → is_optional_name called ≡ true
is_optional_name-name [] is = refl
is_optional_name-name (c ∷ cs) is = is

-- no name
abbrev nameless : Result (List ℕ) FormKind
nameless = Ok []

optional_empty : (called : List ℕ) → nameless ≡ Ok called → is_optional_name called ≡ true
optional_empty [] is = refl
optional_empty (c ∷ cs) is = cc

optional_only : (rest : List Lexeme) (called : List ℕ) → only_name rest ≡ Ok called → is_optional_name called ≡ true
optional_only rest called is = is_optional_name-name called (is_name-only_name rest called is)

-- a name that may be `""`
pub is_optional_name-name_or_empty : (rest : List Lexeme) (called : List ℕ) → name_or_empty rest ≡ Ok called
    → is_optional_name called ≡ true
is_optional_name-name_or_empty (name [] ∷ []) called is = optional_empty called is
is_optional_name-name_or_empty rest called is = optional_only rest called is

-- a title
pub is_optional_name-title_of : (rest : List Lexeme) (title : List ℕ) → title_of rest ≡ Ok title
    → is_optional_name title ≡ true
is_optional_name-title_of [] title is = optional_empty title is
is_optional_name-title_of (one ∷ rest) title is = is_optional_name-name_or_empty (one ∷ rest) title is

-- the name and the title of a block
pub is_name-named_block : (s : Setting) (e : Entry) (called : List ℕ) → named_block s e ≡ Ok called → is_name called ≡ true
is_name-named_block s e called is =
    is_name-only_name (rest_at s e) called
    (said_so (is_some e.body) (only_name (rest_at s e)) called
    (said_at e.first (where_so (is_some e.body) (only_name (rest_at s e))) called is))

pub is_optional_name-titled_block : (s : Setting) (e : Entry) (title : List ℕ) → titled_block s e ≡ Ok title
    → is_optional_name title ≡ true
is_optional_name-titled_block s e title is =
    is_optional_name-title_of (rest_at s e) title
    (said_so (is_some e.body) (title_of (rest_at s e)) title
    (said_at e.first (where_so (is_some e.body) (title_of (rest_at s e))) title is))

-- behind a keyword stands a lexeme, where a reader says so
pub behind_keyword : {X : Type 0} (read : List Lexeme → Result X FormKind) (head : List Lexeme) (x : X)
    → ((other : X) → read [] ≡ Ok other → ⊥) → read (behind_first head) ≡ Ok x → 1 < length head
behind_keyword read [] x none is = elim (none x is) [ ]
behind_keyword read (one ∷ []) x none is = elim (none x is) [ ]
behind_keyword read (one ∷ two ∷ rest) x none is = omega arith
