-- Lexemes are cut into items at their signs, in one way alone.
use Rattle.std.proofs.Common.{◌≡◌, ℕ, Bool, true, false, List, [], ◌∷◌, ◌++◌, Option, Some, None, refl, sym, ap, subst, ◌∙◌, append_assoc, append-nil}
use Rattle.stil_ast.specs.Meaning.GroupText.{Lexeme, word, quoted, plus, minus, opens, closes, dot, stray, item_name, item_index, range_to, range_from, range_behind, item_with, item_of, Term, sign_before, AreTerms, one_item, more_items}
use Rattle.stil_ast.specs.Meaning.GroupReading.{with_item, terms_from}
use Rattle.stil_ast.specs.declared.name.IndexRange.{IndexRange}
use Rattle.stil_ast.specs.declared.name.NameRef.{NameRef}

-- a lexeme that may be a name
pub data NameShape : Lexeme → Type 0 where
  bare : (bytes : List ℕ) → NameShape (word bytes)
  in_quotes : (bytes : List ℕ) → NameShape (quoted bytes)

-- the lexemes of an item
pub data ItemShape : List Lexeme → Type 0 where
  alone : (name : Lexeme) → NameShape name → ItemShape (name ∷ [])
  with_index : (name : Lexeme) → NameShape name → (index : List ℕ) → ItemShape (name ∷ opens ∷ word index ∷ closes ∷ [])
  with_range : (name : Lexeme) → NameShape name → (first last : List ℕ)
      → ItemShape (name ∷ opens ∷ word first ∷ dot ∷ dot ∷ word last ∷ closes ∷ [])

-- nothing is something
pub none_is_some : {A B : Type 0} (x : A) → ◌≡◌ {A = Option A} None (Some x) → B
none_is_some x e = cc

name_shape : (l : Lexeme) (name : List ℕ) → item_name l ≡ Some name → NameShape l
name_shape (word bytes) name e = bare bytes
name_shape (quoted bytes) name e = in_quotes bytes
name_shape plus name e = none_is_some name e
name_shape minus name e = none_is_some name e
name_shape opens name e = none_is_some name e
name_shape closes name e = none_is_some name e
name_shape dot name e = none_is_some name e
name_shape stray name e = none_is_some name e

-- indices that are both there, of lexemes that are words
pub data IndexShape : Lexeme → Type 0 where
  an_index : (bytes : List ℕ) → IndexShape (word bytes)

index_shape : (l : Lexeme) (n : ℕ) → item_index l ≡ Some n → IndexShape l
index_shape (word bytes) n e = an_index bytes
index_shape (quoted bytes) n e = none_is_some n e
index_shape plus n e = none_is_some n e
index_shape minus n e = none_is_some n e
index_shape opens n e = none_is_some n e
index_shape closes n e = none_is_some n e
index_shape dot n e = none_is_some n e
index_shape stray n e = none_is_some n e

both_there : (first last : Lexeme) (i j : Option ℕ) (r : Option IndexRange) → item_index first ≡ i → item_index last ≡ j
    → range_to i j ≡ Some r → IndexShape first × IndexShape last
both_there first last None j r p q e = none_is_some r e
both_there first last (Some n) None r p q e = none_is_some r e
both_there first last (Some n) (Some m) r p q e = (index_shape first n p, index_shape last m q)

one_index : (name : Lexeme) → NameShape name → (first : Lexeme) → IndexShape first
    → ItemShape (name ∷ opens ∷ first ∷ closes ∷ [])
one_index name shape _ (an_index bytes) = with_index name shape bytes

two_indices : (name : Lexeme) → NameShape name → (first last : Lexeme) → IndexShape first → IndexShape last
    → ItemShape (name ∷ opens ∷ first ∷ dot ∷ dot ∷ last ∷ closes ∷ [])
two_indices name shape _ _ (an_index bytes) (an_index more) = with_range name shape bytes more

from_shape : (name : Lexeme) → NameShape name → (first : Lexeme) (rest : List Lexeme) (r : Option IndexRange)
    → range_from first rest ≡ Some r → ItemShape (name ∷ opens ∷ first ∷ rest)
from_shape name shape first (closes ∷ []) r e =
    let both = both_there first first (item_index first) (item_index first) r refl refl e in one_index name shape first both.0
from_shape name shape first (dot ∷ dot ∷ last ∷ closes ∷ []) r e =
    let both = both_there first last (item_index first) (item_index last) r refl refl e in
    two_indices name shape first last both.0 both.1
from_shape name shape first _ r e = none_is_some r e

range_shape : (name : Lexeme) → NameShape name → (rest : List Lexeme) (r : Option IndexRange) → range_behind rest ≡ Some r
    → ItemShape (name ∷ rest)
range_shape name shape [] r e = alone name shape
range_shape name shape (opens ∷ first ∷ rest) r e = from_shape name shape first rest r e
range_shape name shape _ r e = none_is_some r e

with_shape : (l : Lexeme) (rest : List Lexeme) (name : Option (List ℕ)) (range : Option (Option IndexRange)) (item : NameRef)
    → item_name l ≡ name → range_behind rest ≡ range → item_with name range ≡ Some item
    → ItemShape (l ∷ rest)
with_shape l rest None range item p q e = none_is_some item e
with_shape l rest (Some name) None item p q e = none_is_some item e
with_shape l rest (Some name) (Some range) item p q e = range_shape l (name_shape l name p) rest range q

-- the lexemes of an item have its shape
pub item_shape : (ls : List Lexeme) (item : NameRef) → item_of ls ≡ Some item → ItemShape ls
item_shape [] item e = none_is_some item e
item_shape (l ∷ rest) item e = with_shape l rest (item_name l) (range_behind rest) item refl refl e

-- an item is read up to its end
up_to_end : (ls : List Lexeme) → ItemShape ls → (adds : Bool) (rest : List Lexeme)
    → terms_from adds [] (ls ++ rest) ≡ terms_from adds ls rest
up_to_end _ (alone _ (bare w)) adds rest = refl
up_to_end _ (alone _ (in_quotes w)) adds rest = refl
up_to_end _ (with_index _ (bare w) i) adds rest = refl
up_to_end _ (with_index _ (in_quotes w) i) adds rest = refl
up_to_end _ (with_range _ (bare w) i j) adds rest = refl
up_to_end _ (with_range _ (in_quotes w) i j) adds rest = refl

at_sign : (adds next : Bool) (ls rest : List Lexeme)
    → terms_from adds ls (sign_before next ∷ rest) ≡ with_item adds (item_of ls) (terms_from next [] rest)
at_sign adds true ls rest = refl
at_sign adds false ls rest = refl

-- items are found where they stand
pub are_found : (adds : Bool) (terms : List Term) (ls : List Lexeme) → AreTerms adds terms ls
    → terms_from adds [] ls ≡ Some terms
are_found _ _ _ (one_item adds item ls is) =
    ap (terms_from adds []) (sym (append-nil ls)) ∙ up_to_end ls (item_shape ls item is) adds []
    ∙ ap (λ (i : Option NameRef). with_item adds i (Some [])) is
are_found _ _ _ (more_items adds item front next more rest is are) =
    up_to_end front (item_shape front item is) adds (sign_before next ∷ rest) ∙ at_sign adds next front rest
    ∙ ap (λ (i : Option NameRef). with_item adds i (terms_from next [] rest)) is
    ∙ ap (with_item adds (Some item)) (are_found next more rest are)

-- what is found stands there
last_found : (adds : Bool) (ls : List Lexeme) (i : Option NameRef) (terms : List Term) → item_of ls ≡ i
    → with_item adds i (Some []) ≡ Some terms → AreTerms adds terms ls
last_found adds ls None terms is e = none_is_some terms e
last_found adds ls (Some item) terms is e =
    let same : record { adds = adds; item = item } ∷ [] ≡ terms = cc in
    subst (λ (ts : List Term). AreTerms adds ts ls) same (one_item adds item ls is)

sign_found : (adds next : Bool) (ls rest : List Lexeme) (i : Option NameRef) (found : Option (List Term)) (terms : List Term)
    → item_of ls ≡ i → ((more : List Term) → found ≡ Some more → AreTerms next more rest)
    → with_item adds i found ≡ Some terms → AreTerms adds terms (ls ++ sign_before next ∷ rest)
sign_found adds next ls rest None found terms is behind e = none_is_some terms e
sign_found adds next ls rest (Some item) None terms is behind e = none_is_some terms e
sign_found adds next ls rest (Some item) (Some more) terms is behind e =
    let same : record { adds = adds; item = item } ∷ more ≡ terms = cc in
    subst (λ (ts : List Term). AreTerms adds ts (ls ++ sign_before next ∷ rest)) same
    (more_items adds item ls next more rest is (behind more refl))

found_behind : (adds : Bool) (front ls : List Lexeme) (terms : List Term) → terms_from adds front ls ≡ Some terms
    → AreTerms adds terms (front ++ ls)
found_behind adds front [] terms e =
    subst (AreTerms adds terms) (sym (append-nil front)) (last_found adds front (item_of front) terms refl e)
found_behind adds front (plus ∷ rest) terms e =
    sign_found adds true front rest (item_of front) (terms_from true [] rest) terms refl (λ more is. found_behind true [] rest more is) e
found_behind adds front (minus ∷ rest) terms e =
    sign_found adds false front rest (item_of front) (terms_from false [] rest) terms refl (λ more is. found_behind false [] rest more is) e
found_behind adds front (l ∷ rest) terms e =
    subst (AreTerms adds terms) (append_assoc front (l ∷ []) rest) (found_behind adds (front ++ l ∷ []) rest terms e)

pub found_are : (ls : List Lexeme) (terms : List Term) → terms_from true [] ls ≡ Some terms → AreTerms true terms ls
found_are ls terms e = found_behind true [] ls terms e
