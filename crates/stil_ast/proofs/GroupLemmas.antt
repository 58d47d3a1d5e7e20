-- The items that are found in a group's text are those that it spells.
use Rattle.std.proofs.Common.{◌≡◌, ℕ, Bool, true, false, List, [], ◌∷◌, ◌++◌, Some, refl, ap, ◌∙◌}
use Rattle.std.specs.List.{list_all}
use Rattle.stil_ast.specs.Meaning.GroupText.{Lexeme, Term, sign_before, AreTerms, one_item, more_items, SpellsTerms}
use Rattle.stil_ast.specs.Meaning.GroupReading.{between, lexemes, terms_from, terms_of, TermsAreSpelled}
use Rattle.stil_ast.proofs.GroupItems.{bare, in_quotes, ItemShape, alone, with_index, with_range, item_shape, are_found, found_are}
use Rattle.stil_ast.proofs.GroupLexemes.{is_fine, are_apart, found_are_spelled, spelled_are_found}

-- lexemes behind an item and a sign
abbrev fine : List Lexeme → Bool
fine ls = list_all is_fine ls

fine_behind : (ls : List Lexeme) → ItemShape ls → (next : Bool) (rest : List Lexeme)
    → fine (ls ++ sign_before next ∷ rest) ≡ fine rest
fine_behind _ (alone _ (bare w)) true rest = refl
fine_behind _ (alone _ (bare w)) false rest = refl
fine_behind _ (alone _ (in_quotes w)) true rest = refl
fine_behind _ (alone _ (in_quotes w)) false rest = refl
fine_behind _ (with_index _ (bare w) i) true rest = refl
fine_behind _ (with_index _ (bare w) i) false rest = refl
fine_behind _ (with_index _ (in_quotes w) i) true rest = refl
fine_behind _ (with_index _ (in_quotes w) i) false rest = refl
fine_behind _ (with_range _ (bare w) i j) true rest = refl
fine_behind _ (with_range _ (bare w) i j) false rest = refl
fine_behind _ (with_range _ (in_quotes w) i j) true rest = refl
fine_behind _ (with_range _ (in_quotes w) i j) false rest = refl

apart_behind : (ls : List Lexeme) → ItemShape ls → (next : Bool) (rest : List Lexeme)
    → are_apart (ls ++ sign_before next ∷ rest) ≡ are_apart rest
apart_behind _ (alone _ (bare w)) true rest = refl
apart_behind _ (alone _ (bare w)) false rest = refl
apart_behind _ (alone _ (in_quotes w)) true rest = refl
apart_behind _ (alone _ (in_quotes w)) false rest = refl
apart_behind _ (with_index _ (bare w) i) true rest = refl
apart_behind _ (with_index _ (bare w) i) false rest = refl
apart_behind _ (with_index _ (in_quotes w) i) true rest = refl
apart_behind _ (with_index _ (in_quotes w) i) false rest = refl
apart_behind _ (with_range _ (bare w) i j) true rest = refl
apart_behind _ (with_range _ (bare w) i j) false rest = refl
apart_behind _ (with_range _ (in_quotes w) i j) true rest = refl
apart_behind _ (with_range _ (in_quotes w) i j) false rest = refl

item_fits : (ls : List Lexeme) → ItemShape ls → (fine ls ≡ true) × (are_apart ls ≡ true)
item_fits _ (alone _ (bare w)) = (refl, refl)
item_fits _ (alone _ (in_quotes w)) = (refl, refl)
item_fits _ (with_index _ (bare w) i) = (refl, refl)
item_fits _ (with_index _ (in_quotes w) i) = (refl, refl)
item_fits _ (with_range _ (bare w) i j) = (refl, refl)
item_fits _ (with_range _ (in_quotes w) i j) = (refl, refl)

-- the lexemes of terms may all be lexemes, and no word stands directly behind a word
terms_fit : (adds : Bool) (terms : List Term) (ls : List Lexeme) → AreTerms adds terms ls
    → (fine ls ≡ true) × (are_apart ls ≡ true)
terms_fit _ _ _ (one_item adds item ls is) = item_fits ls (item_shape ls item is)
terms_fit _ _ _ (more_items adds item front next more rest is are) =
    let behind = terms_fit next more rest are in
    let shape = item_shape front item is in
    (fine_behind front shape next rest ∙ behind.0, apart_behind front shape next rest ∙ behind.1)

terms_found : (text : List ℕ) (terms : List Term) → SpellsTerms text terms → terms_of text ≡ Some terms
terms_found text terms s =
    ap (terms_from true []) (spelled_are_found s.lexemes text s.reads (terms_fit true terms s.lexemes s.are).1)
    ∙ are_found true terms s.lexemes s.are

found_spelled : (text : List ℕ) (terms : List Term) → terms_of text ≡ Some terms → SpellsTerms text terms
found_spelled text terms e =
    let are = found_are (lexemes between text) terms e in
    record {
      lexemes = lexemes between text;
      reads = found_are_spelled text (terms_fit true terms (lexemes between text) are).0;
      are = are;
    }

-- the items that are found are those that the text spells
pub terms_are_spelled : TermsAreSpelled
terms_are_spelled = λ text terms. (terms_found text terms, found_spelled text terms)
