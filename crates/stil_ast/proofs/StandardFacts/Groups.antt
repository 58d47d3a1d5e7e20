-- Group expressions by their spelling.
use Rattle.std.proofs.Common.{◌≡◌, ℕ, Bool, true, false, List, [], ◌∷◌, Option, Some, None, refl, sym, ◌∙◌, codes}
use Rattle.text_bytes.specs.Bytes.{begins_name, is_blank, is_digit, is_printable, is_word}
use Rattle.stil_ast.specs.Meaning.GroupText.{Term, SpellsTerms}
use Rattle.stil_ast.specs.Meaning.GroupReading.{terms_of}
use Rattle.stil_ast.proofs.GroupLemmas.{terms_are_spelled}
use Rattle.stil_ast.specs.declared.name.IndexRange.{IndexRange}

abbrev term : Bool → List ℕ → Option IndexRange → Term
term adds name range = record { adds = adds; item = record { name = name; range = range } }

abbrev range : ℕ → ℕ → Option IndexRange
range first last = Some (record { first = first; last = last })

-- blanks stand between lexemes, line feeds too; a name may stand in quotes; indices are numbers
pub three_items : SpellsTerms (codes "a +\n\"b c\"[ 3 . . 01 ]- d[7]")
    (term true (codes "a") None ∷ term true (codes "b c") (range 3 1) ∷ term false (codes "d") (range 7 7) ∷ [])
unfolding begins_name is_blank is_digit is_printable is_word
three_items = (terms_are_spelled _ _).1 refl

-- a text that spells nothing
abbrev SpellsNothing : List ℕ → Type 0
SpellsNothing text = (terms : List Term) → SpellsTerms text terms → ⊥

nothing_found : (text : List ℕ) → terms_of text ≡ None → SpellsNothing text
nothing_found text e = λ terms s. let clash : ◌≡◌ {A = Option (List Term)} None (Some terms) = sym e ∙ (terms_are_spelled text terms).0 s in cc

-- no text at all, a sign in front, two signs, two names, a comment, a digit in front, and an index beyond 32 bits
pub empty_text : SpellsNothing []
empty_text = nothing_found [] refl

pub sign_in_front : SpellsNothing (codes "+a")
unfolding begins_name is_blank is_digit is_printable is_word
sign_in_front = nothing_found _ refl

pub two_signs : SpellsNothing (codes "a + - b")
unfolding begins_name is_blank is_digit is_printable is_word
two_signs = nothing_found _ refl

pub two_names : SpellsNothing (codes "a b")
unfolding begins_name is_blank is_digit is_printable is_word
two_names = nothing_found _ refl

pub comment : SpellsNothing (codes "a /*b*/ + c")
unfolding begins_name is_blank is_digit is_printable is_word
comment = nothing_found _ refl

pub digit_in_front : SpellsNothing (codes "1a")
unfolding begins_name is_blank is_digit is_printable is_word
digit_in_front = nothing_found _ refl

pub wide_index : SpellsNothing (codes "a[4294967296]")
unfolding begins_name is_blank is_digit is_printable is_word
wide_index = nothing_found _ refl

pub open_name : SpellsNothing (codes "a + \"b")
unfolding begins_name is_blank is_digit is_printable is_word
open_name = nothing_found _ refl
