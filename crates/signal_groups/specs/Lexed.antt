-- How the code holds the lexemes and the items of a group's text while it reads them.
use Rattle.std.specs.Prelude.{ℕ, ◌≡◌, ◌≤◌, Vec, drop, Bool, true, false, List, ◌++◌, Option, Some, None, slice_range, map}
use Rattle.std.specs.declared.alloc.Global.{Global}
use Rattle.stil_ast.specs.Meaning.GroupText.{Lexeme, word, quoted, plus, minus, opens, closes, dot, stray, Term}
use Rattle.stil_ast.specs.Meaning.GroupReading.{Kind, of_word, of_quote, of_blank, of_sign, Within, between, in_word, in_quotes, terms_from}
use Rattle.stil_ast.specs.declared.name.NameRef.{NameRef}
use Rattle.signal_groups.specs.declared.lexeme.ByteKind.{ByteKind}
use Rattle.signal_groups.specs.declared.lexeme.ByteKind.TheVariants as kinds
use Rattle.signal_groups.specs.declared.lexeme.Lexeme.{Lexeme as Held}
use Rattle.signal_groups.specs.declared.lexeme.Lexeme.TheVariants as held
use Rattle.signal_groups.specs.declared.lexeme.Place.{Place}
use Rattle.signal_groups.specs.declared.lexeme.Place.TheVariants as places
use Rattle.signal_groups.specs.declared.term.Item.{Item}
use Rattle.signal_groups.specs.declared.term.HeldTerm.{HeldTerm}
use Rattle.signal_groups.specs.declared.term.Reading.{Reading}

-- the kind of a byte
abbrev pub kind_in : ByteKind → Kind
kind_in kinds.Word = of_word
kind_in kinds.Quote = of_quote
kind_in kinds.Blank = of_blank
kind_in kinds.Sign = of_sign

-- a lexeme
abbrev pub lexeme_of : Held → Lexeme
lexeme_of (held.Word bytes) = word bytes.now
lexeme_of (held.Quoted bytes) = quoted bytes.now
lexeme_of held.Plus = plus
lexeme_of held.Minus = minus
lexeme_of held.Opens = opens
lexeme_of held.Closes = closes
lexeme_of held.Dot = dot
lexeme_of held.Stray = stray

-- where the byte at a place stands
abbrev pub place_at : List ℕ → ℕ → Place → Within
place_at text at places.Between = between
place_at text at (places.InWord start) = in_word (slice_range text start at)
place_at text at (places.InQuotes start) = in_quotes (slice_range text start at)

-- a word and a name begin no later than they end
abbrev pub IsBehind : ℕ → Place → Type 0
IsBehind at places.Between = Unit {0}
IsBehind at (places.InWord start) = start ≤ at
IsBehind at (places.InQuotes start) = start ≤ at

-- an item
abbrev pub name_ref : Item → NameRef
name_ref item = record { name = item.name.now; range = item.range }

-- an item with its sign
abbrev pub term_of : HeldTerm → Term
term_of t = record { adds = t.adds; item = name_ref t.item }

-- these items, and then those that follow, if they do
abbrev pub behind : Bool → List Term → Option (List Term) → Option (List Term)
behind false terms more = None
behind true terms None = None
behind true terms (Some more) = Some (terms ++ more)

-- what is read of these lexemes, and what is to be read from a place on
abbrev pub left_of : List Term → List Lexeme → ℕ → Reading → Option (List Term)
left_of terms lexemes at reading =
    behind reading.good terms (terms_from reading.adds (slice_range lexemes reading.start at) (drop at lexemes))

-- the items that are held, if there are any
abbrev pub held_terms : Option (Vec HeldTerm Global) → Option (List Term)
held_terms None = None
held_terms (Some terms) = Some (map term_of terms.items)

-- the sign `+` or `-` that a lexeme is: whether it adds
abbrev pub IsSign : Lexeme → Option Bool → Type 0
IsSign lexeme (Some true) = lexeme ≡ plus
IsSign lexeme (Some false) = lexeme ≡ minus
IsSign lexeme None = (lexeme ≡ plus → ⊥) × (lexeme ≡ minus → ⊥)
