-- Data that are read are waveform characters, `#` and `%`, where the words of the text are of letters, digits and `_`.
use Rattle.std.proofs.Common.{◌≡◌, ℕ, zero, suc, ◌==◌, ◌||◌, List, [], ◌∷◌, ◌++◌, map, replicate, Result, Ok, Err, Option, Some, None, Bool, true, false, cond, nat_le, refl, subst, ◌∙◌}
use Rattle.std.specs.List.{list_all, list_any}
use Rattle.std.proofs.lemmas.Bool.{and_parts, and_from, or_parts}
use Rattle.std.proofs.lemmas.List.Folds.{list_all-append}
use Rattle.text_bytes.specs.Bytes.{is_word, is_character}
use Rattle.text_bytes.specs.Limits.{most_repeats}
use Rattle.stil_lex.specs.declared.token.Token.{Token}
use Rattle.stil_form.specs.declared.fault.FormKind.{FormKind}
use Rattle.stil_form.specs.declared.fault.FormKind.TheVariants.{Shape, LeftOut, OutOfRange}
use Rattle.stil_form.specs.declared.part.SignKind.TheVariants as mark
use Rattle.stil_form.specs.Lexeme.{Lexeme, word, name, text, sign, lexeme_at}
use Rattle.stil_ast.specs.Meaning.Statements.{Item, a_character, hash, percent}
use Rattle.stil_ast.specs.Data.Forms.{is_item}
use Rattle.pat_read.specs.declared.data.Awaited.{Awaited}
use Rattle.pat_read.specs.declared.data.Awaited.TheVariants as awaited
use Rattle.pat_read.specs.Data.{has_underscore, times_by, is_left_out, unit_of, item_said, word_behind, repeat_said, unit_said, token_said, said_by, behind, data_from, data_of}
use Rattle.pat_read.specs.Accepted.{is_spelled, AreSpelled}
use Rattle.pat_read.proofs.AcceptedLemmas.{both_ok}

-- what a token says, without a fault, is items
abbrev SaysItems : Result (List Item × Awaited) FormKind → Type 0
SaysItems r = (said : List Item × Awaited) → r ≡ Ok said → list_all is_item said.0 ≡ true

-- these items, whatever is awaited behind them
items_said : (items : List Item) (next : Awaited) → list_all is_item items ≡ true → SaysItems (Ok (items, next))
items_said items next all said is =
    let same : (items, next) ≡ said = cc in subst (λ (s : List Item × Awaited). list_all is_item s.0 ≡ true) same all

-- nothing is said at a fault
nothing_said : (kind : FormKind) → SaysItems (Err kind)
nothing_said kind said is = cc

-- a letter, a digit or `_`, and no `_`
without_last : (x u : Bool) → (x || u) ≡ true → u ≡ false → x ≡ true
without_last true u is none = refl
without_last false true is none = cc
without_last false false is none = cc

is_character-word : (c : ℕ) → is_word c ≡ true → (c == 95) ≡ false → is_character c ≡ true
unfolding is_word is_character
is_character-word c is none = without_last (is_character c) (c == 95) is none

-- the characters of a word
characters_fit : (bytes : List ℕ) → list_all is_word bytes ≡ true → has_underscore bytes ≡ false
    → list_all is_item (map a_character bytes) ≡ true
characters_fit [] all none = refl
characters_fit (c ∷ cs) all none =
    let each = and_parts (is_word c) (list_all is_word cs) all in
    let apart = or_parts (c == 95) (list_any (λ byte. byte == 95) cs) none in
    and_from (is_character c) (list_all is_item (map a_character cs)) (is_character-word c each.0 apart.0) (characters_fit cs each.1 apart.1)

word_said : (bytes : List ℕ) (b : Bool) → has_underscore bytes ≡ b → list_all is_word bytes ≡ true
    → SaysItems (cond b (Err Shape) (Ok (map a_character bytes, awaited.Item)))
word_said bytes true is all = nothing_said Shape
word_said bytes false is all = items_said (map a_character bytes) awaited.Item (characters_fit bytes all is)

item_fits : (one : Lexeme) (end : ℕ) → is_spelled one ≡ true → SaysItems (item_said one end)
item_fits (word bytes) end all = word_said bytes (has_underscore bytes) refl all
item_fits (name bytes) end all = nothing_said Shape
item_fits (text bytes) end all = nothing_said Shape
item_fits (sign mark.Hash) end all = items_said (hash ∷ []) awaited.Item refl
item_fits (sign mark.Percent) end all = items_said (percent ∷ []) awaited.Item refl
item_fits (sign mark.Backslash) end all = items_said [] (awaited.Repeat end) refl
item_fits (sign mark.Open) end all = nothing_said Shape
item_fits (sign mark.Close) end all = nothing_said Shape
item_fits (sign mark.Dot) end all = nothing_said Shape
item_fits (sign mark.Equals) end all = nothing_said Shape
item_fits (sign mark.Slash) end all = nothing_said Shape
item_fits (sign mark.Colon) end all = nothing_said Shape
item_fits (sign mark.Plus) end all = nothing_said Shape
item_fits (sign mark.Minus) end all = nothing_said Shape
item_fits (sign mark.Bang) end all = nothing_said Shape
item_fits (sign (mark.Other byte)) end all = nothing_said Shape

-- behind a `\` no item is said
left_or_shape : (b : Bool) → SaysItems (cond b (Err LeftOut) (Err Shape))
left_or_shape true = nothing_said LeftOut
left_or_shape false = nothing_said Shape

word_behind-fits : (adjacent : Bool) (bytes : List ℕ) (o : Option ℕ) → SaysItems (word_behind adjacent bytes o)
word_behind-fits true bytes (Some times) = items_said [] (awaited.OfUnit times) refl
word_behind-fits true bytes None = left_or_shape (is_left_out bytes)
word_behind-fits false bytes (Some times) = left_or_shape (is_left_out bytes)
word_behind-fits false bytes None = left_or_shape (is_left_out bytes)

repeat_fits : (adjacent : Bool) (one : Lexeme) → SaysItems (repeat_said adjacent one)
repeat_fits adjacent (word bytes) = word_behind-fits adjacent bytes (times_by bytes)
repeat_fits adjacent (name bytes) = nothing_said Shape
repeat_fits adjacent (text bytes) = nothing_said Shape
repeat_fits adjacent (sign kind) = nothing_said Shape

-- a unit, which stands so often
abbrev IsUnit : Option Item → Type 0
IsUnit o = (item : Item) → o ≡ Some item → is_item item ≡ true

a_unit : (item : Item) → is_item item ≡ true → IsUnit (Some item)
a_unit item fits other is = let same : item ≡ other = cc in subst (λ (x : Item). is_item x ≡ true) same fits

no_unit : IsUnit None
no_unit item is = cc

character_unit : (byte : ℕ) (b : Bool) → (byte == 95) ≡ b → is_word byte ≡ true → IsUnit (cond b None (Some (a_character byte)))
character_unit byte true is fits = no_unit
character_unit byte false is fits = a_unit (a_character byte) (is_character-word byte fits is)

unit_fits : (one : Lexeme) → is_spelled one ≡ true → IsUnit (unit_of one)
unit_fits (word []) all = no_unit
unit_fits (word (byte ∷ [])) all = character_unit byte (byte == 95) refl (and_parts (is_word byte) true all).0
unit_fits (word (byte ∷ next ∷ bytes)) all = no_unit
unit_fits (name bytes) all = no_unit
unit_fits (text bytes) all = no_unit
unit_fits (sign mark.Hash) all = a_unit hash refl
unit_fits (sign mark.Percent) all = a_unit percent refl
unit_fits (sign mark.Backslash) all = no_unit
unit_fits (sign mark.Open) all = no_unit
unit_fits (sign mark.Close) all = no_unit
unit_fits (sign mark.Dot) all = no_unit
unit_fits (sign mark.Equals) all = no_unit
unit_fits (sign mark.Slash) all = no_unit
unit_fits (sign mark.Colon) all = no_unit
unit_fits (sign mark.Plus) all = no_unit
unit_fits (sign mark.Minus) all = no_unit
unit_fits (sign mark.Bang) all = no_unit
unit_fits (sign (mark.Other byte)) all = no_unit

repeated : (times : ℕ) (item : Item) → is_item item ≡ true → list_all is_item (replicate times item) ≡ true
repeated zero item fits = refl
repeated (suc times) item fits = and_from (is_item item) (list_all is_item (replicate times item)) fits (repeated times item fits)

not_too_often : (times : ℕ) (item : Item) (b : Bool) → is_item item ≡ true
    → SaysItems (cond b (Ok (replicate times item, awaited.Item)) (Err OutOfRange))
not_too_often times item true fits = items_said (replicate times item) awaited.Item (repeated times item fits)
not_too_often times item false fits = nothing_said OutOfRange

unit_said-fits : (times : ℕ) (o : Option Item) → IsUnit o → SaysItems (unit_said times o)
unit_said-fits times None fits = nothing_said Shape
unit_said-fits times (Some item) fits = not_too_often times item (nat_le times most_repeats) (fits item refl)

-- what a token says
token_fits : (wanted : Awaited) (one : Lexeme) (start end : ℕ) → is_spelled one ≡ true
    → SaysItems (token_said wanted one start end)
token_fits awaited.Item one start end all = item_fits one end all
token_fits (awaited.Repeat place) one start end all = repeat_fits (start == place) one
token_fits (awaited.OfUnit times) one start end all = unit_said-fits times (unit_of one) (unit_fits one all)

-- nothing stands where data end
ended_fits : (wanted : Awaited) (items : List Item) (bytes : List ℕ) → data_from bytes wanted [] ≡ Ok items
    → list_all is_item items ≡ true
ended_fits awaited.Item [] bytes is = refl
ended_fits awaited.Item (item ∷ items) bytes is = cc
ended_fits (awaited.Repeat place) items bytes is = cc
ended_fits (awaited.OfUnit times) items bytes is = cc

-- the items of tokens
from_fits : (bytes : List ℕ) (wanted : Awaited) (tokens : List Token) (items : List Item) → AreSpelled bytes tokens
    → data_from bytes wanted tokens ≡ Ok items → list_all is_item items ≡ true
from_fits bytes wanted [] items all is = ended_fits wanted items bytes is
from_fits bytes wanted (token ∷ tokens) items all is =
    let each = and_parts (is_spelled (lexeme_at bytes token)) (list_all (λ t. is_spelled (lexeme_at bytes t)) tokens) all in
    let front = both_ok (said_by bytes wanted token) (λ said. behind said.0 (data_from bytes said.1 tokens)) items is in
    let said = front.given in
    let rest = both_ok (data_from bytes said.1 tokens) (λ more. Ok (said.0 ++ more)) items front.made in
    let whole : said.0 ++ rest.given ≡ items = cc in
    subst (λ (xs : List Item). list_all is_item xs ≡ true) whole
    (list_all-append is_item said.0 rest.given
    ∙ and_from (list_all is_item said.0) (list_all is_item rest.given)
    (token_fits wanted (lexeme_at bytes token) token.start token.end each.0 said front.met)
    (from_fits bytes said.1 tokens rest.given each.1 rest.met))

pub data_fit : (bytes : List ℕ) (tokens : List Token) (items : List Item) → AreSpelled bytes tokens
    → data_of bytes tokens ≡ Ok items → list_all is_item items ≡ true
data_fit bytes tokens items all is = from_fits bytes awaited.Item tokens items all is
