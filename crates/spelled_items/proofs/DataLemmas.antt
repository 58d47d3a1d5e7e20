-- The items that are read of data are those that the tokens spell.
use Rattle.std.proofs.Common.{◌≡◌, ℕ, ◌==◌, not, Bool, true, false, List, [], ◌∷◌, ◌++◌, map, replicate, append_assoc, append-nil, Option, Some, None, Result, Ok, Err, cond, nat_le, T, refl, sym, ap, subst, ◌∙◌, ◌⊎◌, inl, inr}
use Rattle.std.proofs.lemmas.Bool.{eqb-true, leb-true, le-leb, leb-false, lt-leb}
use Rattle.std.proofs.Math.Dec.{eqb_refl}
use Rattle.stil_lex.specs.declared.token.Token.{Token}
use Rattle.stil_form.specs.declared.fault.FormKind.{FormKind}
use Rattle.stil_form.specs.declared.fault.FormKind.TheVariants.{Shape, LeftOut, OutOfRange}
use Rattle.stil_form.specs.declared.part.SignKind.TheVariants as mark
use Rattle.stil_form.specs.Lexeme.{Lexeme, word, name, text, sign, lexeme_at}
use Rattle.text_bytes.specs.Numbers.{number_by}
use Rattle.text_bytes.specs.Limits.{most_repeats}
use Rattle.stil_ast.specs.Meaning.Statements.{Item, a_character, hash, percent}
use Rattle.stil_ast.proofs.GroupItems.{none_is_some}
use Rattle.answers.specs.Reading.{and_then}
use Rattle.pat_read.specs.Data as words
use Rattle.pat_read.proofs.DataLemmas.{behind-append}
use Rattle.pat_read.specs.Data.{has_underscore, times_by, unit_of, item_said, word_behind, repeat_said, unit_said, behind, data_from, data_of}
use Rattle.spelled_items.specs.SpelledData.{IsUnit, hash_unit, percent_unit, character_unit, Repeats, Spells, no_items, characters, one_hash, one_percent, repeated, may_begin, is_left_out, Fails, no_beginning, nothing_behind, left_out, no_form, no_more, no_unit, too_often, StopsAt}
use Rattle.spelled_items.proofs.ChoiceLemmas.{chosen_first, chosen_second}
use Rattle.spelled_items.specs.Laws.{DataAreSpelled, DataAreRefused}

-- what is read behind what a token says
abbrev then_read : {S : Type 0} → (S → Result (List Item) FormKind) → Result (List Item × S) FormKind
    → Result (List Item) FormKind
then_read later said = and_then said (λ s. behind s.0 (later s.1))

-- a token by its lexeme, where an item is awaited
at_item : (bytes : List ℕ) (token : Token) (tokens : List Token) (one : Lexeme) → lexeme_at bytes token ≡ one
    → data_of bytes (token ∷ tokens) ≡ then_read (λ s. data_from bytes s tokens) (item_said one token.end)
at_item bytes token tokens one is = ap (λ l. then_read (λ s. data_from bytes s tokens) (item_said l token.end)) is

-- no items in front
behind-nothing : (more : Result (List Item) FormKind) → behind [] more ≡ more
behind-nothing (Ok rest) = refl
behind-nothing (Err kind) = refl

-- a `\`, and a token by its lexeme behind it
at_slash : (bytes : List ℕ) (slash next : Token) (tokens : List Token) (one : Lexeme)
    → lexeme_at bytes slash ≡ sign mark.Backslash → lexeme_at bytes next ≡ one
    → data_of bytes (slash ∷ next ∷ tokens)
    ≡ then_read (λ s. data_from bytes s tokens) (repeat_said (next.start == slash.end) one)
at_slash bytes slash next tokens one opened is =
    at_item bytes slash (next ∷ tokens) (sign mark.Backslash) opened
    ∙ behind-nothing (then_read (λ s. data_from bytes s tokens) (repeat_said (next.start == slash.end) (lexeme_at bytes next)))
    ∙ ap (λ l. then_read (λ s. data_from bytes s tokens) (repeat_said (next.start == slash.end) l)) is

-- a number is itself
same_number : (b : Bool) → T b → b ≡ true
same_number true itself = refl
same_number false itself = absurd itself

-- a place that is the same
same_place : (a b : ℕ) → a ≡ b → (a == b) ≡ true
same_place a b is = subst (λ (n : ℕ). (a == n) ≡ true) is (same_number (a == a) (eqb_refl a))

-- `\rN`, and what is read behind it
at_times : (bytes : List ℕ) (slash next : Token) (times : ℕ) (tokens : List Token) (r : Repeats bytes slash next times)
    → data_of bytes (slash ∷ next ∷ tokens)
    ≡ then_read (λ s. data_from bytes s tokens) (word_behind true (114 ∷ r.digits) (Some times))
at_times bytes slash next times tokens r =
    at_slash bytes slash next tokens (word (114 ∷ r.digits)) r.opened r.spelled
    ∙ ap (λ b. then_read (λ s. data_from bytes s tokens) (word_behind b (114 ∷ r.digits) (number_by r.digits))) (same_place next.start slash.end r.adjacent)
    ∙ ap (λ o. then_read (λ s. data_from bytes s tokens) (word_behind true (114 ∷ r.digits) o)) r.number

-- a unit is found
unit_found : (one : Lexeme) (item : Item) → IsUnit one item → unit_of one ≡ Some item
unit_found _ _ hash_unit = refl
unit_found _ _ percent_unit = refl
unit_found _ _ (character_unit byte apart) = ap (λ b. cond {A = Option Item} b None (Some (a_character byte))) apart

-- what is found is a unit
character_is_unit : (byte : ℕ) (item : Item) (b : Bool) → (byte == 95) ≡ b
    → cond {A = Option Item} b None (Some (a_character byte)) ≡ Some item → IsUnit (word (byte ∷ [])) item
character_is_unit byte item true apart is = cc
character_is_unit byte item false apart is =
    let same : a_character byte ≡ item = cc in subst (λ (i : Item). IsUnit (word (byte ∷ [])) i) same (character_unit byte apart)

hash_is_unit : (item : Item) → Some hash ≡ Some item → IsUnit (sign mark.Hash) item
hash_is_unit item is = let same : hash ≡ item = cc in subst (λ (i : Item). IsUnit (sign mark.Hash) i) same hash_unit

percent_is_unit : (item : Item) → Some percent ≡ Some item → IsUnit (sign mark.Percent) item
percent_is_unit item is =
    let same : percent ≡ item = cc in subst (λ (i : Item). IsUnit (sign mark.Percent) i) same percent_unit

unit_is : (one : Lexeme) (item : Item) → unit_of one ≡ Some item → IsUnit one item
unit_is (word []) item is = none_is_some item is
unit_is (word (byte ∷ [])) item is = character_is_unit byte item (byte == 95) refl is
unit_is (word (byte ∷ next ∷ bytes)) item is = none_is_some item is
unit_is (name bytes) item is = none_is_some item is
unit_is (text bytes) item is = none_is_some item is
unit_is (sign mark.Hash) item is = hash_is_unit item is
unit_is (sign mark.Percent) item is = percent_is_unit item is
unit_is (sign mark.Backslash) item is = none_is_some item is
unit_is (sign mark.Open) item is = none_is_some item is
unit_is (sign mark.Close) item is = none_is_some item is
unit_is (sign mark.Dot) item is = none_is_some item is
unit_is (sign mark.Equals) item is = none_is_some item is
unit_is (sign mark.Slash) item is = none_is_some item is
unit_is (sign mark.Colon) item is = none_is_some item is
unit_is (sign mark.Plus) item is = none_is_some item is
unit_is (sign mark.Minus) item is = none_is_some item is
unit_is (sign mark.Bang) item is = none_is_some item is
unit_is (sign (mark.Other byte)) item is = none_is_some item is

-- `\rN`, and a token behind it by the unit that it is
at_unit : (bytes : List ℕ) (slash next unit : Token) (times : ℕ) (tokens : List Token) (o : Option Item)
    → Repeats bytes slash next times → unit_of (lexeme_at bytes unit) ≡ o
    → data_of bytes (slash ∷ next ∷ unit ∷ tokens) ≡ then_read (λ s. data_from bytes s tokens) (unit_said times o)
at_unit bytes slash next unit times tokens o r is =
    at_times bytes slash next times (unit ∷ tokens) r
    ∙ behind-nothing (then_read (λ s. data_from bytes s tokens) (unit_said times (unit_of (lexeme_at bytes unit))))
    ∙ ap (λ u. then_read (λ s. data_from bytes s tokens) (unit_said times u)) is

-- a unit that is not repeated too often
few_units : (bytes : List ℕ) (slash next unit : Token) (times : ℕ) (item : Item) (tokens : List Token)
    → Repeats bytes slash next times → IsUnit (lexeme_at bytes unit) item → nat_le times most_repeats ≡ true
    → data_of bytes (slash ∷ next ∷ unit ∷ tokens) ≡ behind (replicate times item) (data_of bytes tokens)
few_units bytes slash next unit times item tokens r one few =
    at_unit bytes slash next unit times tokens (Some item) r (unit_found (lexeme_at bytes unit) item one)
    ∙ ap (λ said. then_read (λ s. data_from bytes s tokens) said) (chosen_first (nat_le times most_repeats) _ _ few)

-- a unit that is repeated too often
many_units : (bytes : List ℕ) (slash next unit : Token) (times : ℕ) (item : Item) (tokens : List Token)
    → Repeats bytes slash next times → IsUnit (lexeme_at bytes unit) item → nat_le times most_repeats ≡ false
    → data_of bytes (slash ∷ next ∷ unit ∷ tokens) ≡ Err OutOfRange
many_units bytes slash next unit times item tokens r one many =
    at_unit bytes slash next unit times tokens (Some item) r (unit_found (lexeme_at bytes unit) item one)
    ∙ ap (λ said. then_read (λ s. data_from bytes s tokens) said) (chosen_second (nat_le times most_repeats) _ _ many)

-- items in front of what is read
read_behind : (bytes : List ℕ) (before items : List Item) (tokens rest : List Token)
    → data_of bytes tokens ≡ behind items (data_of bytes rest)
    → behind before (data_of bytes tokens) ≡ behind (before ++ items) (data_of bytes rest)
read_behind bytes before items tokens rest is = ap (behind before) is ∙ behind-append before items (data_of bytes rest)

-- what is spelled in front of others is read in front of them
reads_on : (bytes : List ℕ) (front rest : List Token) (items : List Item) → Spells bytes front items
    → data_of bytes (front ++ rest) ≡ behind items (data_of bytes rest)
reads_on bytes _ rest _ no_items = sym (behind-nothing (data_of bytes rest))
reads_on bytes _ rest _ (characters token tokens items spelled is apart more) =
    at_item bytes token (tokens ++ rest) (word spelled) is
    ∙ ap (λ said. then_read (λ s. data_from bytes s (tokens ++ rest)) said) (chosen_second (has_underscore spelled) _ _ apart)
    ∙ read_behind bytes (map a_character spelled) items (tokens ++ rest) rest (reads_on bytes tokens rest items more)
reads_on bytes _ rest _ (one_hash token tokens items is more) =
    at_item bytes token (tokens ++ rest) (sign mark.Hash) is
    ∙ read_behind bytes (hash ∷ []) items (tokens ++ rest) rest (reads_on bytes tokens rest items more)
reads_on bytes _ rest _ (one_percent token tokens items is more) =
    at_item bytes token (tokens ++ rest) (sign mark.Percent) is
    ∙ read_behind bytes (percent ∷ []) items (tokens ++ rest) rest (reads_on bytes tokens rest items more)
reads_on bytes _ rest _ (repeated slash next unit tokens items times item r one few more) =
    few_units bytes slash next unit times item (tokens ++ rest) r one (le-leb times most_repeats few)
    ∙ read_behind bytes (replicate times item) items (tokens ++ rest) rest (reads_on bytes tokens rest items more)

-- items that are spelled are read
spelled_are_read : (bytes : List ℕ) (tokens : List Token) (items : List Item) → Spells bytes tokens items
    → data_of bytes tokens ≡ Ok items
spelled_are_read bytes tokens items s =
    ap (data_of bytes) (sym (append-nil tokens)) ∙ reads_on bytes tokens [] items s ∙ ap (λ xs. Ok xs) (append-nil items)

-- a word with a `_` has no form, whatever is said of others
underscored : {X : Type 0} (b : Bool) (x : X) → not b ≡ false
    → cond {A = Result X FormKind} b (Err Shape) (Ok x) ≡ Err Shape
underscored true x is = refl
underscored false x is = cc

-- a token that no item begins with
no_item : (one : Lexeme) (end : ℕ) → may_begin one ≡ false → item_said one end ≡ Err Shape
no_item (word spelled) end is = underscored (has_underscore spelled) _ is
no_item (name spelled) end is = refl
no_item (text spelled) end is = refl
no_item (sign mark.Hash) end is = cc
no_item (sign mark.Percent) end is = cc
no_item (sign mark.Backslash) end is = cc
no_item (sign mark.Open) end is = refl
no_item (sign mark.Close) end is = refl
no_item (sign mark.Dot) end is = refl
no_item (sign mark.Equals) end is = refl
no_item (sign mark.Slash) end is = refl
no_item (sign mark.Colon) end is = refl
no_item (sign mark.Plus) end is = refl
no_item (sign mark.Minus) end is = refl
no_item (sign mark.Bang) end is = refl
no_item (sign (mark.Other byte)) end is = refl

-- a word that is left out is no `rN`
no_r : (first : ℕ) (digits : List ℕ) (b : Bool) → (first == 114) ≡ b → words.is_left_out (first ∷ digits) ≡ true
    → cond b (number_by digits) None ≡ None
no_r first digits false apart is = refl
no_r first digits true r is =
    let same : first ≡ 114 = eqb-true first 114 r in
    let none : false ≡ true = subst (λ (f : ℕ). words.is_left_out (f ∷ digits) ≡ true) same is in cc

times_by-left_out : (bytes : List ℕ) → words.is_left_out bytes ≡ true → times_by bytes ≡ None
times_by-left_out [] is = refl
times_by-left_out (first ∷ digits) is = no_r first digits (first == 114) refl is

-- what is said of a word that is no `rN`
no_times_said : (adjacent : Bool) (bytes : List ℕ) → word_behind adjacent bytes None
    ≡ cond (words.is_left_out bytes) (Err LeftOut) (Err Shape)
no_times_said true bytes = refl
no_times_said false bytes = refl

-- a form that is left out is refused so, whether it stands directly behind or not
left_out_said : (adjacent : Bool) (one : Lexeme) → is_left_out one ≡ true → repeat_said adjacent one ≡ Err LeftOut
left_out_said adjacent (word bytes) is =
    ap (word_behind adjacent bytes) (times_by-left_out bytes is) ∙ no_times_said adjacent bytes
    ∙ chosen_first (words.is_left_out bytes) _ _ is
left_out_said adjacent (name bytes) is = cc
left_out_said adjacent (text bytes) is = cc
left_out_said adjacent (sign kind) is = cc

-- the digits of a word `rN`
abbrev IsTimes : List ℕ → ℕ → Type 0
IsTimes bytes times = (digits : List ℕ) × (bytes ≡ 114 ∷ digits) × (number_by digits ≡ Some times)

r_digits : (first : ℕ) (digits : List ℕ) (times : ℕ) (b : Bool) → (first == 114) ≡ b
    → cond b (number_by digits) None ≡ Some times → IsTimes (first ∷ digits) times
r_digits first digits times true r is = (digits, ap (λ f. f ∷ digits) (eqb-true first 114 r), is)
r_digits first digits times false r is = none_is_some times is

times_are : (bytes : List ℕ) (times : ℕ) → times_by bytes ≡ Some times → IsTimes bytes times
times_are [] times is = none_is_some times is
times_are (first ∷ digits) times is = r_digits first digits times (first == 114) refl is

-- a `\` with `rN` directly behind it, or not
abbrev MayRepeat : List ℕ → Token → Token → Type 0
MayRepeat bytes slash next =
    ((times : ℕ) × Repeats bytes slash next times) ⊎ ((times : ℕ) → Repeats bytes slash next times → ⊥)

-- no word stands there
no_word : (bytes : List ℕ) (slash next : Token) (one : Lexeme) → lexeme_at bytes next ≡ one
    → ((spelled : List ℕ) → one ≡ word spelled → ⊥) → MayRepeat bytes slash next
no_word bytes slash next one is none = inr (λ times r. none (114 ∷ r.digits) (sym is ∙ r.spelled))

-- a word that stands apart
stands_apart : (bytes : List ℕ) (slash next : Token) → (next.start == slash.end) ≡ false → MayRepeat bytes slash next
stands_apart bytes slash next apart =
    inr (λ times r. let same : true ≡ false = sym (same_place next.start slash.end r.adjacent) ∙ apart in cc)

-- a word directly behind
word_may_repeat : (bytes : List ℕ) (slash next : Token) (spelled : List ℕ) (o : Option ℕ)
    → lexeme_at bytes slash ≡ sign mark.Backslash → lexeme_at bytes next ≡ word spelled
    → (next.start == slash.end) ≡ true → times_by spelled ≡ o → MayRepeat bytes slash next
word_may_repeat bytes slash next spelled (Some times) opened is here said =
    let are = times_are spelled times said in
    inl (
      times,
      record {
        digits = are.0;
        opened = opened;
        adjacent = eqb-true next.start slash.end here;
        spelled = is ∙ ap (λ ds. word ds) are.1;
        number = are.2;
      },
    )
word_may_repeat bytes slash next spelled None opened is here said =
    inr (λ times r.
    let same : word spelled ≡ word (114 ∷ r.digits) = sym is ∙ r.spelled in
    let bytes_same : spelled ≡ 114 ∷ r.digits = cc in
    none_is_some times (sym said ∙ ap times_by bytes_same ∙ r.number))

adjacent_or_apart : (bytes : List ℕ) (slash next : Token) (spelled : List ℕ) (b : Bool)
    → lexeme_at bytes slash ≡ sign mark.Backslash → lexeme_at bytes next ≡ word spelled
    → (next.start == slash.end) ≡ b → MayRepeat bytes slash next
adjacent_or_apart bytes slash next spelled true opened is here =
    word_may_repeat bytes slash next spelled (times_by spelled) opened is here refl
adjacent_or_apart bytes slash next spelled false opened is apart = stands_apart bytes slash next apart

may_repeat : (bytes : List ℕ) (slash next : Token) (one : Lexeme) → lexeme_at bytes slash ≡ sign mark.Backslash
    → lexeme_at bytes next ≡ one → MayRepeat bytes slash next
may_repeat bytes slash next (word spelled) opened is =
    adjacent_or_apart bytes slash next spelled (next.start == slash.end) opened is refl
may_repeat bytes slash next (name spelled) opened is = no_word bytes slash next (name spelled) is (λ s e. cc)
may_repeat bytes slash next (text spelled) opened is = no_word bytes slash next (text spelled) is (λ s e. cc)
may_repeat bytes slash next (sign kind) opened is = no_word bytes slash next (sign kind) is (λ s e. cc)

-- what is neither left out nor `rN` directly behind has no form
no_times_here : (bytes : List ℕ) (slash next : Token) (spelled : List ℕ) (b : Bool) (o : Option ℕ)
    → lexeme_at bytes slash ≡ sign mark.Backslash → lexeme_at bytes next ≡ word spelled
    → ((times : ℕ) → Repeats bytes slash next times → ⊥) → (next.start == slash.end) ≡ b → times_by spelled ≡ o
    → word_behind b spelled o ≡ cond (words.is_left_out spelled) (Err LeftOut) (Err Shape)
no_times_here bytes slash next spelled true (Some times) opened is none here said =
    let are = times_are spelled times said in
    absurd (none times (record {
      digits = are.0;
      opened = opened;
      adjacent = eqb-true next.start slash.end here;
      spelled = is ∙ ap (λ ds. word ds) are.1;
      number = are.2;
    }))
no_times_here bytes slash next spelled true None opened is none here said = refl
no_times_here bytes slash next spelled false (Some times) opened is none here said = refl
no_times_here bytes slash next spelled false None opened is none here said = refl

no_form_said : (bytes : List ℕ) (slash next : Token) (one : Lexeme) → lexeme_at bytes slash ≡ sign mark.Backslash
    → lexeme_at bytes next ≡ one → is_left_out one ≡ false
    → ((times : ℕ) → Repeats bytes slash next times → ⊥) → repeat_said (next.start == slash.end) one ≡ Err Shape
no_form_said bytes slash next (word spelled) opened is kept none =
    no_times_here bytes slash next spelled (next.start == slash.end) (times_by spelled) opened is none refl refl
    ∙ chosen_second (words.is_left_out spelled) _ _ kept
no_form_said bytes slash next (name spelled) opened is kept none = refl
no_form_said bytes slash next (text spelled) opened is kept none = refl
no_form_said bytes slash next (sign kind) opened is kept none = refl

-- what is no unit is not found
no_unit_found : (one : Lexeme) (o : Option Item) → unit_of one ≡ o → ((item : Item) → IsUnit one item → ⊥)
    → unit_of one ≡ None
no_unit_found one None is none = is
no_unit_found one (Some item) is none = absurd (none item (unit_is one item is))

-- tokens that begin with no item are refused
fails_refused : (bytes : List ℕ) (tokens : List Token) (kind : FormKind) → Fails bytes tokens kind
    → data_of bytes tokens ≡ Err kind
fails_refused bytes _ _ (no_beginning token tokens is) =
    at_item bytes token tokens (lexeme_at bytes token) refl
    ∙ ap (λ said. then_read (λ s. data_from bytes s tokens) said) (no_item (lexeme_at bytes token) token.end is)
fails_refused bytes _ _ (nothing_behind slash is) = at_item bytes slash [] (sign mark.Backslash) is
fails_refused bytes _ _ (left_out slash next tokens opened is) =
    at_slash bytes slash next tokens (lexeme_at bytes next) opened refl
    ∙ ap (λ said. then_read (λ s. data_from bytes s tokens) said)
    (left_out_said (next.start == slash.end) (lexeme_at bytes next) is)
fails_refused bytes _ _ (no_form slash next tokens opened kept none) =
    at_slash bytes slash next tokens (lexeme_at bytes next) opened refl
    ∙ ap (λ said. then_read (λ s. data_from bytes s tokens) said)
    (no_form_said bytes slash next (lexeme_at bytes next) opened refl kept none)
fails_refused bytes _ _ (no_more slash next times r) = at_times bytes slash next times [] r
fails_refused bytes _ _ (no_unit slash next other tokens times r none) =
    at_unit bytes slash next other times tokens None r
    (no_unit_found (lexeme_at bytes other) (unit_of (lexeme_at bytes other)) refl none)
fails_refused bytes _ _ (too_often slash next unit tokens times item r one many) =
    many_units bytes slash next unit times item tokens r one (lt-leb times most_repeats many)

-- tokens that stop are refused
stops_are_refused : (bytes : List ℕ) (tokens : List Token) (kind : FormKind) → StopsAt bytes tokens kind
    → data_of bytes tokens ≡ Err kind
stops_are_refused bytes tokens kind s =
    ap (data_of bytes) s.split ∙ reads_on bytes s.front s.rest s.items s.spelled
    ∙ ap (behind s.items) (fails_refused bytes s.rest kind s.fails)

-- tokens that spell items, or stop at a fault
abbrev Decided : List ℕ → List Token → Type 0
Decided bytes tokens = ((items : List Item) × Spells bytes tokens items) ⊎ ((kind : FormKind) × StopsAt bytes tokens kind)

-- tokens that begin with no item
stopped : (bytes : List ℕ) (tokens : List Token) (kind : FormKind) → Fails bytes tokens kind → Decided bytes tokens
stopped bytes tokens kind f =
    inr (kind, record { front = []; items = []; rest = tokens; split = refl; spelled = no_items; fails = f })

-- an item in front of tokens
extended : (bytes : List ℕ) (front : List Token) (before : List Item)
    → ((tokens : List Token) (items : List Item) → Spells bytes tokens items
    → Spells bytes (front ++ tokens) (before ++ items))
    → (tokens : List Token) → Decided bytes tokens → Decided bytes (front ++ tokens)
extended bytes front before each tokens (inl s) = inl (before ++ s.0, each tokens s.0 s.1)
extended bytes front before each tokens (inr s) =
    inr (
      s.0,
      record {
        front = front ++ s.1.front;
        items = before ++ s.1.items;
        rest = s.1.rest;
        split = ap (λ ts. front ++ ts) s.1.split ∙ sym (append_assoc front s.1.front s.1.rest);
        spelled = each s.1.front s.1.items s.1.spelled;
        fails = s.1.fails;
      },
    )

-- tokens without the first
abbrev tail_of : List Token → List Token
tail_of [] = []
tail_of (token ∷ tokens) = tokens

-- a unit, by whether it is repeated too often
by_number : (bytes : List ℕ) (slash next unit : Token) (tokens : List Token) (times : ℕ) (item : Item) (few : Bool)
    → Repeats bytes slash next times → IsUnit (lexeme_at bytes unit) item → nat_le times most_repeats ≡ few
    → Decided bytes tokens → Decided bytes (slash ∷ next ∷ unit ∷ tokens)
by_number bytes slash next unit tokens times item true r one is later =
    extended bytes (slash ∷ next ∷ unit ∷ []) (replicate times item)
    (λ ts items s. repeated slash next unit ts items times item r one (leb-true times most_repeats is) s) tokens later
by_number bytes slash next unit tokens times item false r one is later =
    stopped bytes (slash ∷ next ∷ unit ∷ tokens) OutOfRange
    (too_often slash next unit tokens times item r one (leb-false times most_repeats is))

-- a token behind `\rN`, by the unit that it is
by_unit : (bytes : List ℕ) (slash next unit : Token) (tokens : List Token) (times : ℕ) (o : Option Item)
    → Repeats bytes slash next times → unit_of (lexeme_at bytes unit) ≡ o
    → Decided bytes tokens → Decided bytes (slash ∷ next ∷ unit ∷ tokens)
by_unit bytes slash next unit tokens times None r is later =
    stopped bytes (slash ∷ next ∷ unit ∷ tokens) Shape
    (no_unit slash next unit tokens times r
    (λ item one. none_is_some item (sym is ∙ unit_found (lexeme_at bytes unit) item one)))
by_unit bytes slash next unit tokens times (Some item) r is later =
    by_number bytes slash next unit tokens times item (nat_le times most_repeats) r
    (unit_is (lexeme_at bytes unit) item is) refl later

-- what stands behind `\rN`
behind_times : (bytes : List ℕ) (slash next : Token) (tokens : List Token) (times : ℕ) → Repeats bytes slash next times
    → Decided bytes (tail_of tokens) → Decided bytes (slash ∷ next ∷ tokens)
behind_times bytes slash next [] times r later =
    stopped bytes (slash ∷ next ∷ []) Shape (no_more slash next times r)
behind_times bytes slash next (unit ∷ tokens) times r later =
    by_unit bytes slash next unit tokens times (unit_of (lexeme_at bytes unit)) r refl later

-- what is no `rN` directly behind
by_left_out : (bytes : List ℕ) (slash next : Token) (tokens : List Token) (b : Bool)
    → lexeme_at bytes slash ≡ sign mark.Backslash → ((times : ℕ) → Repeats bytes slash next times → ⊥)
    → is_left_out (lexeme_at bytes next) ≡ b → Decided bytes (slash ∷ next ∷ tokens)
by_left_out bytes slash next tokens true opened none is =
    stopped bytes (slash ∷ next ∷ tokens) LeftOut (left_out slash next tokens opened is)
by_left_out bytes slash next tokens false opened none is =
    stopped bytes (slash ∷ next ∷ tokens) Shape (no_form slash next tokens opened is none)

by_repeat : (bytes : List ℕ) (slash next : Token) (tokens : List Token) → lexeme_at bytes slash ≡ sign mark.Backslash
    → MayRepeat bytes slash next → Decided bytes (tail_of tokens) → Decided bytes (slash ∷ next ∷ tokens)
by_repeat bytes slash next tokens opened (inl r) later = behind_times bytes slash next tokens r.0 r.1 later
by_repeat bytes slash next tokens opened (inr none) later =
    by_left_out bytes slash next tokens (is_left_out (lexeme_at bytes next)) opened none refl

-- what stands behind a `\`
behind_slash : (bytes : List ℕ) (slash : Token) (tokens : List Token) → lexeme_at bytes slash ≡ sign mark.Backslash
    → Decided bytes (tail_of (tail_of tokens)) → Decided bytes (slash ∷ tokens)
behind_slash bytes slash [] opened later = stopped bytes (slash ∷ []) Shape (nothing_behind slash opened)
behind_slash bytes slash (next ∷ tokens) opened later =
    by_repeat bytes slash next tokens opened (may_repeat bytes slash next (lexeme_at bytes next) opened refl) later

-- a word, by whether it has a `_`
by_underscore : (bytes : List ℕ) (token : Token) (tokens : List Token) (spelled : List ℕ) (b : Bool)
    → lexeme_at bytes token ≡ word spelled → has_underscore spelled ≡ b → Decided bytes tokens
    → Decided bytes (token ∷ tokens)
by_underscore bytes token tokens spelled true is has rest =
    stopped bytes (token ∷ tokens) Shape (no_beginning token tokens (ap may_begin is ∙ ap not has))
by_underscore bytes token tokens spelled false is has rest =
    extended bytes (token ∷ []) (map a_character spelled)
    (λ ts items s. characters token ts items spelled is has s) tokens rest

-- a token that no item begins with
stray : (bytes : List ℕ) (token : Token) (tokens : List Token) (one : Lexeme) → lexeme_at bytes token ≡ one
    → may_begin one ≡ false → Decided bytes (token ∷ tokens)
stray bytes token tokens one is none =
    stopped bytes (token ∷ tokens) Shape (no_beginning token tokens (ap may_begin is ∙ none))

-- a token in front of others, by its lexeme
one_more : (bytes : List ℕ) (token : Token) (tokens : List Token) (one : Lexeme) → lexeme_at bytes token ≡ one
    → Decided bytes tokens → Decided bytes (tail_of (tail_of tokens)) → Decided bytes (token ∷ tokens)
one_more bytes token tokens (word spelled) is rest later =
    by_underscore bytes token tokens spelled (has_underscore spelled) is refl rest
one_more bytes token tokens (sign mark.Hash) is rest later =
    extended bytes (token ∷ []) (hash ∷ []) (λ ts items s. one_hash token ts items is s) tokens rest
one_more bytes token tokens (sign mark.Percent) is rest later =
    extended bytes (token ∷ []) (percent ∷ []) (λ ts items s. one_percent token ts items is s) tokens rest
one_more bytes token tokens (sign mark.Backslash) is rest later = behind_slash bytes token tokens is later
one_more bytes token tokens (name spelled) is rest later = stray bytes token tokens (name spelled) is refl
one_more bytes token tokens (text spelled) is rest later = stray bytes token tokens (text spelled) is refl
one_more bytes token tokens (sign mark.Open) is rest later = stray bytes token tokens (sign mark.Open) is refl
one_more bytes token tokens (sign mark.Close) is rest later = stray bytes token tokens (sign mark.Close) is refl
one_more bytes token tokens (sign mark.Dot) is rest later = stray bytes token tokens (sign mark.Dot) is refl
one_more bytes token tokens (sign mark.Equals) is rest later = stray bytes token tokens (sign mark.Equals) is refl
one_more bytes token tokens (sign mark.Slash) is rest later = stray bytes token tokens (sign mark.Slash) is refl
one_more bytes token tokens (sign mark.Colon) is rest later = stray bytes token tokens (sign mark.Colon) is refl
one_more bytes token tokens (sign mark.Plus) is rest later = stray bytes token tokens (sign mark.Plus) is refl
one_more bytes token tokens (sign mark.Minus) is rest later = stray bytes token tokens (sign mark.Minus) is refl
one_more bytes token tokens (sign mark.Bang) is rest later = stray bytes token tokens (sign mark.Bang) is refl
one_more bytes token tokens (sign (mark.Other byte)) is rest later = stray bytes token tokens (sign (mark.Other byte)) is refl

-- tokens, and those behind their first, second and third
abbrev AllDecided : List ℕ → List Token → Type 0
AllDecided bytes tokens =
    Decided bytes tokens × Decided bytes (tail_of tokens) × Decided bytes (tail_of (tail_of tokens))

all_decided : (bytes : List ℕ) (tokens : List Token) → AllDecided bytes tokens
all_decided bytes [] = (inl ([], no_items), inl ([], no_items), inl ([], no_items))
all_decided bytes (token ∷ tokens) =
    let rest = all_decided bytes tokens in
    (one_more bytes token tokens (lexeme_at bytes token) refl rest.0 rest.2, rest.0, rest.1)

-- what is read is spelled, where it is decided what the tokens spell
read_spelled : (bytes : List ℕ) (tokens : List Token) (items : List Item) → Decided bytes tokens
    → data_of bytes tokens ≡ Ok items → Spells bytes tokens items
read_spelled bytes tokens items (inl s) is =
    let found : Ok s.0 ≡ Ok items = sym (spelled_are_read bytes tokens s.0 s.1) ∙ is in
    let same : s.0 ≡ items = cc in subst (λ (xs : List Item). Spells bytes tokens xs) same s.1
read_spelled bytes tokens items (inr s) is =
    let never : Err s.0 ≡ Ok items = sym (stops_are_refused bytes tokens s.0 s.1) ∙ is in cc

refused_stops : (bytes : List ℕ) (tokens : List Token) (kind : FormKind) → Decided bytes tokens
    → data_of bytes tokens ≡ Err kind → StopsAt bytes tokens kind
refused_stops bytes tokens kind (inl s) is =
    let never : Ok s.0 ≡ Err kind = sym (spelled_are_read bytes tokens s.0 s.1) ∙ is in cc
refused_stops bytes tokens kind (inr s) is =
    let found : Err s.0 ≡ Err kind = sym (stops_are_refused bytes tokens s.0 s.1) ∙ is in
    let same : s.0 ≡ kind = cc in subst (λ (k : FormKind). StopsAt bytes tokens k) same s.1

-- the items that are read are those that the tokens spell
pub data_are_spelled : DataAreSpelled
data_are_spelled = λ bytes tokens items.
    (spelled_are_read bytes tokens items, read_spelled bytes tokens items (all_decided bytes tokens).0)

-- data are refused where the tokens stop at a fault, and for this fault
pub data_are_refused : DataAreRefused
data_are_refused = λ bytes tokens kind.
    (stops_are_refused bytes tokens kind, refused_stops bytes tokens kind (all_decided bytes tokens).0)
