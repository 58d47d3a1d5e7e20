-- The rows of a flat text.
use Rattle.std.proofs.Common.{◌≡◌, ℕ, zero, suc, ◌+◌, ◌<◌, ◌≤◌, Bool, true, false, cond, List, [], ◌∷◌, ◌++◌, length, get_or, drop, map, refl, sym, ap, subst, ◌∙◌, arith, append_assoc, append-nil, inl, inr}
use Rattle.std.specs.Prelude.{◌==◌, codes, decimal}
use Rattle.std.specs.List.{AllByRecursion, flat_map, list_all, range_with_len}
use Rattle.std.proofs.lemmas.Bool.{and_parts, or_cases, both_ways}
use Rattle.std.proofs.lemmas.List.{drop_more, drop_all, get_or_past, length-drop}
use Rattle.text_bytes.specs.Bytes.{is_word, is_character}
use Rattle.text_bytes.proofs.ListLemmas.{all_from}
use Rattle.tester_types.specs.Printing.{quoted}
use Rattle.stil_lex.specs.Bytes.{double_quote}
use Rattle.packed_code.specs.RowBytes.{is_place}
use Rattle.packed_code.specs.Program.{Program}
use Rattle.flat_parts.specs.Order.{row_order}
use Rattle.flat_parts.specs.FlatText.{with_feed, text_of, name_of, character_item, signal_item, character_items, row_line, row_lines}
use Rattle.flat_parts.specs.FlatBlocks.{Given, given_from, row_numbered}
use Rattle.flat_said.specs.FlatSaid.{gift_said, row_said, rows_said}
use Rattle.flat_said.proofs.ListLemmas.{all_any}
use Rattle.flat_said.proofs.SaysLemmas.{Says, says_as, says_then, says_each, says_statement, says_braced, says_space, says_line, heads_nil, heads_name, heads_sign, equals_is, heads_name_blank, heads_word_blank, heads_last_word, IsQuotable, IsPlainWord, plain_word_is}
use Rattle.flat_said.proofs.WordLemmas.{character_is, r_is}
use Rattle.flat_said.proofs.BlockLemmas.{says_lines, says_line_each}

-- ---- what a row gives

-- a character for a signal, as the text has it
abbrev pub gift_text : Given → List ℕ
gift_text given = quoted given.name ++ codes "=" ++ given.character ∷ codes "; "

-- a signal, where it is given a character, and those behind it
abbrev given_by : Bool → Given → List Given → List Given
given_by true g rest = rest
given_by false g rest = g ∷ rest

-- the first signal of a row, by whether it is given a character
pub given_more : (code : Program) (from c : ℕ) (row : List ℕ) (none : Bool) → (c == 0) ≡ none
    → given_from code from (c ∷ row) ≡ given_by none (record { name = name_of code from; character = c }) (given_from code (from + 1) row)
given_more code from c row none e =
    ap (λ (b : Bool). given_by b (record { name = name_of code from; character = c }) (given_from code (from + 1) row)) e

item_by : (none : Bool) (g : Given) (rest : List Given)
    → cond none [] (gift_text g) ++ flat_map gift_text rest ≡ flat_map gift_text (given_by none g rest)
item_by true g rest = refl
item_by false g rest = refl

-- one signal and those behind it
given_text : (code : Program) (from c : ℕ) (row : List ℕ)
    → character_item (name_of code from) c ++ flat_map gift_text (given_from code (from + 1) row)
    ≡ flat_map gift_text (given_from code from (c ∷ row))
given_text code from c row =
    item_by (c == 0) (record { name = name_of code from; character = c }) (given_from code (from + 1) row)
    ∙ ap (flat_map gift_text) (sym (given_more code from c row (c == 0) refl))

-- what a row gives to the signals from a number on
pub characters_are : (code : Program) (full : List ℕ) (from n : ℕ) (row : List ℕ) → drop from full ≡ row → length row ≤ n
    → flat_map (signal_item code full) (range_with_len from n) ≡ flat_map gift_text (given_from code from row)
characters_are code full from zero [] is few = refl
characters_are code full from zero (c ∷ row) is few = absurd (omega (arith, few))
characters_are code full from (suc n) [] is few =
    let short : length full ≤ from = omega (arith, ap length is, length-drop from full) in
    let none : get_or full from 0 ≡ 0 = get_or_past full from 0 short in
    let rest : drop (from + 1) full ≡ [] = drop_all (from + 1) full (omega (arith, short)) in
    ap (λ (c : ℕ). character_item (name_of code from) c ++ flat_map (signal_item code full) (range_with_len (from + 1) n)) none
    ∙ characters_are code full (from + 1) n [] rest (omega arith)
characters_are code full from (suc n) (c ∷ row) is few =
    let long : from < length full = omega (arith, ap length is, length-drop from full) in
    let more : get_or full from 0 ∷ drop (from + 1) full ≡ c ∷ row = sym (drop_more full from 0 long) ∙ is in
    let parts = cons_parts more in
    ap (λ (d : ℕ). character_item (name_of code from) d ++ flat_map (signal_item code full) (range_with_len (from + 1) n)) parts.0
    ∙ ap (λ (ys : List ℕ). character_item (name_of code from) c ++ ys)
    (characters_are code full (from + 1) n row parts.1 (omega (arith, few)))
    ∙ given_text code from c row
  where
    cons_parts : {a b : ℕ} {xs ys : List ℕ} → a ∷ xs ≡ b ∷ ys → (a ≡ b) × (xs ≡ ys)
    cons_parts e = (cc, cc)

-- ---- rows

-- a character for a signal that can be said
pub record IsSayableGift (given : Given) : Type 0 where
  pub name : IsQuotable double_quote given.name
  pub character : is_character given.character ≡ true

all_by : (none : Bool) (g : Given) (rest : List Given) → (none ≡ false → IsSayableGift g) → AllByRecursion IsSayableGift rest
    → AllByRecursion IsSayableGift (given_by none g rest)
all_by true g rest one all = all
all_by false g rest one all = (one refl, all)

-- a place of a row that has something has a character
place_is : (c : ℕ) → is_place c ≡ true → (c == 0) ≡ false → is_character c ≡ true
place_is c h some = elim (or_cases (c == 0) (is_character c) h) [ inl none ↦ absurd (both_ways (c == 0) some none) | inr is ↦ is ]

-- what a row gives can be said, where its characters are such
pub gifts_are : (code : Program) → ((signal : ℕ) → IsQuotable double_quote (name_of code signal)) → (from : ℕ) (row : List ℕ)
    → list_all is_place row ≡ true → AllByRecursion IsSayableGift (given_from code from row)
gifts_are code names from [] places = tt
gifts_are code names from (c ∷ row) places =
    let parts = and_parts (is_place c) (list_all is_place row) places in
    subst (AllByRecursion IsSayableGift) (sym (given_more code from c row (c == 0) refl))
    (all_by (c == 0) (record { name = name_of code from; character = c }) (given_from code (from + 1) row)
    (λ some. record { name = names from; character = place_is c parts.0 some }) (gifts_are code names (from + 1) row parts.1))

gift_line : (name equals character stop space : List ℕ)
    → ((name ++ (equals ++ (character ++ []))) ++ stop) ++ space ≡ (name ++ equals) ++ (character ++ (stop ++ space))
gift_line name equals character stop space = simp (append_assoc, append-nil)

-- a character for a signal
pub gift_says : (given : Given) → IsSayableGift given → Says (gift_said given) (gift_text given)
gift_says given sayable =
    says_as (gift_line (34 ∷ given.name ++ 34 ∷ []) (61 ∷ []) (given.character ∷ []) (59 ∷ []) (32 ∷ []))
    (says_then
    (says_statement
    (heads_name sayable.name (heads_sign 61 equals_is (heads_last_word (character_is given.character sayable.character)))))
    says_space)

vector_word : IsPlainWord (codes "V")
unfolding is_word
vector_word = plain_word_is (codes "V") refl

row_text_is : (quote front digits space opens vector gifts closes feed : List ℕ)
    → (((quote ++ ((front ++ digits) ++ quote)) ++ (space ++ []))
    ++ (opens ++ ((space ++ (((vector ++ (space ++ [])) ++ (opens ++ ((space ++ gifts) ++ closes))) ++ space)) ++ closes))) ++ feed
    ≡ (((((quote ++ front) ++ digits) ++ (quote ++ (space ++ (opens ++ (space ++ (vector ++ space)))))) ++ (opens ++ space))
    ++ (gifts ++ (closes ++ (space ++ closes)))) ++ feed
row_text_is quote front digits space opens vector gifts closes feed = simp (append_assoc, append-nil)

-- a row
pub row_says : (code : Program) (number : ℕ) → ((signal : ℕ) → IsQuotable double_quote (name_of code signal))
    → list_all is_place (row_numbered code number) ≡ true → length (row_numbered code number) ≤ length code.signals
    → Says (row_said code number) (with_feed (row_line code number))
row_says code number names places few =
    let row = row_numbered code number in
    let given = given_from code 0 row in
    let gifts =
    says_as (sym (characters_are code row 0 (length code.signals) row refl few))
    (says_each gift_said gift_text given
    (all_from IsSayableGift (λ g. Says (gift_said g) (gift_text g)) gift_says given (gifts_are code names 0 row places))) in
    says_as
    (row_text_is (34 ∷ []) (codes "r") (decimal number) (32 ∷ []) (123 ∷ []) (codes "V") (character_items code row) (125 ∷ []) (10 ∷ []))
    (says_then
    (says_braced (heads_name_blank (r_is number) heads_nil)
    (says_then says_space (says_then (says_braced (heads_word_blank vector_word heads_nil) (says_then says_space gifts)) says_space)))
    says_line)

procedures_word : IsPlainWord (codes "Procedures")
unfolding is_word
procedures_word = plain_word_is (codes "Procedures") refl

-- a row that can be said
pub record IsSayableRow (code : Program) (number : ℕ) : Type 0 where
  pub places : list_all is_place (row_numbered code number) ≡ true
  pub few : length (row_numbered code number) ≤ length code.signals

-- all rows
pub rows_say : (code : Program) → ((signal : ℕ) → IsQuotable double_quote (name_of code signal)) → ((number : ℕ) → IsSayableRow code number)
    → Says (rows_said code) (text_of (row_lines code))
rows_say code names sayable =
    let numbers = range_with_len 0 (length (row_order code)) in
    says_lines (codes "Procedures {") (map (row_line code) numbers) (heads_word_blank procedures_word heads_nil)
    (says_line_each (row_said code) (row_line code) numbers
    (all_any (λ number. Says (row_said code number) (with_feed (row_line code number)))
    (λ number. row_says code number names (sayable number).places (sayable number).few) numbers))
    refl
