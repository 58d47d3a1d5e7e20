-- The lexemes and items that the code finds are those of the definition.
use Rattle.std.proofs.Common.{◌≡◌, ℕ, zero, suc, map, Option, Some, None, length-drop, drop-cons, ◌<◌, ◌≤◌, ◌+◌, ◌-◌, ◌&&◌, Bool, true, false, cond, nat_le, List, [], ◌∷◌, ◌++◌, length, get_or, take, drop, refl, sym, ap, ◌∙◌, subst, arith}
use Rattle.std.specs.Prelude.{◌*◌, ◌^◌, min, fold, slice_range, if◌then◌else◌}
use Rattle.std.specs.List.{list_all}
use Rattle.std.proofs.lemmas.Bool.{le-leb, lt-leb}
use Rattle.std.proofs.lemmas.List.{get_or-drop, take-map, drop-map, append-nil, length-map}
use Rattle.std.proofs.Math.ListN.{get_or-map}
use Rattle.std.proofs.Math.Seq.{drop-length}
use Rattle.stil_ast.specs.Meaning.GroupText.{Lexeme, word, quoted, plus, minus, opens, closes, dot, stray, Term, item_of}
use Rattle.stil_ast.specs.Meaning.GroupReading.{Kind, of_word, of_quote, of_blank, of_sign, ended_by, begun_by, behind_kind, terms_from, with_item}
use Rattle.signal_groups.specs.declared.lexeme.ByteKind.{ByteKind}
use Rattle.signal_groups.specs.declared.lexeme.ByteKind.TheVariants as kinds
use Rattle.signal_groups.specs.declared.lexeme.Lexeme.{Lexeme as Held}
use Rattle.signal_groups.specs.declared.term.Reading.{Reading}
use Rattle.signal_groups.specs.Lexed.{kind_in, lexeme_of, behind, left_of, IsSign}
use Rattle.text_bytes.specs.Bytes.{is_digit, is_printable, begins_name}
use Rattle.text_bytes.specs.Numbers.{with_digit}
use Rattle.stil_ast.specs.Data.Texts.{is_name, is_bare_name, number_of, index_of}

-- one item more of a list's front
take-next : {X : Type 0} (xs : List X) (n : ℕ) (d : X) → n < length xs → take (suc n) xs ≡ take n xs ++ get_or xs n d ∷ []
take-next [] n d l = absurd (omega arith)
take-next (x ∷ xs) zero d l = refl
take-next (x ∷ xs) (suc n) d l = ap (λ ys. x ∷ ys) (take-next xs n d (omega arith))

-- what a piece is with one more item
pub piece-more : {X : Type 0} (xs : List X) (start at : ℕ) (d : X) → start ≤ at → at < length xs
    → slice_range xs start (at + 1) ≡ slice_range xs start at ++ get_or xs at d ∷ []
piece-more xs start at d le lt =
    let more : at + 1 - start ≡ suc (at - start) = omega arith in
    let there : at - start < length (drop start xs) = omega (arith, length-drop start xs) in
    let same : start + (at - start) ≡ at = omega arith in
    ap (λ n. take n (drop start xs)) more
    ∙ take-next (drop start xs) (at - start) d there
    ∙ ap (λ y. take (at - start) (drop start xs) ++ y ∷ []) (get_or-drop start xs (at - start) d ∙ ap (λ n. get_or xs n d) same)

-- what begins behind a place begins with the item there
pub drop-at : {X : Type 0} (xs : List X) (at : ℕ) (d : X) → at < length xs → drop at xs ≡ get_or xs at d ∷ drop (at + 1) xs
drop-at xs at d lt = let next : suc at ≡ at + 1 = omega arith in
    drop-cons xs at d lt ∙ ap (λ n. get_or xs at d ∷ drop n xs) next

-- the first byte of a name
pub is_name_some : (name : List ℕ) → 1 ≤ length name
    → is_name name ≡ (nat_le (length name) 1024 && list_all is_printable name)
is_name_some [] some = absurd (omega arith)
is_name_some (c ∷ cs) some = refl

pub is_bare_name_some : (name : List ℕ) → 1 ≤ length name
    → is_bare_name name ≡ (begins_name (get_or name 0 0) && is_name name)
is_bare_name_some [] some = absurd (omega arith)
is_bare_name_some (c ∷ cs) some = refl

-- a number that stops at a bound is small where the number itself is
saturated : (digits : List ℕ) (n m : ℕ) → m ≡ min n (2 ^ 64 - 1)
    → fold with_digit m digits ≡ min (fold (λ n c. n * 10 + (c - 48)) n digits) (2 ^ 64 - 1)
saturated [] n m e = e
saturated (c ∷ cs) n m e = saturated cs (n * 10 + (c - 48)) (with_digit m c) (omega (arith, e))

pub small_number : (digits : List ℕ) (n : ℕ) → n ≡ fold with_digit 0 digits → n ≤ 4294967295
    → Some n ≡ (if nat_le (number_of digits) 4294967295 then Some (number_of digits) else None)
small_number digits n e l =
    let s = saturated digits 0 0 refl in
    let same : n ≡ number_of digits = omega (arith, e, s, l) in
    let le : nat_le (number_of digits) 4294967295 ≡ true = le-leb (number_of digits) 4294967295 (omega (arith, e, s, l)) in
    ap (λ k. Some k) same ∙ sym (ap (λ b. cond b (Some (number_of digits)) None) le)

pub large_number : (digits : List ℕ) (n : ℕ) → n ≡ fold with_digit 0 digits → 4294967295 < n
    → None ≡ (if nat_le (number_of digits) 4294967295 then Some (number_of digits) else None)
large_number digits n e l =
    let s = saturated digits 0 0 refl in
    let gt : nat_le (number_of digits) 4294967295 ≡ false = lt-leb (number_of digits) 4294967295 (omega (arith, e, s, l)) in
    sym (ap (λ b. cond b (Some (number_of digits)) None) gt)

-- an index is digits
pub index_of-digits : (digits : List ℕ) → list_all is_digit digits ≡ true
    → (if nat_le (number_of digits) 4294967295 then Some (number_of digits) else None) ≡ index_of digits
index_of-digits digits e =
    sym (ap (λ b. cond (b && nat_le (number_of digits) 4294967295) (Some (number_of digits)) None) e)

pub index_of-other : (digits : List ℕ) → list_all is_digit digits ≡ false → None ≡ index_of digits
index_of-other digits e =
    sym (ap (λ b. cond (b && nat_le (number_of digits) 4294967295) (Some (number_of digits)) None) e)

-- what isn't of a word ends a word, and goes on as if there was none
pub kind_in-word : (k : ByteKind) → kind_in k ≡ of_word → k ≡ kinds.Word
kind_in-word kinds.Word e = refl
kind_in-word kinds.Quote e = cc
kind_in-word kinds.Blank e = cc
kind_in-word kinds.Sign e = cc

pub ended_by-other : (bytes : List ℕ) (k : Kind) (c : ℕ) → (k ≡ of_word → ⊥) → ended_by bytes k c ≡ word bytes ∷ begun_by k c
ended_by-other bytes of_word c ne = absurd (ne refl)
ended_by-other bytes of_quote c ne = refl
ended_by-other bytes of_blank c ne = refl
ended_by-other bytes of_sign c ne = refl

pub behind_kind-other : (bytes : List ℕ) (k : Kind) (c : ℕ) → (k ≡ of_word → ⊥) → behind_kind [] k c ≡ behind_kind bytes k c
behind_kind-other bytes of_word c ne = absurd (ne refl)
behind_kind-other bytes of_quote c ne = refl
behind_kind-other bytes of_blank c ne = refl
behind_kind-other bytes of_sign c ne = refl

-- a lexeme that is no sign belongs to the item at hand
terms_from-other : (adds : Bool) (item : List Lexeme) (l : Lexeme) (rest : List Lexeme) → IsSign l None
    → terms_from adds (item ++ l ∷ []) rest ≡ terms_from adds item (l ∷ rest)
terms_from-other adds item (word bytes) rest h = refl
terms_from-other adds item (quoted bytes) rest h = refl
terms_from-other adds item plus rest h = absurd (h.0 refl)
terms_from-other adds item minus rest h = absurd (h.1 refl)
terms_from-other adds item opens rest h = refl
terms_from-other adds item closes rest h = refl
terms_from-other adds item dot rest h = refl
terms_from-other adds item stray rest h = refl

-- a sign ends it
terms_from-sign : (adds next : Bool) (item : List Lexeme) (l : Lexeme) (rest : List Lexeme) → IsSign l (Some next)
    → terms_from adds item (l ∷ rest) ≡ with_item adds (item_of item) (terms_from next [] rest)
terms_from-sign adds true item l rest h = ap (λ x. terms_from adds item (x ∷ rest)) h
terms_from-sign adds false item l rest h = ap (λ x. terms_from adds item (x ∷ rest)) h

map_piece : (hs : List Held) (start at : ℕ) → map lexeme_of (slice_range hs start at) ≡ slice_range (map lexeme_of hs) start at
map_piece hs start at =
    sym (take-map lexeme_of (at - start) (drop start hs)) ∙ ap (take (at - start)) (sym (drop-map lexeme_of start hs))

-- a lexeme that is no sign is taken
pub left-other : (terms : List Term) (hs : List Held) (at : ℕ) (r : Reading) (d : Held) → at < length hs → r.start ≤ at
    → IsSign (lexeme_of (get_or hs at d)) None
    → left_of terms (map lexeme_of hs) (at + 1) r ≡ left_of terms (map lexeme_of hs) at r
left-other terms hs at r d lt le h =
    let ls = map lexeme_of hs in
    let here : get_or ls at (lexeme_of d) ≡ lexeme_of (get_or hs at d) = get_or-map lexeme_of hs at d in
    let lt' : at < length ls = omega (arith, lt, length-map hs lexeme_of) in
    let h' : IsSign (get_or ls at (lexeme_of d)) None = subst (λ l. IsSign l None) (sym here) h in
    ap (behind r.good terms) (
    ap (λ item. terms_from r.adds item (drop (at + 1) ls)) (piece-more ls r.start at (lexeme_of d) le lt')
    ∙ terms_from-other r.adds (slice_range ls r.start at) (get_or ls at (lexeme_of d)) (drop (at + 1) ls) h'
    ∙ ap (terms_from r.adds (slice_range ls r.start at)) (sym (drop-at ls at (lexeme_of d) lt')))

abbrev pub PutsItem : Bool → Bool → List Term → List Term → List Lexeme → Type 0
PutsItem adds good terms terms' item = (more : Option (List Term)) → (before : Bool)
    → behind (before && good) terms' more ≡ behind before terms (with_item adds (item_of item) more)

-- a sign is taken
pub left-sign : (terms terms' : List Term) (hs : List Held) (at : ℕ) (r : Reading) (next good : Bool) (d : Held)
    → at < length hs → r.start ≤ at → IsSign (lexeme_of (get_or hs at d)) (Some next)
    → PutsItem r.adds good terms terms' (map lexeme_of (slice_range hs r.start at))
    → left_of terms' (map lexeme_of hs) (at + 1) (record { good = r.good && good; adds = next; start = at + 1 })
    ≡ left_of terms (map lexeme_of hs) at r
left-sign terms terms' hs at r next good d lt le h puts =
    let ls = map lexeme_of hs in
    let here : get_or ls at (lexeme_of d) ≡ lexeme_of (get_or hs at d) = get_or-map lexeme_of hs at d in
    let lt' : at < length ls = omega (arith, lt, length-map hs lexeme_of) in
    let h' : IsSign (get_or ls at (lexeme_of d)) (Some next) = subst (λ l. IsSign l (Some next)) (sym here) h in
    let none : at + 1 - (at + 1) ≡ 0 = omega arith in
    ap (λ n. behind (r.good && good) terms' (terms_from next (take n (drop (at + 1) ls)) (drop (at + 1) ls))) none
    ∙ puts (terms_from next [] (drop (at + 1) ls)) r.good
    ∙ ap (behind r.good terms) (
    ap (λ item. with_item r.adds (item_of item) (terms_from next [] (drop (at + 1) ls))) (map_piece hs r.start at)
    ∙ sym (terms_from-sign r.adds next (slice_range ls r.start at) (get_or ls at (lexeme_of d)) (drop (at + 1) ls) h')
    ∙ ap (terms_from r.adds (slice_range ls r.start at)) (sym (drop-at ls at (lexeme_of d) lt')))

-- at the end
pub left-end : (terms terms' : List Term) (hs : List Held) (r : Reading) (good : Bool)
    → PutsItem r.adds good terms terms' (map lexeme_of (slice_range hs r.start (length hs)))
    → behind (r.good && good) terms' (Some []) ≡ left_of terms (map lexeme_of hs) (length hs) r
left-end terms terms' hs r good puts =
    let ls = map lexeme_of hs in
    let none : drop (length hs) ls ≡ [] = ap (λ n. drop n ls) (sym (length-map hs lexeme_of)) ∙ drop-length ls in
    puts (Some []) r.good
    ∙ ap (λ item. behind r.good terms (with_item r.adds (item_of item) (Some []))) (map_piece hs r.start (length hs))
    ∙ ap (λ rest. behind r.good terms (terms_from r.adds (slice_range ls r.start (length hs)) rest)) (sym none)

pub good_terms : (good : Bool) (terms : List Term) (wanted : Option (List Term)) → good ≡ true
    → behind good terms (Some []) ≡ wanted → Some terms ≡ wanted
good_terms good terms wanted e h = ap (λ ts. Some ts) (sym (append-nil terms)) ∙ ap (λ b. behind b terms (Some [])) (sym e) ∙ h

pub bad_terms : (good : Bool) (terms : List Term) (wanted : Option (List Term)) → good ≡ false
    → behind good terms (Some []) ≡ wanted → None ≡ wanted
bad_terms good terms wanted e h = ap (λ b. behind b terms (Some [])) (sym e) ∙ h
