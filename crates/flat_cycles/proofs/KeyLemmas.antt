-- The pairs of a signal and a waveform character, in order: all that a table may have a wave for.
use Rattle.std.proofs.Common.{◌≡◌, ℕ, zero, suc, ◌+◌, ◌*◌, ◌<◌, ◌≤◌, Bool, true, false, ◌||◌, ◌&&◌, ◌==◌, nat_lt, nat_le, List, [], ◌∷◌, ◌++◌, map, flat_map, filter_map, Option, refl, sym, ap, ◌∙◌, arith, inl, inr}
use Rattle.std.specs.List.{AllByRecursion, list_all, cons_option}
use Rattle.std.proofs.lemmas.Bool.{eqb-true, eqb-false, eq-eqb, or_cases, or_left, or_right, and_parts, ltb-true, leb-true}
use Rattle.std.proofs.lemmas.List.Elements.{filter_map-append}
use Rattle.std.proofs.lemmas.List.Folds.{list_any-append}
use Rattle.text_bytes.specs.Bytes.{is_character}
use Rattle.stil_ast.specs.Data.Texts.{upwards}
use Rattle.stil_ast.specs.Meaning.Tables.{every_character}
use Rattle.text_bytes.proofs.ListLemmas.{all_append}
use Rattle.flat_cycles.proofs.SortedLemmas.{Rising, has_rank}

-- ---- numbers upwards

upwards_least : (a b n : ℕ) → a ≤ b → AllByRecursion (λ x. a ≤ x) (upwards b n)
upwards_least a b zero less = tt
upwards_least a b (suc n) less = (less, upwards_least a (suc b) n (omega (arith, less)))

pub upwards_rising : (a n : ℕ) → Rising (λ (x : ℕ). x) (upwards a n)
upwards_rising a zero = tt
upwards_rising a (suc n) = (upwards_least (suc a) (suc a) n (omega arith), upwards_rising (suc a) n)

has_by : (b : Bool) (a n i : ℕ) → (a == i) ≡ b → a ≤ i → (suc a ≤ i → has_rank (λ (x : ℕ). x) (upwards (suc a) n) i ≡ true)
    → (b || has_rank (λ (x : ℕ). x) (upwards (suc a) n) i) ≡ true
has_by true a n i e least later = refl
has_by false a n i e least later = let other : a ≡ i → ⊥ = eqb-false a i e in later (grind arith)

pub upwards_has : (a n i : ℕ) → a ≤ i → i < a + n → has_rank (λ (x : ℕ). x) (upwards a n) i ≡ true
upwards_has a zero i least most = absurd (omega (arith, least, most))
upwards_has a (suc n) i least most =
    has_by (a == i) a n i refl least (λ more. upwards_has (suc a) n i more (omega (arith, most)))

-- ---- waveform characters

-- whether numbers rise strictly
is_rising : List ℕ → Bool
is_rising [] = true
is_rising (x ∷ xs) = list_all (nat_lt x) xs && is_rising xs

all_above : (x : ℕ) (xs : List ℕ) → list_all (nat_lt x) xs ≡ true → AllByRecursion (λ y. x < y) xs
all_above x [] e = tt
all_above x (y ∷ xs) e =
    let parts = and_parts (nat_lt x y) (list_all (nat_lt x) xs) e in
    (ltb-true x y parts.0, all_above x xs parts.1)

rising_tested : (xs : List ℕ) → is_rising xs ≡ true → Rising (λ (x : ℕ). x) xs
unfolding is_rising
rising_tested [] e = tt
rising_tested (x ∷ xs) e =
    let parts = and_parts (list_all (nat_lt x) xs) (is_rising xs) e in
    (all_above x xs parts.0, rising_tested xs parts.1)

all_small : (xs : List ℕ) → list_all (λ x. nat_lt x 256) xs ≡ true → AllByRecursion (λ x. x < 256) xs
all_small [] e = tt
all_small (x ∷ xs) e =
    let parts = and_parts (nat_lt x 256) (list_all (λ y. nat_lt y 256) xs) e in
    (ltb-true x 256 parts.0, all_small xs parts.1)

characters_tested : is_rising every_character ≡ true
unfolding is_rising
characters_tested = refl

pub characters_rising : Rising (λ (x : ℕ). x) every_character
characters_rising = rising_tested every_character characters_tested

pub characters_small : AllByRecursion (λ x. x < 256) every_character
characters_small = all_small every_character refl

-- which part of them a character is in
is_between : (low high l : ℕ) → (nat_le low l && nat_le l high) ≡ true → (low ≤ l) × (l ≤ high)
is_between low high l e = let parts = and_parts (nat_le low l) (nat_le l high) e in (leb-true low l parts.0, leb-true l high parts.1)

-- each character is one of them
pub characters_have : (l : ℕ) → is_character l ≡ true → has_rank (λ (x : ℕ). x) every_character l ≡ true
unfolding is_character
characters_have l e =
    let digits = has_rank (λ (x : ℕ). x) (upwards 48 10) l in
    let upper = has_rank (λ (x : ℕ). x) (upwards 65 26) l in
    let lower = has_rank (λ (x : ℕ). x) (upwards 97 26) l in
    let split : has_rank (λ (x : ℕ). x) every_character l ≡ (digits || (upper || lower)) =
    list_any-append (λ x. x == l) (upwards 48 10) (upwards 65 26 ++ upwards 97 26)
    ∙ ap (λ (b : Bool). digits || b) (list_any-append (λ x. x == l) (upwards 65 26) (upwards 97 26)) in
    split ∙ elim (or_cases ((nat_le 0x61 l && nat_le l 0x7A) || (nat_le 0x41 l && nat_le l 0x5A)) (nat_le 0x30 l && nat_le l 0x39) e) [
      | inl character ↦ elim (or_cases (nat_le 0x61 l && nat_le l 0x7A) (nat_le 0x41 l && nat_le l 0x5A) character) [
        | inl is ↦
            or_right digits (upper || lower) (or_right upper lower
            (let b = is_between 0x61 0x7A l is in upwards_has 97 26 l b.0 (omega (arith, b.1))))
        | inr is ↦
            or_right digits (upper || lower) (or_left upper lower
            (let b = is_between 0x41 0x5A l is in upwards_has 65 26 l b.0 (omega (arith, b.1))))
      ]
      | inr is ↦ or_left digits (upper || lower) (let b = is_between 0x30 0x39 l is in upwards_has 48 10 l b.0 (omega (arith, b.1)))
    ]

-- ---- pairs

-- a pair as a number
abbrev pub rank_of : ℕ × ℕ → ℕ
rank_of k = k.0 * 256 + k.1

-- a signal with each of these characters
abbrev pub row_keys : ℕ → List ℕ → List (ℕ × ℕ)
row_keys signal characters = map (λ (l : ℕ). (signal, l)) characters

-- each signal with each character
abbrev pub keys : List ℕ → List ℕ → List (ℕ × ℕ)
keys signals characters = flat_map (λ (s : ℕ). row_keys s characters) signals

above_row : (signal l : ℕ) (characters : List ℕ) → AllByRecursion (λ y. l < y) characters
    → AllByRecursion (λ k. rank_of (signal, l) < rank_of k) (row_keys signal characters)
above_row signal l [] all = tt
above_row signal l (x ∷ characters) all = (let less = all.0 in omega (arith, less), above_row signal l characters all.1)

row_rising : (signal : ℕ) (characters : List ℕ) → Rising (λ (x : ℕ). x) characters → Rising rank_of (row_keys signal characters)
row_rising signal [] rising = tt
row_rising signal (l ∷ characters) rising = (above_row signal l characters rising.0, row_rising signal characters rising.1)

row_small : (signal : ℕ) (characters : List ℕ) → AllByRecursion (λ x. x < 256) characters
    → AllByRecursion (λ k. rank_of k < signal * 256 + 256) (row_keys signal characters)
row_small signal [] all = tt
row_small signal (l ∷ characters) all = (let less = all.0 in omega (arith, less), row_small signal characters all.1)

row_least : (signal s : ℕ) (characters : List ℕ) → signal < s → AllByRecursion (λ k. signal * 256 + 256 ≤ rank_of k) (row_keys s characters)
row_least signal s [] less = tt
row_least signal s (l ∷ characters) less = (omega (arith, less), row_least signal s characters less)

keys_least : (signal : ℕ) (signals characters : List ℕ) → AllByRecursion (λ s. signal < s) signals
    → AllByRecursion (λ k. signal * 256 + 256 ≤ rank_of k) (keys signals characters)
keys_least signal [] characters all = tt
keys_least signal (s ∷ signals) characters all =
    all_append (λ k. signal * 256 + 256 ≤ rank_of k) (row_keys s characters) (keys signals characters)
    (row_least signal s characters all.0) (keys_least signal signals characters all.1)

all_after : (n m : ℕ) (ks : List (ℕ × ℕ)) → n < m → AllByRecursion (λ k. m ≤ rank_of k) ks → AllByRecursion (λ k. n < rank_of k) ks
all_after n m [] less all = tt
all_after n m (k ∷ ks) less all = (let least = all.0 in omega (arith, less, least), all_after n m ks less all.1)

rising_append : (m : ℕ) (ks more : List (ℕ × ℕ)) → AllByRecursion (λ k. rank_of k < m) ks → AllByRecursion (λ k. m ≤ rank_of k) more
    → Rising rank_of ks → Rising rank_of more → Rising rank_of (ks ++ more)
rising_append m [] more small least one two = two
rising_append m (k ∷ ks) more small least one two = (
  all_append (λ x. rank_of k < rank_of x) ks more one.0 (all_after (rank_of k) m more small.0 least),
  rising_append m ks more small.1 least one.1 two,
)

-- pairs rise by signal and then by character
pub keys_rising : (signals characters : List ℕ) → AllByRecursion (λ x. x < 256) characters → Rising (λ (x : ℕ). x) characters
    → Rising (λ (x : ℕ). x) signals → Rising rank_of (keys signals characters)
keys_rising [] characters small rising signals_rising = tt
keys_rising (s ∷ signals) characters small rising signals_rising =
    rising_append (s * 256 + 256) (row_keys s characters) (keys signals characters) (row_small s characters small)
    (keys_least s signals characters signals_rising.0) (row_rising s characters rising)
    (keys_rising signals characters small rising signals_rising.1)

row_by : (b there : Bool) (signal x l : ℕ) (characters : List ℕ) → (x == l) ≡ b → (b || there) ≡ true
    → (there ≡ true → has_rank rank_of (row_keys signal characters) (signal * 256 + l) ≡ true)
    → ((signal * 256 + x == signal * 256 + l) || has_rank rank_of (row_keys signal characters) (signal * 256 + l)) ≡ true
row_by true there signal x l characters e h later =
    or_left (signal * 256 + x == signal * 256 + l) (has_rank rank_of (row_keys signal characters) (signal * 256 + l))
    (eq-eqb (signal * 256 + x) (signal * 256 + l) (ap (λ (n : ℕ). signal * 256 + n) (eqb-true x l e)))
row_by false there signal x l characters e h later =
    or_right (signal * 256 + x == signal * 256 + l) (has_rank rank_of (row_keys signal characters) (signal * 256 + l)) (later h)

row_has : (signal : ℕ) (characters : List ℕ) (l : ℕ) → has_rank (λ (x : ℕ). x) characters l ≡ true
    → has_rank rank_of (row_keys signal characters) (signal * 256 + l) ≡ true
row_has signal [] l h = absurd cc
row_has signal (x ∷ characters) l h =
    row_by (x == l) (has_rank (λ (y : ℕ). y) characters l) signal x l characters refl h (λ there. row_has signal characters l there)

keys_by : (b there : Bool) (s signal l : ℕ) (signals characters : List ℕ) → (s == signal) ≡ b → (b || there) ≡ true
    → has_rank (λ (x : ℕ). x) characters l ≡ true
    → (there ≡ true → has_rank rank_of (keys signals characters) (signal * 256 + l) ≡ true)
    → (has_rank rank_of (row_keys s characters) (signal * 256 + l) || has_rank rank_of (keys signals characters) (signal * 256 + l)) ≡ true
keys_by true there s signal l signals characters e h has later =
    or_left (has_rank rank_of (row_keys s characters) (signal * 256 + l)) (has_rank rank_of (keys signals characters) (signal * 256 + l))
    (ap (λ (x : ℕ). has_rank rank_of (row_keys x characters) (signal * 256 + l)) (eqb-true s signal e) ∙ row_has signal characters l has)
keys_by false there s signal l signals characters e h has later =
    or_right (has_rank rank_of (row_keys s characters) (signal * 256 + l)) (has_rank rank_of (keys signals characters) (signal * 256 + l))
    (later h)

-- each pair is there
pub keys_have : (signals characters : List ℕ) (signal l : ℕ) → has_rank (λ (x : ℕ). x) signals signal ≡ true
    → has_rank (λ (x : ℕ). x) characters l ≡ true → has_rank rank_of (keys signals characters) (signal * 256 + l) ≡ true
keys_have [] characters signal l there has = absurd cc
keys_have (s ∷ signals) characters signal l there has =
    list_any-append (λ k. rank_of k == signal * 256 + l) (row_keys s characters) (keys signals characters)
    ∙ keys_by (s == signal) (has_rank (λ (x : ℕ). x) signals signal) s signal l signals characters refl there has
    (λ later. keys_have signals characters signal l later has)

-- ---- what comes of pairs

mapped_row : {B : Type 0} (f : ℕ × ℕ → Option B) (signal : ℕ) (characters : List ℕ)
    → filter_map (λ l. f (signal, l)) characters ≡ filter_map f (row_keys signal characters)
mapped_row f signal [] = refl
mapped_row f signal (l ∷ characters) = ap (cons_option (f (signal, l))) (mapped_row f signal characters)

-- signal by signal, or pair by pair
pub mapped_keys : {B : Type 0} (f : ℕ × ℕ → Option B) (signals characters : List ℕ)
    → flat_map (λ s. filter_map (λ l. f (s, l)) characters) signals ≡ filter_map f (keys signals characters)
mapped_keys f [] characters = refl
mapped_keys f (s ∷ signals) characters =
    ap (λ (l : List _). l ++ flat_map (λ s. filter_map (λ l. f (s, l)) characters) signals) (mapped_row f s characters)
    ∙ ap (λ (l : List _). filter_map f (row_keys s characters) ++ l) (mapped_keys f signals characters)
    ∙ sym (filter_map-append f (row_keys s characters) (keys signals characters))
