-- A loop that puts the texts of numbered items: what it put, and what a fault in one of them leaves.
use Rattle.std.proofs.Common.{◌≡◌, ℕ, zero, suc, ◌+◌, ◌<◌, List, [], ◌∷◌, ◌++◌, length, take, drop, get_or, map, Option, sym, ap, ◌∙◌, subst, arith, append_assoc, refl}
use Rattle.text_bytes.proofs.ListLemmas.{drop-item}
use Rattle.std.proofs.lemmas.List.{take-append-drop, append-nil, take_more, length-take-le}
use Rattle.std.specs.List.{flat_map, range_with_len}
use Rattle.tester_types.specs.Outside.{gained, GainsFront}
use Rattle.tester_types.proofs.OutsideLemmas.{gained-gained, puts_stops}
use Rattle.datalog.specs.DatalogText.{numbered}

-- numbered items in two parts
numbered-append : {X : Type 0} (text : ℕ → X → List ℕ) (n m : ℕ) (xs ys : List X) → m ≡ n + length xs →
    numbered text n (xs ++ ys) ≡ numbered text n xs ++ numbered text m ys
numbered-append text n m [] ys is =
    let same : n ≡ m = omega (arith, is) in ap (λ k. numbered text k ys) same
numbered-append text n m (x ∷ xs) ys is =
    let rest : m ≡ n + 1 + length xs = omega (arith, is) in
    ap (λ t. text n x ++ t) (numbered-append text (n + 1) m xs ys rest)
    ∙ sym (append_assoc (text n x) (numbered text (n + 1) xs) (numbered text m ys))

-- an item among the others
split-at : {X : Type 0} (xs : List X) (i : ℕ) (x : X) → i < length xs → x ≡ get_or xs i x →
    xs ≡ take i xs ++ (x ∷ drop (i + 1) xs)
split-at xs i x within is =
    sym (take-append-drop i xs) ∙ ap (λ rest. take i xs ++ rest) (drop-item xs i x within is)

-- one more item
numbered-more : {X : Type 0} (text : ℕ → X → List ℕ) (n i k : ℕ) (xs : List X) (x : X) → k ≡ n + i →
    i < length xs → x ≡ get_or xs i x → numbered text n (take (i + 1) xs) ≡ numbered text n (take i xs) ++ text k x
numbered-more text n i k xs x place within is =
    let there : k ≡ n + length (take i xs) = omega (arith, length-take-le i xs) in
    ap (numbered text n) (take_more xs i x within ∙ ap (λ y. take i xs ++ y ∷ []) (sym is))
    ∙ numbered-append text n k (take i xs) (x ∷ []) there
    ∙ ap (λ t. numbered text n (take i xs) ++ t) (append-nil (text k x))

-- all items: those before one, it, and those behind it
numbered-split : {X : Type 0} (text : ℕ → X → List ℕ) (n i k : ℕ) (xs : List X) (x : X) → k ≡ n + i →
    i < length xs → x ≡ get_or xs i x →
    numbered text n xs ≡ numbered text n (take i xs) ++ (text k x ++ numbered text (k + 1) (drop (i + 1) xs))
numbered-split text n i k xs x place within is =
    let there : k ≡ n + length (take i xs) = omega (arith, length-take-le i xs) in
    ap (numbered text n) (split-at xs i x within is)
    ∙ numbered-append text n k (take i xs) (x ∷ drop (i + 1) xs) there

-- one more item was put
pub numbered_goes_on : {X : Type 0} (text : ℕ → X → List ℕ) (held before now : Option (List ℕ)) (i : ℕ) (xs : List X) (x : X) →
    i < length xs → x ≡ get_or xs i x →
    before ≡ gained held (numbered text 0 (take i xs)) → now ≡ gained before (text i x) →
    now ≡ gained held (numbered text 0 (take (i + 1) xs))
numbered_goes_on text held before now i xs x within is first more =
    let place : i ≡ 0 + i = omega arith in
    more ∙ ap (λ was. gained was (text i x)) first ∙ gained-gained held (numbered text 0 (take i xs)) (text i x)
    ∙ ap (gained held) (sym (numbered-more text 0 i i xs x place within is))

-- a fault in one item
pub numbered_stops : {X : Type 0} (text : ℕ → X → List ℕ) (held before now : Option (List ℕ)) (i : ℕ) (xs : List X) (x : X) →
    i < length xs → x ≡ get_or xs i x →
    before ≡ gained held (numbered text 0 (take i xs)) → GainsFront before (text i x) now →
    GainsFront held (numbered text 0 xs) now
numbered_stops text held before now i xs x within is first front =
    let place : i ≡ 0 + i = omega arith in
    subst (λ (all : List ℕ). GainsFront held all now) (sym (numbered-split text 0 i i xs x place within is))
    (puts_stops held before now (numbered text 0 (take i xs)) (text i x) (numbered text (i + 1) (drop (i + 1) xs)) first front)

-- numbered counts are the lines of these numbers
pub numbered-counts : (line : ℕ → ℕ → List ℕ) (count : ℕ → ℕ) (a n : ℕ) →
    numbered line a (map count (range_with_len a n)) ≡ flat_map (λ b. line b (count b)) (range_with_len a n)
numbered-counts line count a zero = refl
numbered-counts line count a (suc n) = ap (λ t. line a (count a) ++ t) (numbered-counts line count (a + 1) n)
