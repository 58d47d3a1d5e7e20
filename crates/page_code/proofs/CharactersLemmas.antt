-- How far the characters of a row reach.
use Rattle.std.proofs.Common.{◌≡◌, ℕ, zero, suc, ◌-◌, ◌<◌, ◌≤◌, Bool, true, false, cond, leb, ◌&&◌, Err, List, [], ◌∷◌, length, take, min, refl, sym, ap, ◌∙◌, arith}
use Rattle.std.specs.List.{list_all, take_while}
use Rattle.std.proofs.lemmas.Bool.{le-leb, lt-leb}
use Rattle.std.proofs.lemmas.List.Sums.{take_while-cons}
use Rattle.page_code.specs.declared.fault.Refusal.TheVariants.{BadCode}
use Rattle.packed_code.specs.RowBytes.{is_place}
use Rattle.page_code.specs.Fields.{piece_at}
use Rattle.page_code.specs.Reading.{characters_at}

leb-suc : (m n : ℕ) → leb (min (suc m) (suc n)) 0 ≡ false
leb-suc m n = lt-leb _ _ (omega arith)

one_more : (n m k : ℕ) → leb (min n m) k ≡ leb (min (suc n) (suc m)) (suc k)
one_more n m k = grind arith

step : (p : ℕ → Bool) (n b : ℕ) (bs : List ℕ) (first : Bool)
    → list_all p (take n bs) ≡ leb (min n (length bs)) (length (take_while p bs))
    → (first && list_all p (take n bs)) ≡ leb (min (suc n) (suc (length bs))) (length (cond first (b ∷ take_while p bs) []))
step p n b bs true more = more ∙ one_more n (length bs) (length (take_while p bs))
step p n b bs false more = sym (leb-suc n (length bs))

-- all of the first n pass where the front that passes is as long
pub all_take : (p : ℕ → Bool) (n : ℕ) (bs : List ℕ) → list_all p (take n bs) ≡ leb (min n (length bs)) (length (take_while p bs))
all_take p zero bs = sym (le-leb _ _ (omega arith))
all_take p (suc n) [] = sym (le-leb _ _ (omega arith))
all_take p (suc n) (b ∷ bs) =
    step p n b bs (p b) (all_take p n bs)
    ∙ ap (λ (xs : List ℕ). leb (min (suc n) (suc (length bs))) (length xs)) (sym (take_while-cons p b bs))

while_step : (p : ℕ → Bool) (n b : ℕ) (bs : List ℕ) (first : Bool)
    → length (take_while p (take n bs)) ≡ min n (length (take_while p bs))
    → length (cond first (b ∷ take_while p (take n bs)) []) ≡ min (suc n) (length (cond first (b ∷ take_while p bs) []))
while_step p n b bs true more = ap suc more ∙ grind arith
while_step p n b bs false more = omega arith

-- the front that passes of the first n
pub length_while : (p : ℕ → Bool) (n : ℕ) (bs : List ℕ)
    → length (take_while p (take n bs)) ≡ min n (length (take_while p bs))
length_while p zero bs = omega arith
length_while p (suc n) [] = omega arith
length_while p (suc n) (b ∷ bs) =
    ap (λ (xs : List ℕ). length xs) (take_while-cons p b (take n bs))
    ∙ while_step p n b bs (p b) (length_while p n bs)
    ∙ ap (λ (xs : List ℕ). min (suc n) (length xs)) (sym (take_while-cons p b bs))

-- a character that is refused
pub characters_refused : (signals most front : ℕ) (bytes : List ℕ) → most ≡ min signals (length bytes)
    → front ≡ length (take_while is_place (take most bytes)) → front < most
    → characters_at signals bytes ≡ Err (BadCode (length bytes - front))
unfolding characters_at
characters_refused signals most front bytes few is short =
    let of_most = is ∙ length_while is_place most bytes in
    let whole : front ≡ length (take_while is_place bytes) = omega (arith, of_most, short) in
    let no : list_all is_place (take signals bytes) ≡ false =
    all_take is_place signals bytes ∙ lt-leb _ _ (omega (arith, whole, few, short)) in
    rw (no, ← whole) refl

-- characters that are all taken
pub characters_taken : (signals most front : ℕ) (bytes : List ℕ) → most ≡ min signals (length bytes)
    → front ≡ length (take_while is_place (take most bytes)) → most ≤ front
    → characters_at signals bytes ≡ piece_at signals bytes
unfolding characters_at
characters_taken signals most front bytes few is long =
    let of_most = is ∙ length_while is_place most bytes in
    let yes : list_all is_place (take signals bytes) ≡ true =
    all_take is_place signals bytes ∙ le-leb _ _ (omega (arith, of_most, few, long)) in
    rw yes refl
