-- Texts that are put for the numbers of a range, one by one.
use Rattle.std.proofs.Common.{◌≡◌, ℕ, zero, suc, ◌+◌, ◌<◌, ◌≤◌, List, ◌++◌, take, Option, sym, ap, ◌∙◌, arith, append_assoc}
use Rattle.std.specs.List.{flat_map, range_with_len}
use Rattle.std.proofs.lemmas.List.{append-nil, take_all}
use Rattle.std.proofs.lemmas.List.FromFn.{length-range_with_len, get_or-range_with_len}
use Rattle.tester_types.specs.Outside.{gained, GainsFront}
use Rattle.tester_types.proofs.OutsideLemmas.{gained_both, each_stops}

-- one number more
ranged_suc : (f : ℕ → List ℕ) (a n i : ℕ) → i < n →
    flat_map f (take (suc i) (range_with_len a n)) ≡ flat_map f (take i (range_with_len a n)) ++ f (a + i)
ranged_suc f a zero i within = absurd (omega arith)
ranged_suc f a (suc n) zero within = append-nil (f a) ∙ ap f (let e : a ≡ a + 0 = omega arith in e)
ranged_suc f a (suc n) (suc i) within =
    ap (λ t. f a ++ t) (ranged_suc f (a + 1) n i (omega arith)
    ∙ ap (λ m. flat_map f (take i (range_with_len (a + 1) n)) ++ f m) (let e : a + 1 + i ≡ a + suc i = omega arith in e))
    ∙ sym (append_assoc (f a) (flat_map f (take i (range_with_len (a + 1) n))) (f (a + suc i)))

-- the text of one number more was gained
pub ranged_more : (f : ℕ → List ℕ) (a n i x : ℕ) (held before now : Option (List ℕ)) → i < n → x ≡ a + i →
    before ≡ gained held (flat_map f (take i (range_with_len a n))) → now ≡ gained before (f x) →
    now ≡ gained held (flat_map f (take (i + 1) (range_with_len a n)))
ranged_more f a n i x held before now within is first second =
    gained_both held before now (flat_map f (take i (range_with_len a n))) (f x) first second
    ∙ ap (gained held) (ap (λ m. flat_map f (take i (range_with_len a n)) ++ f m) is ∙ sym (ranged_suc f a n i within)
    ∙ ap (λ k. flat_map f (take k (range_with_len a n))) (let e : suc i ≡ i + 1 = omega arith in e))

-- a fault in the text of a number
pub ranged_stops : (f : ℕ → List ℕ) (a n i x : ℕ) (held before now : Option (List ℕ)) → i < n → x ≡ a + i →
    before ≡ gained held (flat_map f (take i (range_with_len a n))) → GainsFront before (f x) now →
    GainsFront held (flat_map f (range_with_len a n)) now
ranged_stops f a n i x held before now within is first front =
    each_stops f held before now (range_with_len a n) i x (let size = length-range_with_len a n in omega arith)
    (is ∙ sym (get_or-range_with_len a n i x within)) first front

-- all texts were gained
pub ranged_all : (f : ℕ → List ℕ) (a n i : ℕ) → n ≤ i → flat_map f (take i (range_with_len a n)) ≡ flat_map f (range_with_len a n)
ranged_all f a n i all = ap (flat_map f) (take_all i (range_with_len a n) (let size = length-range_with_len a n in omega arith))
