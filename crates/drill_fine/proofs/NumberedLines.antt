-- Lines that are made one after another, by their numbers.
use Rattle.std.proofs.Common.{◌≡◌, ℕ, zero, suc, ◌+◌, ◌*◌, ◌<◌, ◌≤◌, List, [], ◌∷◌, ◌++◌, length, map, sym, ap, ◌∙◌, arith, append_assoc, append-nil, length-append}
use Rattle.std.specs.List.{flat_map, range_with_len}
use Rattle.std.proofs.lemmas.List.Concat.{flat_map-cons}
use Rattle.std.proofs.lemmas.List.FromFn.{map-range_with_len_more}
use Rattle.std.proofs.lemmas.List.Folds.{flat_map-map}
use Rattle.std.proofs.lemmas.Grind.{flat_map-append}

-- the lines of some numbers, joined from the list of them
joined : (f : ℕ → List ℕ) (numbers : List ℕ) → flat_map f numbers ≡ flat_map (λ (l : List ℕ). l) (map f numbers)
joined f numbers = sym (flat_map-map (λ (l : List ℕ). l) f numbers)

-- one more line
more_lines : (f : ℕ → List ℕ) (first count next : ℕ) → first + count ≡ next
    → flat_map f (range_with_len first (count + 1)) ≡ flat_map f (range_with_len first count) ++ f next
more_lines f first count next is =
    let before = map f (range_with_len first count) in
    joined f (range_with_len first (count + 1))
    ∙ ap (flat_map (λ (l : List ℕ). l)) (map-range_with_len_more f first count next is)
    ∙ flat_map-append (λ (l : List ℕ). l) before (f next ∷ [])
    ∙ ap (λ (l : List ℕ). flat_map (λ (m : List ℕ). m) before ++ l) (append-nil (f next))
    ∙ ap (λ (l : List ℕ). l ++ f next) (sym (joined f (range_with_len first count)))

-- one more line behind a head
pub goes_on : (f : ℕ → List ℕ) (head text : List ℕ) (first count more next : ℕ) → first + count ≡ next → more ≡ count + 1
    → text ≡ head ++ flat_map f (range_with_len first count) → text ++ f next ≡ head ++ flat_map f (range_with_len first more)
goes_on f head text first count more next is one so =
    ap (λ (l : List ℕ). l ++ f next) so
    ∙ append_assoc head (flat_map f (range_with_len first count)) (f next)
    ∙ ap (λ (l : List ℕ). head ++ l) (sym (more_lines f first count next is))
    ∙ ap (λ (m : ℕ). head ++ flat_map f (range_with_len first m)) (sym one)

-- lines of at most 64 bytes make at most as many as 64 for each
pub length-lines : (f : ℕ → List ℕ) (first count : ℕ) → ((k : ℕ) → k < first + count → length (f k) ≤ 64)
    → length (flat_map f (range_with_len first count)) ≤ 64 * count
length-lines f first zero short = omega arith
length-lines f first (suc count) short =
    let rest = length-lines f (first + 1) count (λ k below. short k (omega arith)) in
    let one = short first (omega arith) in
    let cons = ap length (flat_map-cons f first (range_with_len (first + 1) count)) in
    let both = length-append (f first) (flat_map f (range_with_len (first + 1) count)) in
    omega arith
