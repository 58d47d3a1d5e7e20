-- Dealing out ranks to parts: each rank goes to one place of one part, and each place has one.
use Rattle.std.proofs.Common.{◌≡◌, ◌==◌, ℕ, zero, suc, ◌+◌, ◌-◌, ◌*◌, ◌/◌, ◌%◌, ◌<◌, ◌≤◌, Bool, cond, [], refl, sym, ap, ◌∙◌, ◌⊎◌, inl, inr, arith}
use Rattle.std.specs.List.{count_by, range_with_len}
use Rattle.std.proofs.lemmas.Bool.{cases_eq, cases_lt, eq-eqb, ne_eqb}
use Rattle.std.proofs.lemmas.Nat.{div-mul-add, mod-mul-add}
use Rattle.std.proofs.lemmas.List.Sums.{length-filter, sum_by-append, sum_by-cons}
use Rattle.text_bytes.proofs.ListLemmas.{range-append}
use Rattle.plan_parts.specs.Cut.{sites_in_part}

-- ---- sums

-- the sum over the numbers below one
abbrev pub total : (ℕ → ℕ) → ℕ → ℕ
total f zero = 0
total f (suc n) = total f n + f n

-- equal terms have equal sums
pub total-same : (f g : ℕ → ℕ) (n : ℕ) → ((k : ℕ) → k < n → f k ≡ g k) → total f n ≡ total g n
total-same f g zero same = refl
total-same f g (suc n) same =
    let front = total-same f g n (λ k below. same k (omega arith)) in
    let last = same n (omega arith) in
    omega arith

-- no terms, no sum
pub total-none : (f : ℕ → ℕ) (n : ℕ) → ((k : ℕ) → f k ≡ 0) → total f n ≡ 0
total-none f zero none = refl
total-none f (suc n) none = let front = total-none f n none in let last = none n in omega arith

-- the first term apart
pub total-front : (f : ℕ → ℕ) (n : ℕ) → total f (suc n) ≡ f 0 + total (λ k. f (suc k)) n
total-front f zero = omega arith
total-front f (suc n) = let front = total-front f n in omega arith

-- one term more at one place
pub total-one_more : (f g : ℕ → ℕ) (n k v : ℕ) → k < n → g k ≡ f k + v → ((p : ℕ) → (p ≡ k → ⊥) → g p ≡ f p) →
    total g n ≡ total f n + v
total-one_more f g zero k v within there others = absurd (omega arith)
total-one_more f g (suc n) k v within there others =
    elim (cases_eq n k) [
      | inl same ↦
          let front = total-same g f n (λ p below. others p (λ e. absurd (omega arith))) in
          let last : g n ≡ f n + v = ap g same ∙ there ∙ ap (λ x. f x + v) (sym same) in
          omega arith
      | inr other ↦
          let front = total-one_more f g n k v (omega arith) there others in
          let last = others n other in
          omega arith
    ]

-- ---- ranks

-- the next rank, in the same round
same_round : (parts rank : ℕ) → 0 < parts → rank % parts + 1 < parts →
    ((rank + 1) / parts ≡ rank / parts) × ((rank + 1) % parts ≡ rank % parts + 1)
same_round parts rank some below =
    let is : rank + 1 ≡ (rank / parts) * parts + (rank % parts + 1) = omega arith in (
      ap (λ r. r / parts) is ∙ div-mul-add (rank / parts) parts (rank % parts + 1) below,
      ap (λ r. r % parts) is ∙ mod-mul-add (rank / parts) parts (rank % parts + 1) below,
    )

-- the next rank, in the next round
next_round : (parts rank : ℕ) → 0 < parts → rank % parts + 1 ≡ parts →
    ((rank + 1) / parts ≡ rank / parts + 1) × ((rank + 1) % parts ≡ 0)
next_round parts rank some last =
    let is : rank + 1 ≡ (rank / parts + 1) * parts + 0 = omega arith in (
      ap (λ r. r / parts) is ∙ div-mul-add (rank / parts + 1) parts 0 some,
      ap (λ r. r % parts) is ∙ mod-mul-add (rank / parts + 1) parts 0 some,
    )

-- one rank more goes to one part
pub part-more : (parts part rank : ℕ) →
    sites_in_part parts part (rank + 1) ≡ sites_in_part parts part rank + cond {A = ℕ} (rank % parts == part) 1 0
part-more parts part rank =
    let test : ℕ → Bool = λ r. r % parts == part in
    let weight : ℕ → ℕ = λ r. cond {A = ℕ} (r % parts == part) 1 0 in
    let whole = length-filter test (range_with_len 0 (rank + 1)) in
    let cut = ap (count_by test) (range-append 0 rank 1) in
    let sum = sum_by-append weight (range_with_len 0 rank) (range_with_len (0 + rank) 1) in
    let front = length-filter test (range_with_len 0 rank) in
    let one = sum_by-cons weight (0 + rank) [] in
    let same = ap weight (let e : 0 + rank ≡ rank = omega arith in e) in
    omega arith

-- how many sites a part has: the rounds that are full, and one more where the last round came to it
part_count : (parts part rank : ℕ) → part < parts →
    ((part < rank % parts) × (sites_in_part parts part rank ≡ rank / parts + 1))
    ⊎ ((rank % parts ≤ part) × (sites_in_part parts part rank ≡ rank / parts))
part_count parts part zero within =
    let some : 0 < parts = omega arith in
    let is : 0 ≡ 0 * parts + 0 = omega arith in
    let quotient : 0 / parts ≡ 0 = ap (λ r. r / parts) is ∙ div-mul-add 0 parts 0 some in
    let rest : 0 % parts ≡ 0 = ap (λ r. r % parts) is ∙ mod-mul-add 0 parts 0 some in
    inr (omega arith, sym quotient)
part_count parts part (suc rank) within =
    let some : 0 < parts = omega arith in
    let is : suc rank ≡ rank + 1 = omega arith in
    let more = ap (sites_in_part parts part) is ∙ part-more parts part rank in
    let quotient = ap (λ r. r / parts) is in
    let rest = ap (λ r. r % parts) is in
    let below : rank % parts < parts = omega arith in
    let before = part_count parts part rank within in
    elim (cases_lt (rank % parts + 1) parts) [
      | inl goes_on ↦
          let next = same_round parts rank some goes_on in
          elim (cases_eq (rank % parts) part) [
            | inl here ↦
                let one = ap (λ t. cond {A = ℕ} t 1 0) (eq-eqb (rank % parts) part here) in
                inl (omega (arith, next.1), elim before [ inl (x, y) ↦ absurd (omega arith) | inr (x, y) ↦ omega (arith, next.0) ])
            | inr other ↦
                let none = ap (λ t. cond {A = ℕ} t 1 0) (ne_eqb (rank % parts) part other) in
                elim before [
                  | inl (x, y) ↦ inl (omega (arith, next.1), omega (arith, next.0))
                  | inr (x, y) ↦ inr (omega (arith, next.1, other), omega (arith, next.0))
                ]
          ]
      | inr wraps ↦
          let last : rank % parts + 1 ≡ parts = omega arith in
          let next = next_round parts rank some last in
          inr (
            omega (arith, next.1),
            elim (cases_eq (rank % parts) part) [
              | inl here ↦
                  let one = ap (λ t. cond {A = ℕ} t 1 0) (eq-eqb (rank % parts) part here) in
                  elim before [ inl (x, y) ↦ absurd (omega arith) | inr (x, y) ↦ omega (arith, next.0) ]
              | inr other ↦
                  let none = ap (λ t. cond {A = ℕ} t 1 0) (ne_eqb (rank % parts) part other) in
                  elim before [ inl (x, y) ↦ omega (arith, next.0) | inr (x, y) ↦ absurd (omega (arith, other)) ]
            ],
          )
    ]

-- the number of a rank in its part is how many went there before it
pub number_is : (parts rank : ℕ) → 0 < parts → sites_in_part parts (rank % parts) rank ≡ rank / parts
number_is parts rank some =
    let below : rank % parts < parts = omega arith in
    elim (part_count parts (rank % parts) rank below) [ inl (x, y) ↦ absurd (omega arith) | inr (x, y) ↦ y ]

-- more ranks, no fewer sites
part-grows : (parts part rank more : ℕ) → sites_in_part parts part rank ≤ sites_in_part parts part (rank + more)
part-grows parts part rank zero = let e = ap (sites_in_part parts part) (let e : rank + 0 ≡ rank = omega arith in e) in omega arith
part-grows parts part rank (suc more) =
    let so_far = part-grows parts part rank more in
    let e = ap (sites_in_part parts part) (let e : rank + suc more ≡ rank + more + 1 = omega arith in e) in
    let one = part-more parts part (rank + more) in
    omega arith

-- that number lies within the part
pub number_within : (parts rank ranks : ℕ) → 0 < parts → rank < ranks → rank / parts < sites_in_part parts (rank % parts) ranks
number_within parts rank ranks some below =
    let more : ℕ = ranks - (rank + 1) in
    let grown = part-grows parts (rank % parts) (rank + 1) more in
    let all = ap (sites_in_part parts (rank % parts)) (let e : rank + 1 + more ≡ ranks = omega arith in e) in
    let one = part-more parts (rank % parts) rank in
    let there = ap (λ t. cond {A = ℕ} t 1 0) (eq-eqb (rank % parts) (rank % parts) refl) in
    let is = number_is parts rank some in
    omega arith

-- the sum over all places of all parts is that over all ranks
pub total-dealt : (g : ℕ → ℕ → ℕ) (parts ranks : ℕ) → 0 < parts →
    total (λ part. total (g part) (sites_in_part parts part ranks)) parts ≡ total (λ rank. g (rank % parts) (rank / parts)) ranks
total-dealt g parts zero some = total-none (λ part. total (g part) (sites_in_part parts part 0)) parts (λ part. refl)
total-dealt g parts (suc rank) some =
    let is : suc rank ≡ rank + 1 = omega arith in
    let here = rank % parts in
    let front = total-dealt g parts rank some in
    let f : ℕ → ℕ = λ part. total (g part) (sites_in_part parts part rank) in
    let h : ℕ → ℕ = λ part. total (g part) (sites_in_part parts part (suc rank)) in
    let one : h here ≡ f here + g here (rank / parts) =
    ap (total (g here)) (ap (sites_in_part parts here) is ∙ part-more parts here rank
    ∙ ap (λ t. sites_in_part parts here rank + cond {A = ℕ} t 1 0) (eq-eqb here here refl)
    ∙ (let e : sites_in_part parts here rank + 1 ≡ suc (sites_in_part parts here rank) = omega arith in e))
    ∙ ap (λ n. total (g here) (sites_in_part parts here rank) + g here n) (number_is parts rank some) in
    let others : (part : ℕ) → (part ≡ here → ⊥) → h part ≡ f part =
    λ part other. ap (total (g part)) (ap (sites_in_part parts part) is ∙ part-more parts part rank
    ∙ ap (λ t. sites_in_part parts part rank + cond {A = ℕ} t 1 0) (ne_eqb here part (λ e. other (sym e)))
    ∙ (let e : sites_in_part parts part rank + 0 ≡ sites_in_part parts part rank = omega arith in e)) in
    total-one_more f h parts here (g here (rank / parts)) (omega arith) one others ∙ ap (λ t. t + g here (rank / parts)) front
