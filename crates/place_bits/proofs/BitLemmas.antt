-- Words of 64 as a list of bits: a bit that is set or cleared, and the first bit that is 1.
use Rattle.std.proofs.Common.{◌≡◌, ℕ, zero, suc, min, refl, subst, ◌+◌, ◌-◌, ◌*◌, ◌/◌, ◌%◌, ◌^◌, ◌<◌, ◌≤◌, Bool, true, false, eqb, List, length, get_or, set, replicate, sym, ◌∙◌, ap, inl, inr, arith, ext_get_or, length-set, get_or-set_same, get_or-set_other, eq-eqb, ne_eqb, w64}
use Rattle.std.proofs.lemmas.List.FromFn.{length-map-range_with_len, get_or-map-range_with_len}
use Rattle.std.proofs.lemmas.List.{get_or_past, get_or-replicate, length-replicate}
use Rattle.std.proofs.lemmas.Bool.{cases_eq, cases_lt}
use Rattle.std.proofs.lemmas.Nat.Bits.{bit_at_set_same, bit_at_set_other, bit_at_clear_same, bit_at_clear_other, bit_at-zero, bit_at-lt, bit_at_and, bit_at_mask_below, bit_at_mask_inside, ones_shl, bit_at_lowest, bit_at-suc}
use Rattle.std.specs.Prelude.{bit_and, bit_or}
use Rattle.std.specs.Int.{bit_at, bit_not}
use Rattle.std.proofs.lemmas.Nat.{and_le_r}
use Rattle.place_bits.specs.Bits.{bit_of, bits_of, in_word, IsLowest, IsRest}

pub length-bits_of : (words : List ℕ) → length (bits_of words) ≡ 64 * length words
unfolding bits_of
length-bits_of words = length-map-range_with_len (bit_of words) 0 (64 * length words)

pub get_or-bits_of : (words : List ℕ) (k : ℕ) → k < 64 * length words → get_or (bits_of words) k false ≡ bit_of words k
unfolding bits_of
get_or-bits_of words k h = get_or-map-range_with_len (bit_of words) 0 (64 * length words) k k false h (omega arith)

-- a word in which one bit is another sets one bit of all
bits_of-put : (words : List ℕ) (n v : ℕ) (b : Bool) → n < 64 * length words → eqb (bit_at v (n % 64)) 1 ≡ b
    → ((i : ℕ) → i < 64 → (i ≡ n % 64 → ⊥) → bit_at v i ≡ bit_at (get_or words (n / 64) 0) i)
    → bits_of (set words (n / 64) v) ≡ set (bits_of words) n b
bits_of-put words n v b within here others =
    let len : length (set words (n / 64) v) ≡ length words = length-set words (n / 64) v in
    let n_in : n < length (bits_of words) = omega (arith, length-bits_of words) in
    let word_in : n / 64 < length words = omega arith in
    ext_get_or false _ _
    (length-bits_of _ ∙ ap (λ x. 64 * x) len ∙ sym (length-bits_of words) ∙ sym (length-set (bits_of words) n b))
    (λ k h.
    let k_in : k < 64 * length (set words (n / 64) v) = rw length-bits_of at h in
    get_or-bits_of _ k k_in
    ∙ (elim (cases_eq k n) as (λ _. bit_of (set words (n / 64) v) k ≡ get_or (set (bits_of words) n b) k false) [
      | inl same ↦
          rw same
          (ap (λ x. eqb (bit_at x (n % 64)) 1) (get_or-set_same words (n / 64) v 0 word_in)
          ∙ here
          ∙ sym (get_or-set_same (bits_of words) n b false n_in))
      | inr other ↦
          (elim (cases_eq (k / 64) (n / 64)) as (λ _. bit_of (set words (n / 64) v) k ≡ bit_of words k) [
            | inl row ↦
                ap (λ x. eqb (bit_at (get_or (set words (n / 64) v) x 0) (k % 64)) 1) row
                ∙ ap (λ x. eqb (bit_at x (k % 64)) 1) (get_or-set_same words (n / 64) v 0 word_in)
                ∙ ap (λ x. eqb x 1) (others (k % 64) (omega arith) (omega arith))
                ∙ ap (λ x. eqb (bit_at (get_or words x 0) (k % 64)) 1) (sym row)
            | inr apart ↦ ap (λ x. eqb (bit_at x (k % 64)) 1) (get_or-set_other words (n / 64) (k / 64) v 0 apart)
          ])
          ∙ sym (get_or-bits_of words k (omega arith))
          ∙ sym (get_or-set_other (bits_of words) n k b false other)
    ]))

-- a bit is set
pub bits_of-set : (words : List ℕ) (n word : ℕ) → n < 64 * length words → word ≡ get_or words (n / 64) 0
    → bits_of (set words (n / 64) (bit_or word (1 * 2 ^ (n % 64) % 2 ^ 64))) ≡ set (bits_of words) n true
bits_of-set words n word within read =
    let low : n % 64 < 64 = omega arith in
    bits_of-put words n (bit_or word (1 * 2 ^ (n % 64) % 2 ^ 64)) true within
    (eq-eqb _ 1 (bit_at_set_same w64 word (n % 64) low))
    (λ i l ne. bit_at_set_other w64 word (n % 64) low i ne ∙ ap (λ x. bit_at x i) read)

-- a bit is cleared
pub bits_of-clear : (words : List ℕ) (n word : ℕ) → n < 64 * length words → word ≡ get_or words (n / 64) 0
    → bits_of (set words (n / 64) (bit_and word (bit_not w64 (1 * 2 ^ (n % 64) % 2 ^ 64)))) ≡ set (bits_of words) n false
bits_of-clear words n word within read =
    let low : n % 64 < 64 = omega arith in
    let zero_there : bit_at (bit_and word (bit_not w64 (1 * 2 ^ (n % 64) % 2 ^ 64))) (n % 64) ≡ 0 = bit_at_clear_same w64 word (n % 64) low in
    bits_of-put words n (bit_and word (bit_not w64 (1 * 2 ^ (n % 64) % 2 ^ 64))) false within
    (ne_eqb _ 1 (omega (arith, zero_there)))
    (λ i l ne. bit_at_clear_other w64 word (n % 64) low i l ne ∙ ap (λ x. bit_at x i) read)

-- a bit by its word
pub bit_of_word : (words : List ℕ) (k w i : ℕ) → k ≡ 64 * w + i → i < 64 → bit_of words k ≡ eqb (bit_at (get_or words w 0) i) 1
bit_of_word words k w i e l =
    let q : k / 64 ≡ w = omega arith in
    let r : k % 64 ≡ i = omega arith in
    ap (λ x. eqb (bit_at (get_or words x 0) (k % 64)) 1) q ∙ ap (λ x. eqb (bit_at (get_or words w 0) x) 1) r

pub bit_of_none : (words : List ℕ) (k w i : ℕ) → k ≡ 64 * w + i → i < 64 → bit_at (get_or words w 0) i ≡ 0 → bit_of words k ≡ false
bit_of_none words k w i e l none = bit_of_word words k w i e l ∙ ne_eqb _ 1 (omega (arith, none))

-- no bit of a word that is 0
pub bit_of_zero : (words : List ℕ) (k w : ℕ) → get_or words w 0 ≡ 0 → 64 * w ≤ k → k < 64 * w + 64 → bit_of words k ≡ false
bit_of_zero words k w z lo hi =
    bit_of_none words k w (k % 64) (omega arith) (omega arith) (ap (λ x. bit_at x (k % 64)) z ∙ bit_at-zero (k % 64))

-- past the words no bit is 1
pub bits_of-past : (words : List ℕ) (k : ℕ) → 64 * length words ≤ k → get_or (bits_of words) k false ≡ false
bits_of-past words k h = get_or_past (bits_of words) k false (omega (arith, h, length-bits_of words))

-- of words that are all 0 no bit is 1
pub bits_of-zeros : (words : List ℕ) (n k : ℕ) → words ≡ replicate n 0 → get_or (bits_of words) k false ≡ false
bits_of-zeros words n k zeros = elim (cases_lt k (64 * length words)) [
  | inl l ↦
      let within : k / 64 < n = omega (arith, l, ap (λ (x : List ℕ). length x) zeros, length-replicate {A = ℕ} n 0) in
      get_or-bits_of words k l
      ∙ bit_of_zero words k (k / 64)
      (ap (λ (x : List ℕ). get_or x (k / 64) 0) zeros ∙ get_or-replicate {A = ℕ} n (k / 64) 0 0 within)
      (omega arith) (omega arith)
  | inr l ↦ bits_of-past words k l
]

min_none : (a : ℕ) → min a 0 ≡ 0
min_none a = omega arith

min_one : (a : ℕ) → a < 2 → min a 1 ≡ a
min_one a l = omega arith

-- a word without its bits below a place
pub cut-below : (word from k : ℕ) → from < 64 → k < from → bit_at (bit_and word (18446744073709551615 * 2 ^ from % 18446744073709551616)) k ≡ 0
cut-below word from k l b =
    ap (λ m. bit_at (bit_and word m) k) (ones_shl 64 from (omega arith)) ∙ bit_at_and word (2 ^ 64 - 2 ^ from) k
    ∙ ap (min (bit_at word k)) (bit_at_mask_below from 64 k b) ∙ min_none (bit_at word k)

pub cut-above : (word from k : ℕ) → from < 64 → from ≤ k → k < 64
    → bit_at (bit_and word (18446744073709551615 * 2 ^ from % 18446744073709551616)) k ≡ bit_at word k
cut-above word from k l a b =
    ap (λ m. bit_at (bit_and word m) k) (ones_shl 64 from (omega arith)) ∙ bit_at_and word (2 ^ 64 - 2 ^ from) k
    ∙ ap (min (bit_at word k)) (bit_at_mask_inside from 64 k a b) ∙ min_one (bit_at word k) (bit_at-lt word k)

-- what is said of the bits of the words, said of the list of all bits
pub skipped-bits_of : (words : List ℕ) (all : List Bool) (k : ℕ) → bits_of words ≡ all → bit_of words k ≡ false → get_or all k false ≡ false
skipped-bits_of words all k is none = subst (λ (l : List Bool). get_or l k false ≡ false) is (elim (cases_lt k (64 * length words)) [
  | inl l ↦ get_or-bits_of words k l ∙ none
  | inr l ↦ bits_of-past words k l
])

pub found-bits_of : (words : List ℕ) (all : List Bool) (k : ℕ) → bits_of words ≡ all → k < length all
    → (k < 64 * length words → bit_of words k ≡ true) → get_or all k false ≡ true
found-bits_of words all k is l one = subst (λ (a : List Bool). get_or a k false ≡ true) is (
    let within : k < 64 * length words = omega (arith, l, length-bits_of words, ap (λ (a : List Bool). length a) is) in
    get_or-bits_of words k within ∙ one within)

-- the number below has no 1 at the lowest 1 of a number, and the same bits above it
bit_at-below : (n t : ℕ) → bit_at n t ≡ 1 → ((i : ℕ) → i < t → bit_at n i ≡ 0)
    → (bit_at (n - 1) t ≡ 0) × ((i : ℕ) → t < i → bit_at (n - 1) i ≡ bit_at n i)
bit_at-below n zero one none =
    let odd : n % 2 ≡ 1 = sym (bit_at_lowest n) ∙ one in
    (bit_at_lowest (n - 1) ∙ omega (arith, odd), above odd)
  where
    above : n % 2 ≡ 1 → (i : ℕ) → 0 < i → bit_at (n - 1) i ≡ bit_at n i
    above odd zero l = absurd (omega (arith, l))
    above odd (suc i) l =
        let half : (n - 1) / 2 ≡ n / 2 = omega (arith, odd) in
        bit_at-suc (n - 1) i ∙ ap (λ x. bit_at x i) half ∙ sym (bit_at-suc n i)
bit_at-below n (suc t) one none =
    let even : n % 2 ≡ 0 = sym (bit_at_lowest n) ∙ none 0 (omega arith) in
    let half : (n - 1) / 2 ≡ n / 2 - 1 = omega (arith, even) in
    let below = bit_at-below (n / 2) t (sym (bit_at-suc n t) ∙ one) (λ i l. sym (bit_at-suc n i) ∙ none (suc i) (omega (arith, l))) in
    (bit_at-suc (n - 1) t ∙ ap (λ x. bit_at x t) half ∙ below.0, above half below.1)
  where
    above : (n - 1) / 2 ≡ n / 2 - 1 → ((i : ℕ) → t < i → bit_at (n / 2 - 1) i ≡ bit_at (n / 2) i)
        → (i : ℕ) → suc t < i → bit_at (n - 1) i ≡ bit_at n i
    above half higher zero l = absurd (omega (arith, l))
    above half higher (suc i) l =
        bit_at-suc (n - 1) i ∙ ap (λ x. bit_at x i) half ∙ higher i (omega (arith, l)) ∙ sym (bit_at-suc n i)

min_same : (a : ℕ) → min a a ≡ a
min_same a = omega arith

min_nothing : (a : ℕ) → min 0 a ≡ 0
min_nothing a = omega arith

-- a word without its lowest 1
pub is_rest : (word place : ℕ) → IsLowest word place → IsRest word place (bit_and word (word - 1))
is_rest word place low =
    let below = bit_at-below word place low.found low.skipped in
    record {
      here = bit_at_and word (word - 1) place ∙ ap (min (bit_at word place)) below.0 ∙ min_none (bit_at word place);
      others = λ k ne. bit_at_and word (word - 1) k ∙ elim (cases_lt k place) [
        | inl l ↦ ap (λ x. min x (bit_at (word - 1) k)) (low.skipped k l) ∙ min_nothing (bit_at (word - 1) k) ∙ sym (low.skipped k l)
        | inr l ↦ ap (min (bit_at word k)) (below.1 k (omega (arith, l, ne))) ∙ min_same (bit_at word k)
      ];
    }

pub rest-lt : (word : ℕ) → 0 < word → bit_and word (word - 1) < word
rest-lt word some = omega (arith, some, and_le_r word (word - 1))

-- a place of the set by its word
pub get_or-word : (words : List ℕ) (at k word : ℕ) → at < length words → k < 64 → word ≡ get_or words at 0
    → get_or (bits_of words) (64 * at + k) false ≡ in_word word k
get_or-word words at k word l in' is =
    get_or-bits_of words (64 * at + k) (omega (arith, l, in'))
    ∙ bit_of_word words (64 * at + k) at k refl in' ∙ ap (λ x. eqb (bit_at x k) 1) (sym is)
