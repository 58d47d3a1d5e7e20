-- A gate that reads a gate stands behind it in the order.
use Rattle.std.proofs.Common.{◌≡◌, ℕ, zero, suc, ◌<◌, ◌≤◌, Bool, true, false, not, ◌||◌, cond, List, [], ◌∷◌, length, get_or, take, drop, refl, sym, ap, ◌∙◌, subst, arith, inl, inr, eqb}
use Rattle.std.specs.Prelude.{All}
use Rattle.std.specs.List.{list_any, IsDistinct, AllByRecursion}
use Rattle.std.proofs.lemmas.Map.Steps.{length-le_from_distinct_below}
use Rattle.std.proofs.lemmas.List.{get_or-take, length-take-le}
use Rattle.std.proofs.lemmas.List.Elements.{All-get_or, All-from_get_or}
use Rattle.std.proofs.lemmas.List.Sums.{sum_by-take-drop}
use Rattle.std.proofs.lemmas.Bool.{cases_lt, cases_eq, eqb-true, ne_eqb, or_cases}
use Rattle.bench_net.specs.declared.gate.Driver.{Driver}
use Rattle.bench_net.specs.declared.gate.Driver.TheVariants.{Input, Dff, Gate}
use Rattle.bench_net.specs.Wiring.{driver_at, is_gate, pins_of, gate_at, pins_at, is_settled, IsOrder}
use Rattle.bench_net.specs.Circuit.{Circuit, IsWhole}
use Rattle.text_bytes.proofs.BoolLemmas.{at_most_one}
use Rattle.bench_net.specs.Sorting.{times}
use Rattle.bench_net.proofs.SortLemmas.{times-cons, times-there, gate_within}
use Rattle.die_sim.specs.Spread.{Reads}
use Rattle.die_sim.specs.Walk.{StandsAt}

-- where a number stands that is in a list
pub times-StandsAt : (n : ℕ) (xs : List ℕ) → 0 < times n xs → StandsAt n xs
times-StandsAt n [] l = absurd (omega (arith, l))
times-StandsAt n (x ∷ xs) l =
    elim (cases_eq x n) [
      | inl e ↦ record { place = 0; within = omega arith; is = e }
      | inr ne ↦
          let c = times-cons n x xs in
          let z : cond {A = ℕ} (eqb x n) 1 0 ≡ 0 = ap (λ b. cond {A = ℕ} b 1 0) (ne_eqb x n ne) in
          let r = times-StandsAt n xs (omega (arith, l, c, z)) in
          record { place = suc r.place; within = let w = r.within in omega arith; is = r.is }
    ]

-- where it stands by a test
any-StandsAt : (n : ℕ) (xs : List ℕ) → list_any (λ g. eqb g n) xs ≡ true → StandsAt n xs
any-StandsAt n [] e = cc
any-StandsAt n (x ∷ xs) e =
    elim (or_cases (eqb x n) (list_any (λ h. eqb h n) xs) e) [
      | inl a ↦ record { place = 0; within = omega arith; is = eqb-true x n a }
      | inr b ↦
          let r = any-StandsAt n xs b in
          record { place = suc r.place; within = let w = r.within in omega arith; is = r.is }
    ]

-- what holds of each number that stands in a list
pub All-times : (P : ℕ → Type 0) (xs : List ℕ) → ((n : ℕ) → 0 < times n xs → P n) → All P xs
All-times P xs each = All-from_get_or P xs 0 (λ i l. each (get_or xs i 0) (times-there xs i l))

-- the same, back
pub times-All : (P : ℕ → Type 0) (xs : List ℕ) (n : ℕ) → All P xs → 0 < times n xs → P n
times-All P xs n all l =
    let s = times-StandsAt n xs l in
    subst P s.is (All-get_or P xs s.place 0 s.within all)

-- the first of what is left
drop_at : (xs : List ℕ) (k d : ℕ) → get_or (drop k xs) 0 d ≡ get_or xs k d
drop_at [] zero d = refl
drop_at [] (suc k) d = refl
drop_at (x ∷ xs) zero d = refl
drop_at (x ∷ xs) (suc k) d = drop_at xs k d

-- something is left
drop_some : (xs : List ℕ) (k : ℕ) → k < length xs → 0 < length (drop k xs)
drop_some [] k l = absurd (omega (arith, l))
drop_some (x ∷ xs) zero l = omega arith
drop_some (x ∷ xs) (suc k) l = drop_some xs k (omega arith)

-- a number at two places stands twice in the list
twice : (xs : List ℕ) (i k n : ℕ) → i < k → k < length xs → get_or xs i 0 ≡ n → get_or xs k 0 ≡ n → 1 < times n xs
twice xs i k n ik kl a b =
    let split = sum_by-take-drop (λ x. cond {A = ℕ} (eqb x n) 1 0) xs k in
    let front_len : length (take k xs) ≡ k = length-take-le k xs (omega arith) in
    let front : 0 < times (get_or (take k xs) i 0) (take k xs) = times-there (take k xs) i (omega (arith, front_len)) in
    let front_is : get_or (take k xs) i 0 ≡ n = get_or-take k xs i 0 ik ∙ a in
    let front' : 0 < times n (take k xs) = subst (λ (m : ℕ). 0 < times m (take k xs)) front_is front in
    let back : 0 < times (get_or (drop k xs) 0 0) (drop k xs) = times-there (drop k xs) 0 (drop_some xs k kl) in
    let back' : 0 < times n (drop k xs) = subst (λ (m : ℕ). 0 < times m (drop k xs)) (drop_at xs k 0 ∙ b) back in
    omega (arith, split, front', back')

-- what has pins is a gate
gate_or_none : (d : Driver) (n : ℕ) → 0 < times n (pins_of d) → is_gate d ≡ true
gate_or_none Input n l = absurd (omega (arith, l))
gate_or_none (Dff p) n l = absurd (omega (arith, l))
gate_or_none (Gate kind pins) n l = refl

-- what reads a net is a gate
pub reader_is_gate : (drivers : List Driver) (g n : ℕ) → Reads drivers g n → gate_at drivers g ≡ true
reader_is_gate drivers g n l = gate_or_none (driver_at drivers g) n l

-- of two the second, where the first fails
front_any : (b c : Bool) → b ≡ true → (not b || c) ≡ true → c ≡ true
front_any true c e h = h
front_any false c e h = cc

-- a gate stands in the order, and no other net
pub place_of : (drivers : List Driver) (order : List ℕ) → IsOrder drivers order → (g : ℕ) → gate_at drivers g ≡ true → StandsAt g order
place_of drivers order o g e = times-StandsAt g order (omega (arith, o.gates g ∙ ap (λ b. cond {A = ℕ} b 1 0) e))

-- what is counted is so
counted_gate : (b : Bool) (n : ℕ) → 0 < n → n ≡ cond {A = ℕ} b 1 0 → b ≡ true
counted_gate true n l e = refl
counted_gate false n l e = absurd (omega (arith, l, e))

-- what stands in the order is a gate
pub gate_in_order : (drivers : List Driver) (order : List ℕ) → IsOrder drivers order → (k : ℕ) → k < length order → gate_at drivers (get_or order k 0) ≡ true
gate_in_order drivers order o k l = counted_gate (gate_at drivers (get_or order k 0)) (times (get_or order k 0) order) (times-there order k l) (o.gates (get_or order k 0))

-- no gate stands at two places
pub order_apart : (drivers : List Driver) (order : List ℕ) → IsOrder drivers order → (j k : ℕ) → j < k
    → k < length order → get_or order j 0 ≡ get_or order k 0 → ⊥
order_apart drivers order o j k jk kl e =
    let two : 1 < times (get_or order k 0) order = twice order j k (get_or order k 0) jk kl e refl in
    let one : times (get_or order k 0) order ≤ 1 = at_most_one (gate_at drivers (get_or order k 0)) (times (get_or order k 0) order) (o.gates (get_or order k 0)) in
    omega (arith, two, one)

-- a gate that reads the gate at a place stands behind that place
pub later : (drivers : List Driver) (order : List ℕ) → IsOrder drivers order → (j k : ℕ) → j < length order
    → k < length order → Reads drivers (get_or order j 0) (get_or order k 0) → k < j
later drivers order o j k jl kl reads =
    elim (cases_lt k j) [
      | inl l ↦ l
      | inr l ↦
          let g : ℕ = get_or order k 0 in
          let settled : is_settled drivers (take j order) (get_or order k 0) ≡ true = times-All (λ p. is_settled drivers (take j order) p ≡ true) (pins_at drivers (get_or order j 0)) (get_or order k 0) (o.after j jl) reads in
          let any : list_any (λ h. eqb h (get_or order k 0)) (take j order) ≡ true = front_any (gate_at drivers (get_or order k 0)) (list_any (λ h. eqb h (get_or order k 0)) (take j order)) (gate_in_order drivers order o k kl) settled in
          let s = any-StandsAt (get_or order k 0) (take j order) any in
          let within : s.place < j = let w = s.within in omega (arith, w, length-take-le j order (omega arith)) in
          let is : get_or order s.place 0 ≡ get_or order k 0 = sym (get_or-take j order s.place 0 within) ∙ s.is in
          absurd (order_apart drivers order o s.place k (omega (arith, within, l)) kl is)
    ]

-- no gate reads itself
pub not_itself : (drivers : List Driver) (order : List ℕ) → IsOrder drivers order → (k : ℕ) → k < length order
    → Reads drivers (get_or order k 0) (get_or order k 0) → ⊥
not_itself drivers order o k l reads = let m = later drivers order o k k l l reads in omega (arith, m)

-- the readers of a net are those that read it
pub reads_is_times : (c : Circuit) → IsWhole c → (n g : ℕ) → n < length c.net.names → times g (get_or c.readers n []) ≡ times n (pins_at c.net.drivers g)
reads_is_times c w n g l = w.readers.counts n g (omega (arith, w.drivers))

-- a number is apart from a list at none of whose places it stands
apart_from : (x : ℕ) (xs : List ℕ) → ((k : ℕ) → k < length xs → x ≡ get_or xs k 0 → ⊥) → AllByRecursion (λ y. eqb x y ≡ false) xs
apart_from x [] h = tt
apart_from x (y ∷ xs) h = (ne_eqb x y (h 0 (omega arith)), apart_from x xs (λ k l. h (suc k) (omega arith)))

-- a list is distinct that has no number at two places
distinct_from : (xs : List ℕ) → ((j k : ℕ) → j < k → k < length xs → get_or xs j 0 ≡ get_or xs k 0 → ⊥) → IsDistinct eqb xs
unfolding IsDistinct
distinct_from [] h = tt
distinct_from (x ∷ xs) h = (apart_from x xs (λ k l. h 0 (suc k) (omega arith) (omega arith)), distinct_from xs (λ j k a b. h (suc j) (suc k) (omega arith) (omega arith)))

-- where it stands by the test the other way round
stands_from_any : (n : ℕ) (xs : List ℕ) → list_any (eqb n) xs ≡ true → StandsAt n xs
stands_from_any n [] e = cc
stands_from_any n (x ∷ xs) e =
    elim (or_cases (eqb n x) (list_any (eqb n) xs) e) [
      | inl a ↦ record { place = 0; within = omega arith; is = sym (eqb-true n x a) }
      | inr b ↦
          let r = stands_from_any n xs b in
          record { place = suc r.place; within = let w = r.within in omega arith; is = r.is }
    ]

-- the order has no more entries than there are nets
pub length-order-le : (drivers : List Driver) (order : List ℕ) → IsOrder drivers order → length order ≤ length drivers
length-order-le drivers order o = length-le_from_distinct_below order (length drivers) (distinct_from order (λ j k a b e. order_apart drivers order o j k a b e)) (λ q any.
    let s = stands_from_any q order any in
    gate_within drivers q (subst (λ (n : ℕ). gate_at drivers n ≡ true) s.is (gate_in_order drivers order o s.place s.within)))
