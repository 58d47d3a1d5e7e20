-- What a sorted order says: the nets that wait for none are those that are reached.
use Rattle.std.proofs.Common.{◌≡◌, ℕ, zero, suc, ◌<◌, ◌≤◌, Bool, true, false, not, ◌&&◌, ◌||◌, cond, List, [], ◌∷◌, length, get_or, take, refl, sym, ap, ◌∙◌, subst, arith, inl, inr, eqb}
use Rattle.std.specs.Prelude.{count_by, All, slice_index}
use Rattle.std.specs.List.{list_any}
use Rattle.std.proofs.lemmas.List.{get_or-take, length-take-le}
use Rattle.std.proofs.lemmas.List.Elements.{All-from_get_or, All-head, All-tail}
use Rattle.std.proofs.lemmas.List.Sums.{sum_by-cons}
use Rattle.std.proofs.lemmas.Bool.{cases_Bool, cases_lt, eqb-true, eq-eqb, ne_eqb, and_from, or_cases, not-true}
use Rattle.std.proofs.Math.Bool.{and-true}
use Rattle.bench_net.specs.declared.gate.Driver.{Driver}
use Rattle.bench_net.specs.Wiring.{gate_at, pins_at, is_settled, IsClosed, IsReached, IsUnreached, IsOrder}
use Rattle.bench_net.specs.Sorting.{AreWithin, times, is_ready, IsSorted}
use Rattle.bench_net.proofs.SortLemmas.{times-cons, times-there, gate_within}

-- a net among those in front of a place, all of which are in a set, is in it
among : (set : ℕ → Bool) (front : List ℕ) (p : ℕ)
    → ((k : ℕ) → k < length front → set (get_or front k 0) ≡ true) → list_any (λ g. eqb g p) front
    ≡ true → set p ≡ true
among set [] p all e = cc
among set (g ∷ gs) p all e =
    elim (or_cases (eqb g p) (list_any (λ h. eqb h p) gs) e) [
      | inl a ↦ subst (λ (n : ℕ). set n ≡ true) (eqb-true g p a) (all 0 (omega arith))
      | inr b ↦ among set gs p (λ k l. all (suc k) (omega arith)) b
    ]

module _ (drivers : List Driver) (within : (n : ℕ) → n < length drivers
    → AreWithin (length drivers) (pins_at drivers n)) (order : List ℕ)
    (placed : (k : ℕ) → k < length order → gate_at drivers (get_or order k 0) ≡ true)
    (after : (k : ℕ) → k < length order
    → All (λ p. is_settled drivers (take k order) p
    ≡ true) (pins_at drivers (get_or order k 0)))
    (set : ℕ → Bool) (closed : IsClosed drivers set) where
  -- a pin of the gate at a place is in the set, where each gate in front is
  pin_in : (n : ℕ) → n < length order → ((k : ℕ) → k < n → set (get_or order k 0) ≡ true) → (p : ℕ)
      → p < length drivers → is_settled drivers (take n order) p ≡ true → set p ≡ true
  pin_in n here front p in' settled =
      elim (or_cases (not (gate_at drivers p)) (list_any (λ g. eqb g p) (take n order)) settled) [
        | inl a ↦ closed.sources p in' (not-true (gate_at drivers p) a)
        | inr b ↦ among set (take n order) p
            (λ k l. let m : k < n = omega (arith, l, length-take-le n order (omega arith))
            in ap set (get_or-take n order k 0 m) ∙ front k m) b
      ]

  -- each gate in front of a place is in the set
  front_in : (n : ℕ) → n ≤ length order → (k : ℕ) → k < n → set (get_or order k 0) ≡ true
  front_in zero m k l = absurd (omega arith)
  front_in (suc n) m k l =
      elim (cases_lt k n) [
        | inl less ↦ front_in n (omega arith) k less
        | inr more ↦
            let at : n ≡ k = omega arith in
            let here : n < length order = omega arith in
            let g : ℕ = get_or order n 0 in
            let in' = gate_within drivers (get_or order n 0) (placed n here) in
            subst (λ (i : ℕ). set (get_or order i 0) ≡ true) at
            (closed.gates (get_or order n 0) in' (placed n here)
            (All-from_get_or (λ p. set p ≡ true) (pins_at drivers (get_or order n 0)) 0 (λ i j.
            pin_in n here (front_in n (omega arith))
            (get_or (pins_at drivers (get_or order n 0)) i 0)
            (within (get_or order n 0) in' i 0 j) (after n here i 0 j))))
      ]

-- where the gate of a net stands in an order, the net is reached
pub order_any : (n : ℕ) (xs : List ℕ) → 0 < times n xs → list_any (λ g. eqb g n) xs ≡ true
order_any n [] l = absurd (omega (arith, l))
order_any n (x ∷ xs) l =
    elim (cases_Bool (eqb x n)) [
      | inl e ↦ ap (λ b. b || list_any (λ g. eqb g n) xs) e
      | inr e ↦
          let c = times-cons n x xs in
          let z : cond {A = ℕ} (eqb x n) 1 0 ≡ 0 = ap (λ b. cond {A = ℕ} b 1 0) e in
          ap (λ b. b || list_any (λ g. eqb g n) xs) e ∙ order_any n xs (omega (arith, l, c, z))
    ]

-- what an order of gates keeps while it grows
pub record IsPartOrder (drivers : List Driver) (order : List ℕ) : Type 0 where
  pub within : (n : ℕ) → n < length drivers → AreWithin (length drivers) (pins_at drivers n)
  pub placed : (k : ℕ) → k < length order → gate_at drivers (get_or order k 0) ≡ true
  pub after : (k : ℕ) → k < length order
      → All (λ p. is_settled drivers (take k order) p ≡ true) (pins_at drivers (get_or order k 0))

reached_in_part : (drivers : List Driver) (order : List ℕ) → IsPartOrder drivers order → (n : ℕ)
    → n < length drivers → (gate_at drivers n ≡ true → 0 < times n order) → IsReached drivers n
reached_in_part drivers order o n in' there set closed =
    elim (cases_Bool (gate_at drivers n)) [
      | inl e ↦ among set order n
          (front_in drivers o.within order o.placed o.after set closed (length order) (omega arith))
          (order_any n order (there e))
      | inr e ↦ closed.sources n in' e
    ]

placed_gate : (b c : Bool) (n : ℕ) → 0 < n → n ≡ cond {A = ℕ} (b && c) 1 0 → b ≡ true
placed_gate true c n l e = refl
placed_gate false c n l e = absurd (omega (arith, l, e))

part-IsSorted : (drivers : List Driver) (left order : List ℕ)
    → ((n : ℕ) → n < length drivers → AreWithin (length drivers) (pins_at drivers n))
    → IsSorted drivers left order → IsPartOrder drivers order
part-IsSorted drivers left order within s = record {
  within = within;
  placed = λ k l. placed_gate (gate_at drivers (get_or order k 0))
      (eqb (slice_index left (get_or order k 0)) 0) (times (get_or order k 0) order)
      (times-there order k l) (s.ready (get_or order k 0));
  after = s.after;
}

-- a net whose gate waits for none is reached
pub reached_from_sorted : (drivers : List Driver) (left order : List ℕ)
    → ((n : ℕ) → n < length drivers → AreWithin (length drivers) (pins_at drivers n))
    → IsSorted drivers left order → (n : ℕ) → n < length drivers
    → (gate_at drivers n ≡ true → slice_index left n ≡ 0) → IsReached drivers n
reached_from_sorted drivers left order within s n in' none =
    reached_in_part drivers order (part-IsSorted drivers left order within s) n in' (λ e.
    let r : is_ready drivers left n
    ≡ true = and_from (gate_at drivers n) (eqb (slice_index left n) 0) e
    (eq-eqb (slice_index left n) 0 (none e)) in
    omega (arith, s.ready n ∙ ap (λ b. cond {A = ℕ} b 1 0) r))

-- a net whose gate waits for one is not
pub unreached_from_sorted : (drivers : List Driver) (left order : List ℕ)
    → IsSorted drivers left order
    → ((n : ℕ) → n < length drivers → AreWithin (length drivers) (pins_at drivers n)) → (n : ℕ)
    → gate_at drivers n ≡ true → (slice_index left n ≡ 0 → ⊥) → IsUnreached drivers n
unreached_from_sorted drivers left order s within n e ne = record {
  set = in_set;
  closed = record {
    sources = λ m l g. ap (λ b. not b
        || eqb (slice_index left m) 0) g;
    gates = λ m l g all. closed m l g all;
  };
  outside = ap (λ b. not b || eqb (slice_index left n) 0) e ∙ ne_eqb (slice_index left n) 0 ne;
}
  where
    in_set : ℕ → Bool
    in_set m = not (gate_at drivers m) || eqb (slice_index left m) 0

    settled : (p : ℕ) → in_set p ≡ true → not (is_settled drivers order p) ≡ false
    settled p i = elim (cases_Bool (gate_at drivers p)) [
      | inl g ↦
          let z : eqb (slice_index left p) 0
          ≡ true = sym (ap (λ b. not b || eqb (slice_index left p) 0) g) ∙ i in
          let r : is_ready drivers left p
          ≡ true = and_from (gate_at drivers p) (eqb (slice_index left p) 0) g z in
          let there : list_any (λ g. eqb g p) order
          ≡ true = order_any p order (omega (arith, s.ready p ∙ ap (λ b. cond {A = ℕ} b 1 0) r))
          in
          ap (λ b. not (not b || list_any (λ g. eqb g p) order)) g ∙ ap not there
      | inr g ↦ ap (λ b. not (not b || list_any (λ g. eqb g p) order)) g
    ]

    none_waits : (ps : List ℕ) → All (λ p. in_set p ≡ true) ps
        → count_by (λ p. not (is_settled drivers order p)) ps ≡ 0
    none_waits [] all = refl
    none_waits (p ∷ ps) all =
        let c = sum_by-cons (λ q. cond {A = ℕ} (not (is_settled drivers order q)) 1 0) p ps in
        let z : cond {A = ℕ} (not (is_settled drivers order p)) 1 0
        ≡ 0 = ap (λ b. cond {A = ℕ} b 1 0)
        (settled p (All-head (λ q. in_set q ≡ true) p ps all)) in
        omega (arith, c, z, none_waits ps (All-tail (λ q. in_set q ≡ true) p ps all))

    closed : (m : ℕ) → m < length drivers → gate_at drivers m ≡ true
        → All (λ p. in_set p ≡ true) (pins_at drivers m) → in_set m ≡ true
    closed m l g all =
        ap (λ b. not b || eqb (slice_index left m) 0) g
        ∙ eq-eqb (slice_index left m) 0 (s.counts m l ∙ none_waits (pins_at drivers m) all)

-- where no gate waits, the order is one of all gates
pub IsOrder-sorted : (drivers : List Driver) (left order : List ℕ) → IsSorted drivers left order
    → ((n : ℕ) → gate_at drivers n ≡ true → slice_index left n ≡ 0) → IsOrder drivers order
IsOrder-sorted drivers left order s none = record { gates = λ n. gates n; after = s.after }
  where
    gates : (n : ℕ) → times n order ≡ cond {A = ℕ} (gate_at drivers n) 1 0
    gates n = elim (cases_Bool (gate_at drivers n)) [
      | inl e ↦ s.ready n ∙ ap (λ b. cond {A = ℕ} (gate_at drivers n && b) 1 0)
          (eq-eqb (slice_index left n) 0 (none n e)) ∙ ap (λ b. cond {A = ℕ} (b && true) 1 0) e
          ∙ sym (ap (λ b. cond {A = ℕ} b 1 0) e)
      | inr e ↦ s.ready n ∙ ap (λ b. cond {A = ℕ} (b && eqb (slice_index left n) 0) 1 0) e
          ∙ sym (ap (λ b. cond {A = ℕ} b 1 0) e)
    ]

-- where gates stand in an order, each net is in the least set
pub reached_from_order : (drivers : List Driver) (order : List ℕ)
    → ((n : ℕ) → n < length drivers → AreWithin (length drivers) (pins_at drivers n))
    → IsOrder drivers order → (n : ℕ) → n < length drivers → IsReached drivers n
reached_from_order drivers order within o n in' =
    reached_in_part drivers order (record {
      within = within;
      placed = λ k l. placed_gate (gate_at drivers (get_or order k 0)) true
          (times (get_or order k 0) order) (times-there order k l) (o.gates (get_or order k 0)
          ∙ ap (λ b. cond {A = ℕ} b 1 0) (sym (and-true (gate_at drivers (get_or order k 0)))));
      after = o.after;
    }) n in' (λ e. omega (arith, o.gates n ∙ ap (λ b. cond {A = ℕ} b 1 0) e))
