-- The walk over the gates: what each gate waits for is what no gate in front has settled, and the
-- order grows by those that wait for none.
use Rattle.std.proofs.Common.{◌≡◌, ℕ, ◌+◌, ◌-◌, ◌<◌, ◌≤◌, Bool, true, false, not, ◌&&◌, ◌||◌, cond, List, [], ◌∷◌, ◌++◌, length, get_or, take, refl, sym, ap, ◌∙◌, subst, arith, inl, inr, eqb, append_assoc, length-append, length-set, add-zero}
use Rattle.std.specs.Prelude.{count_by, All, slice_index}
use Rattle.std.specs.List.{list_any}
use Rattle.std.proofs.lemmas.List.{get_or-set_same, get_or-set_other, get_or_append_left, get_or_at, take-append-le, take_at}
use Rattle.std.proofs.lemmas.List.Sums.{sum_by-cons}
use Rattle.std.proofs.lemmas.List.Folds.{list_any-append}
use Rattle.std.proofs.lemmas.List.Elements.{All-nil, All-cons, All-head, All-tail, All-weaker}
use Rattle.std.proofs.lemmas.Bool.{cases_Bool, cases_lt, cases_eq, eqb-true, eqb-false, eq-eqb, ne_eqb, lt-ltb, le-ltb, and_parts, not-false}
use Rattle.std.proofs.Math.Bool.{and-false}
use Rattle.bench_net.specs.declared.gate.Driver.{Driver}
use Rattle.bench_net.specs.Wiring.{gate_at, pins_at, is_settled}
use Rattle.bench_net.specs.Sorting.{AreWithin, times, waiting, is_ready, AreCounts, AreReadyBelow, lowered, joined, walked}
use Rattle.bench_net.proofs.SortLemmas.{times-cons, times_push, times-there, gate_within}

-- none of a list passes where none is counted
pub zero_count : (p : ℕ → Bool) (xs : List ℕ) → count_by p xs ≡ 0 → All (λ x. p x ≡ false) xs
zero_count p [] e = All-nil (λ x. p x ≡ false)
zero_count p (x ∷ xs) e =
    let c = sum_by-cons (λ y. cond {A = ℕ} (p y) 1 0) x xs in
    All-cons (λ y. p y ≡ false) x xs (first (p x) (omega (arith, c, e)))
    (zero_count p xs (omega (arith, c, e)))
  where
    first : (b : Bool) → cond {A = ℕ} b 1 0 ≡ 0 → b ≡ false
    first true e = absurd (omega (arith, e))
    first false e = refl

or_more : (a b c : Bool) → (a || b) ≡ true → (a || (b || c)) ≡ true
or_more true b c e = refl
or_more false true c e = refl
or_more false false c e = cc

-- what is settled stays settled
is_settled-append : (drivers : List Driver) (front more : List ℕ) (p : ℕ)
    → is_settled drivers front p ≡ true → is_settled drivers (front ++ more) p ≡ true
is_settled-append drivers front more p e =
    ap (λ b. not (gate_at drivers p) || b) (list_any-append (λ g. eqb g p) front more)
    ∙ or_more (not (gate_at drivers p)) (list_any (λ g. eqb g p) front)
    (list_any (λ g. eqb g p) more) e

-- where a gate waits for none, its pins are settled
settled_pins : (drivers : List Driver) (front more : List ℕ) (g : ℕ) → waiting drivers front g ≡ 0
    → All (λ p. is_settled drivers (front ++ more) p ≡ true) (pins_at drivers g)
settled_pins drivers front more g e =
    All-weaker (λ p. not (is_settled drivers front p)
    ≡ false) (λ p. is_settled drivers (front ++ more) p ≡ true)
    (λ p n. is_settled-append drivers front more p (not-false (is_settled drivers front p) n))
    (pins_at drivers g) (zero_count (λ p. not (is_settled drivers front p)) (pins_at drivers g) e)

-- the gates in front have been settled, and one pin more for each gate of the rest
pub record Walk (drivers : List Driver) (left order front rest : List ℕ) : Type 0 where
  pub one_each : length left ≡ length drivers
  pub more : List ℕ
  pub order_is : order ≡ front ++ more
  pub counts : (g : ℕ) → g < length drivers → slice_index left g
      ≡ waiting drivers front g + times g rest
  pub ready : (g : ℕ) → times g order ≡ cond {A = ℕ} (is_ready drivers left g) 1 0
  pub after : (k : ℕ) → k < length order
      → All (λ p. is_settled drivers (take k order) p ≡ true) (pins_at drivers (get_or order k 0))
  pub within : AreWithin (length drivers) rest
  pub gates : (g : ℕ) → 0 < times g rest → gate_at drivers g ≡ true

not_alone : (b : Bool) → b ≡ not (not b || false)
not_alone true = refl
not_alone false = refl

pub is_ready-there : (drivers : List Driver) (left : List ℕ) (g n : ℕ) → 0 < n → n
    ≡ cond {A = ℕ} (is_ready drivers left g) 1 0 → is_ready drivers left g ≡ true
is_ready-there drivers left g n some e =
    elim (cases_Bool (is_ready drivers left g)) [
      | inl r ↦ r
      | inr r ↦ absurd (let z : n ≡ 0 = e ∙ ap (λ b. cond {A = ℕ} b 1 0) r in omega (arith, z))
    ]

pub Walk-starts : (drivers : List Driver) (left order : List ℕ)
    → AreCounts drivers left (length drivers) → AreReadyBelow drivers left order (length drivers)
    → Walk drivers left order [] []
Walk-starts drivers left order c r = record {
  one_each = c.one_each;
  more = order;
  order_is = refl;
  counts = λ g l. c.counts g l ∙ waits g ∙ sym (add-zero (waiting drivers [] g));
  ready = λ g. ready g;
  after = λ k l. after k l;
  within = All-nil (λ n. n < length drivers);
  gates = λ g l. absurd (omega (arith, l));
}
  where
    waits : (g : ℕ) → count_by (gate_at drivers) (pins_at drivers g) ≡ waiting drivers [] g
    waits g = λ i. count_by (λ p. not_alone (gate_at drivers p) i) (pins_at drivers g)

    not_ready : (g : ℕ) → length drivers ≤ g → is_ready drivers left g ≡ false
    not_ready g l = elim (cases_Bool (gate_at drivers g)) [
      | inl e ↦ absurd (let w = gate_within drivers g e in omega arith)
      | inr e ↦ ap (λ b. b && eqb (slice_index left g) 0) e
    ]

    ready : (g : ℕ) → times g order ≡ cond {A = ℕ} (is_ready drivers left g) 1 0
    ready g = elim (cases_lt g (length drivers)) [
      | inl l ↦ r.once g ∙ ap (λ b. cond {A = ℕ} (b && is_ready drivers left g) 1 0)
          (lt-ltb g (length drivers) l)
      | inr l ↦ r.once g ∙ ap (λ b. cond {A = ℕ} (b && is_ready drivers left g) 1 0)
          (le-ltb g (length drivers) l)
          ∙ sym (ap (λ b. cond {A = ℕ} b 1 0) (not_ready g l))
    ]

    after : (k : ℕ) → k < length order
        → All (λ p. is_settled drivers (take k order) p ≡ true) (pins_at drivers (get_or order k 0))
    after k l =
        let g = get_or order k 0 in
        let parts = and_parts (gate_at drivers g) (eqb (slice_index left g) 0)
        (is_ready-there drivers left g (times g order) (times-there order k l) (ready g)) in
        let w = gate_within drivers g parts.0 in
        let zero : waiting drivers [] g ≡ 0 = sym (waits g) ∙ sym (c.counts g w)
        ∙ eqb-true (slice_index left g) 0 parts.1 in
        settled_pins drivers [] (take k order) g zero

-- one pin fewer for the first gate of the rest
pub Walk-settle : (drivers : List Driver) (left order front : List ℕ) (g : ℕ) (rest : List ℕ)
    → Walk drivers left order front (g ∷ rest)
    → Walk drivers (lowered left g) (joined left order g) front rest
Walk-settle drivers left order front g rest w = record {
  one_each = length-set left g (slice_index left g - 1) ∙ w.one_each;
  more = cond (eqb (slice_index left g) 1) (w.more ++ g ∷ []) w.more;
  order_is = order_is;
  counts = λ h l. counts h l;
  ready = λ h. ready h;
  after = after;
  within = All-tail (λ n. n < length drivers) g rest w.within;
  gates = λ h l. w.gates h (omega (arith, times-cons h g rest, l));
}
  where
    in' : g < length left
    in' = omega (arith, All-head (λ n. n < length drivers) g rest w.within, w.one_each)

    first : cond {A = ℕ} (eqb g g) 1 0 ≡ 1
    first = ap (λ b. cond {A = ℕ} b 1 0) (eq-eqb g g refl)

    is_gate_g : gate_at drivers g ≡ true
    is_gate_g = w.gates g (omega (arith, times-cons g g rest, first))

    left_g : slice_index left g ≡ waiting drivers front g + (1 + times g rest)
    left_g = omega (arith, w.counts g (omega (arith, in', w.one_each)), times-cons g g rest, first)

    lowered_g : slice_index (lowered left g) g ≡ slice_index left g - 1
    lowered_g = get_or-set_same left g (slice_index left g - 1) 0 in'

    lowered_other : (h : ℕ) → (g ≡ h → ⊥) → slice_index (lowered left g) h ≡ slice_index left h
    lowered_other h ne = get_or-set_other left g h (slice_index left g - 1) 0 (λ q. ne (sym q))

    order_is : joined left order g ≡ front
        ++ cond (eqb (slice_index left g) 1) (w.more ++ g ∷ []) w.more
    order_is = elim (cases_Bool (eqb (slice_index left g) 1)) [
      | inl e ↦ ap (λ b. cond b (order ++ g ∷ []) order) e ∙ ap (λ o. o ++ g ∷ []) w.order_is
          ∙ append_assoc front w.more (g ∷ [])
          ∙ sym (ap (λ b. front ++ cond b (w.more ++ g ∷ []) w.more) e)
      | inr e ↦ ap (λ b. cond b (order ++ g ∷ []) order) e ∙ w.order_is
          ∙ sym (ap (λ b. front ++ cond b (w.more ++ g ∷ []) w.more) e)
    ]

    counts : (h : ℕ) → h < length drivers → slice_index (lowered left g) h
        ≡ waiting drivers front h + times h rest
    counts h l = elim (cases_eq g h) [
      | inl e ↦ subst (λ (k : ℕ). slice_index (lowered left g) k
          ≡ waiting drivers front k + times k rest) e (omega (arith, lowered_g, left_g))
      | inr ne ↦
          let none : cond {A = ℕ} (eqb g h) 1 0 ≡ 0 = ap (λ b. cond {A = ℕ} b 1 0) (ne_eqb g h ne)
          in
          omega (arith, lowered_other h ne, w.counts h l, times-cons h g rest, none)
    ]

    none_yet : times g order ≡ 0
    none_yet =
        let z : eqb (slice_index left g) 0
        ≡ false = ne_eqb (slice_index left g) 0 (λ q. absurd (omega (arith, left_g, q))) in
        w.ready g ∙ ap (λ b. cond {A = ℕ} (gate_at drivers g && b) 1 0) z
        ∙ ap (λ b. cond {A = ℕ} b 1 0) (and-false (gate_at drivers g))

    ready_g : times g (joined left order g) ≡ cond {A = ℕ} (is_ready drivers (lowered left g) g) 1 0
    ready_g = elim (cases_Bool (eqb (slice_index left g) 1)) [
      | inl e ↦
          let one = eqb-true (slice_index left g) 1 e in
          let a : times g (joined left order g)
          ≡ times g order + cond {A = ℕ} (eqb g g) 1 0 = ap
          (λ b. times g (cond b (order ++ g ∷ []) order)) e ∙ times_push g g order in
          let b : times g (joined left order g) ≡ 1 = omega (arith, a, none_yet, first) in
          let c : eqb (slice_index (lowered left g) g) 0
          ≡ true = eq-eqb (slice_index (lowered left g) g) 0 (omega (arith, lowered_g, one)) in
          b ∙ sym (ap (λ t. cond {A = ℕ}
          (t && eqb (slice_index (lowered left g) g) 0) 1 0) is_gate_g
          ∙ ap (λ t. cond {A = ℕ} t 1 0) c)
      | inr e ↦
          let more = eqb-false (slice_index left g) 1 e in
          let a : times g (joined left order g)
          ≡ times g order = ap (λ b. times g (cond b (order ++ g ∷ []) order)) e in
          let c : eqb (slice_index (lowered left g) g) 0
          ≡ false = ne_eqb (slice_index (lowered left g) g) 0
          (λ q. more (omega (arith, lowered_g, left_g, q))) in
          a ∙ none_yet ∙ sym (ap (λ t. cond {A = ℕ} (gate_at drivers g && t) 1 0) c
          ∙ ap (λ t. cond {A = ℕ} t 1 0) (and-false (gate_at drivers g)))
    ]

    same_times : (h : ℕ) → (g ≡ h → ⊥) → times h (joined left order g) ≡ times h order
    same_times h ne = elim (cases_Bool (eqb (slice_index left g) 1)) [
      | inl e ↦
          let none : cond {A = ℕ} (eqb g h) 1 0 ≡ 0 = ap (λ b. cond {A = ℕ} b 1 0) (ne_eqb g h ne)
          in
          ap (λ b. times h (cond b (order ++ g ∷ []) order)) e ∙ times_push h g order
          ∙ omega (arith, none)
      | inr e ↦ ap (λ b. times h (cond b (order ++ g ∷ []) order)) e
    ]

    ready : (h : ℕ) → times h (joined left order g)
        ≡ cond {A = ℕ} (is_ready drivers (lowered left g) h) 1 0
    ready h = elim (cases_eq g h) [
      | inl e ↦ subst (λ (k : ℕ). times k (joined left order g)
          ≡ cond {A = ℕ} (is_ready drivers (lowered left g) k) 1 0) e ready_g
      | inr ne ↦ same_times h ne ∙ w.ready h
          ∙ sym (ap (λ n. cond {A = ℕ} (gate_at drivers h && eqb n 0) 1 0) (lowered_other h ne))
    ]

    pushed : eqb (slice_index left g) 1 ≡ true → (k : ℕ) → k < length (order ++ g ∷ [])
        → All (λ p. is_settled drivers (take k (order ++ g ∷ [])) p
        ≡ true) (pins_at drivers (get_or (order ++ g ∷ []) k 0))
    pushed e k l =
        elim (cases_lt k (length order)) [
          | inl m ↦
              subst (λ (n : ℕ). All (λ p. is_settled drivers (take k (order ++ g ∷ [])) p
              ≡ true) (pins_at drivers n)) (sym (get_or_append_left order (g ∷ []) 0 k m))
              (subst (λ (t : List ℕ). All (λ p. is_settled drivers t p
              ≡ true) (pins_at drivers (get_or order k 0)))
              (sym (take-append-le k order (g ∷ []) (omega arith))) (w.after k m))
          | inr m ↦
              let at : k ≡ length order = omega (arith, m, l, length-append order (g ∷ [])) in
              let zero : waiting drivers front g
              ≡ 0 = omega (arith, left_g, eqb-true (slice_index left g) 1 e) in
              let all = settled_pins drivers front w.more g zero in
              let all' : All (λ p. is_settled drivers order p
              ≡ true) (pins_at drivers g) = subst
              (λ (t : List ℕ). All (λ p. is_settled drivers t p ≡ true) (pins_at drivers g))
              (sym w.order_is) all in
              subst (λ (n : ℕ). All (λ p. is_settled drivers (take k (order ++ g ∷ [])) p
              ≡ true) (pins_at drivers n)) (sym (get_or_at order g [] 0 k (sym at)))
              (subst (λ (t : List ℕ). All (λ p. is_settled drivers t p ≡ true) (pins_at drivers g))
              (sym (take_at order (g ∷ []) k (sym at))) all')
        ]

    after : (k : ℕ) → k < length (joined left order g)
        → All (λ p. is_settled drivers (take k (joined left order g)) p
        ≡ true) (pins_at drivers (get_or (joined left order g) k 0))
    after = elim (cases_Bool (eqb (slice_index left g) 1)) [
      | inl e ↦ subst (λ (b : Bool). (k : ℕ) → k < length (cond b (order ++ g ∷ []) order)
          → All (λ p. is_settled drivers (take k (cond b (order ++ g ∷ []) order)) p
          ≡ true) (pins_at drivers (get_or (cond b (order ++ g ∷ []) order) k 0))) (sym e)
          (pushed e)
      | inr e ↦ subst (λ (b : Bool). (k : ℕ) → k < length (cond b (order ++ g ∷ []) order)
          → All (λ p. is_settled drivers (take k (cond b (order ++ g ∷ []) order)) p
          ≡ true) (pins_at drivers (get_or (cond b (order ++ g ∷ []) order) k 0))) (sym e) w.after
    ]

-- the rest is walked
pub Walk-walked : (drivers : List Driver) (left order front rest : List ℕ)
    → Walk drivers left order front rest
    → Walk drivers (walked left order rest).0 (walked left order rest).1 front []
Walk-walked drivers left order front [] w = w
Walk-walked drivers left order front (g ∷ gs) w = Walk-walked drivers (lowered left g)
    (joined left order g) front gs (Walk-settle drivers left order front g gs w)
