-- The walk takes the next gate of the order, and ends behind the last.
use Rattle.std.proofs.Common.{◌≡◌, ℕ, suc, ◌+◌, ◌-◌, ◌<◌, ◌≤◌, Bool, true, false, not, ◌||◌, cond, List, [], ◌∷◌, ◌++◌, length, get_or, take, drop, refl, sym, ap, ◌∙◌, subst, arith, inl, inr, eqb, length-append, take-append-drop, drop-cons}
use Rattle.std.specs.Prelude.{count_by, sum, slice_index}
use Rattle.std.specs.List.{list_any}
use Rattle.std.proofs.lemmas.List.{get_or_past, take_at, take_more, length-take-le, set_past}
use Rattle.std.proofs.lemmas.List.Sums.{sum_by-cons, sum_by-set, sum_by-append}
use Rattle.std.proofs.lemmas.List.Folds.{list_any-append, list_any_none}
use Rattle.std.proofs.lemmas.List.Elements.{All-from_get_or}
use Rattle.std.proofs.lemmas.Bool.{cases_Bool, cases_lt, cases_eq, eqb-true, eq-eqb, ne_eqb, and_parts}
use Rattle.std.proofs.Math.Bool.{or-true}
use Rattle.text_bytes.proofs.BoolLemmas.{at_most_one}
use Rattle.bench_net.specs.declared.gate.Driver.{Driver}
use Rattle.bench_net.specs.Wiring.{gate_at, pins_at, driver_at, is_settled, AreReaders}
use Rattle.bench_net.specs.Sorting.{AreWithin, times, waiting, is_ready, lowered, joined, walked, CanSettle}
use Rattle.bench_net.proofs.SortLemmas.{times-cons, times-there, gate_within, pins_none}
use Rattle.bench_net.proofs.WalkLemmas.{Walk, Walk-walked, zero_count, is_ready-there}

-- false adds nothing, twice
or_nothing : (b : Bool) → (b || (false || false)) ≡ b
or_nothing true = refl
or_nothing false = refl

-- a pin of the net is settled by it, and no other
pin_settled : (drivers : List Driver) (front : List ℕ) (net p : ℕ) → gate_at drivers net ≡ true
    → list_any (λ g. eqb g net) front ≡ false → cond {A = ℕ} (not (is_settled drivers front p)) 1 0
    ≡ cond {A = ℕ} (not (is_settled drivers (front ++ net ∷ []) p)) 1 0 + cond {A = ℕ}
    (eqb p net) 1 0
pin_settled drivers front net p g none =
    elim (cases_eq net p) [
      | inl e ↦ subst (λ (q : ℕ). cond {A = ℕ} (not (is_settled drivers front q)) 1 0
          ≡ cond {A = ℕ} (not (is_settled drivers (front ++ net ∷ []) q)) 1 0 + cond {A = ℕ}
          (eqb q net) 1 0) e own
      | inr ne ↦
          let same : is_settled drivers (front ++ net ∷ []) p ≡ is_settled drivers front p =
          ap (λ b. not (gate_at drivers p) || b) (list_any-append (λ h. eqb h p) front (net ∷ [])
          ∙ ap (λ b. list_any (λ h. eqb h p) front || (b || false)) (ne_eqb net p ne)
          ∙ or_nothing (list_any (λ h. eqb h p) front)) in
          let other : cond {A = ℕ} (eqb p net) 1 0
          ≡ 0 = ap (λ b. cond {A = ℕ} b 1 0) (ne_eqb p net (λ q. ne (sym q))) in
          let same' : cond {A = ℕ} (not (is_settled drivers (front ++ net ∷ []) p)) 1 0
          ≡ cond {A = ℕ} (not (is_settled drivers front p)) 1 0 = ap
          (λ b. cond {A = ℕ} (not b) 1 0) same in
          omega (arith, same', other)
    ]
  where
    own : cond {A = ℕ} (not (is_settled drivers front net)) 1 0
        ≡ cond {A = ℕ} (not (is_settled drivers (front ++ net ∷ []) net)) 1 0 + cond {A = ℕ}
        (eqb net net) 1 0
    own =
        let before : is_settled drivers front net
        ≡ false = ap (λ b. not b || list_any (λ h. eqb h net) front) g ∙ none in
        let behind : list_any (λ h. eqb h net) (front ++ net ∷ []) ≡ true =
        list_any-append (λ h. eqb h net) front (net ∷ [])
        ∙ ap (λ b. list_any (λ h. eqb h net) front || (b || false)) (eq-eqb net net refl)
        ∙ or-true (list_any (λ h. eqb h net) front) in
        let after : is_settled drivers (front ++ net ∷ []) net
        ≡ true = ap (λ b. not b || list_any (λ h. eqb h net) (front ++ net ∷ [])) g ∙ behind in
        ap (λ b. cond {A = ℕ} (not b) 1 0) before
        ∙ sym (ap (λ b. cond {A = ℕ} (not b) 1 0 + cond {A = ℕ} (eqb net net) 1 0) after
        ∙ ap (λ b. 0 + cond {A = ℕ} b 1 0) (eq-eqb net net refl))

-- what waits for the net waits for it no more
pins_settled : (drivers : List Driver) (front : List ℕ) (net : ℕ) → gate_at drivers net ≡ true
    → list_any (λ g. eqb g net) front ≡ false → (ps : List ℕ)
    → count_by (λ p. not (is_settled drivers front p)) ps
    ≡ count_by (λ p. not (is_settled drivers (front ++ net ∷ []) p)) ps + times net ps
pins_settled drivers front net g none [] = refl
pins_settled drivers front net g none (p ∷ ps) =
    let a = sum_by-cons (λ q. cond {A = ℕ} (not (is_settled drivers front q)) 1 0) p ps in
    let b = sum_by-cons (λ q. cond {A = ℕ} (not
    (is_settled drivers (front ++ net ∷ []) q)) 1 0) p ps in
    let c = times-cons net p ps in
    omega (arith, a, b, c, pin_settled drivers front net p g none, pins_settled drivers front net g none ps)

-- a net that stands once in an order does not stand before its place
not_before : (order : List ℕ) (at : ℕ) → at < length order → times (get_or order at 0) order ≤ 1
    → list_any (λ g. eqb g (get_or order at 0)) (take at order) ≡ false
not_before order at l once =
    let net = get_or order at 0 in
    let split : times net (take at order ++ drop at order)
    ≡ times net (take at order) + times net (drop at order) = sum_by-append
    (λ x. cond {A = ℕ} (eqb x net) 1 0) (take at order) (drop at order) in
    let whole : times net (take at order ++ drop at order)
    ≡ times net order = ap (times net) (take-append-drop at order) in
    let rest : drop at order ≡ net ∷ drop (suc at) order = drop-cons order at 0 l in
    let more : times net (drop at order)
    ≡ cond {A = ℕ} (eqb net net) 1 0 + times net (drop (suc at) order) = ap (times net) rest
    ∙ times-cons net net (drop (suc at) order) in
    let one : cond {A = ℕ} (eqb net net) 1 0
    ≡ 1 = ap (λ b. cond {A = ℕ} b 1 0) (eq-eqb net net refl) in
    list_any_none (λ g. eqb g net) (take at order)
    (zero_count (λ g. eqb g net) (take at order) (omega (arith, split, whole, more, one, once)))

pub Walk-next : (drivers : List Driver) (readers : List (List ℕ)) (left order : List ℕ) (at : ℕ)
    → at < length order → AreReaders drivers readers → Walk drivers left order (take at order) []
    → Walk drivers left order (take (at + 1) order) (get_or readers (get_or order at 0) [])
Walk-next drivers readers left order at l r w = record {
  one_each = w.one_each;
  more = drop (at + 1) order;
  order_is = sym (take-append-drop (at + 1) order);
  counts = λ g m. counts g m;
  ready = w.ready;
  after = w.after;
  within = All-from_get_or (λ n. n < length drivers) (get_or readers net []) 0
      (λ k m. gate_within drivers (get_or (get_or readers net []) k 0)
      (gates (get_or (get_or readers net []) k 0) (times-there (get_or readers net []) k m)));
  gates = λ g m. gates g m;
}
  where
    net : ℕ
    net = get_or order at 0

    net_ready : is_ready drivers left net ≡ true
    net_ready = is_ready-there drivers left net (times net order) (times-there order at l)
        (w.ready net)

    net_gate : gate_at drivers net ≡ true
    net_gate = (and_parts (gate_at drivers net) (eqb (slice_index left net) 0) net_ready).0

    net_within : net < length drivers
    net_within = gate_within drivers net net_gate

    more_front : take (at + 1) order ≡ take at order ++ net ∷ []
    more_front = take_more order at 0 l

    none : list_any (λ g. eqb g net) (take at order) ≡ false
    none = not_before order at l
        (at_most_one (is_ready drivers left net) (times net order) (w.ready net))

    reads_net : (g : ℕ) → times g (get_or readers net []) ≡ times net (pins_at drivers g)
    reads_net g = r.counts net g net_within

    counts : (g : ℕ) → g < length drivers → slice_index left g
        ≡ waiting drivers (take (at + 1) order) g + times g (get_or readers net [])
    counts g m =
        let s : waiting drivers (take at order) g
        ≡ waiting drivers (take at order
        ++ net ∷ []) g + times net (pins_at drivers g) = pins_settled drivers
        (take at order) net net_gate none (pins_at drivers g) in
        let f : waiting drivers (take (at + 1) order) g
        ≡ waiting drivers (take at order
        ++ net ∷ []) g = ap (λ (t : List ℕ). waiting drivers t g) more_front in
        let z : times g [] ≡ 0 = refl in
        omega (arith, w.counts g m, s, f, reads_net g, z)

    gates : (g : ℕ) → 0 < times g (get_or readers net []) → gate_at drivers g ≡ true
    gates g m = elim (cases_Bool (gate_at drivers g)) [
      | inl e ↦ e
      | inr e ↦ absurd (let z : times net (pins_at drivers g)
          ≡ 0 = ap (times net) (pins_none (driver_at drivers g) e)
          in omega (arith, m, reads_net g, z))
    ]

pub CanSettle-Walk : (drivers : List Driver) (left order front rest : List ℕ)
    → Walk drivers left order front rest → CanSettle left rest
CanSettle-Walk drivers left order front rest w = record {
  within = subst (λ (n : ℕ). AreWithin n rest) (sym w.one_each) w.within;
  enough = λ g. enough g;
}
  where
    enough : (g : ℕ) → times g rest ≤ slice_index left g
    enough g = elim (cases_lt 0 (times g rest)) [
      | inl m ↦ omega (arith, w.counts g (gate_within drivers g (w.gates g m)))
      | inr m ↦ omega (arith, m)
    ]

-- each pin that is settled is one fewer left, and the order grows by one gate at most
walked-less : (left order gates : List ℕ)
    → sum (walked left order gates).0 + length (walked left order gates).1 ≤ sum left + length order
walked-less left order [] = omega arith
walked-less left order (g ∷ gs) =
    let rest = walked-less (lowered left g) (joined left order g) gs in
    let one = settled-less in
    omega (arith, rest, one)
  where
    settled-less : sum (lowered left g) + length (joined left order g) ≤ sum left + length order
    settled-less = elim (cases_lt g (length left)) [
      | inl l ↦
          let s = sum_by-set (λ x. x) left g (slice_index left g - 1) 0 l in
          elim (cases_Bool (eqb (slice_index left g) 1)) [
            | inl e ↦
                let one = eqb-true (slice_index left g) 1 e in
                let j : length (joined left order g)
                ≡ length (order ++ g ∷ []) = ap (λ b. length (cond b (order ++ g ∷ []) order)) e
                in
                omega (arith, s, one, j, length-append order (g ∷ []))
            | inr e ↦
                let j : length (joined left order g)
                ≡ length order = ap (λ b. length (cond b (order ++ g ∷ []) order)) e in
                omega (arith, s, j)
          ]
      | inr l ↦
          let zero : slice_index left g ≡ 0 = get_or_past left g 0 l in
          let same : lowered left g ≡ left = set_past left g (slice_index left g - 1) l in
          let j : length (joined left order g)
          ≡ length order = ap (λ b. length (cond b (order ++ g ∷ []) order))
          (ne_eqb (slice_index left g) 1 (λ q. absurd (omega (arith, q, zero)))) in
          omega (arith, ap sum same, j)
    ]

pub walk-smaller : (left order left' order' gates : List ℕ) (at : ℕ) → at < length order
    → (left', order') ≡ walked left order gates
    → sum left' + length order' - (at + 1) < sum left + length order - at
walk-smaller left order left' order' gates at l e =
    let less = walked-less left order gates in
    let a : sum left' ≡ sum (walked left order gates).0 = ap (λ (p : List ℕ × List ℕ). sum p.0) e in
    let b : length order' ≡ length (walked left order gates).1 = ap
    (λ (p : List ℕ × List ℕ). length p.1) e in
    omega (arith, less, a, b, l)

pub net_within : (drivers : List Driver) (left order front rest : List ℕ) (at : ℕ)
    → at < length order → Walk drivers left order front rest → get_or order at 0 < length drivers
net_within drivers left order front rest at l w =
    let net = get_or order at 0 in
    gate_within drivers net (and_parts (gate_at drivers net) (eqb (slice_index left net) 0)
    (is_ready-there drivers left net (times net order) (times-there order at l)
    (w.ready net))).0

Walk-front : (drivers : List Driver) (left order front : List ℕ) (n : ℕ) → length front ≡ n
    → Walk drivers left order front [] → Walk drivers left order (take n order) []
Walk-front drivers left order front n e w =
    subst (λ (t : List ℕ). Walk drivers left order t [])
    (sym (ap (take n) w.order_is ∙ take_at front w.more n e)) w

-- the walk goes on at the next place
pub Walk-goes_on : (drivers : List Driver) (readers : List (List ℕ))
    (left order left' order' : List ℕ) (at : ℕ) → at < length order → AreReaders drivers readers
    → Walk drivers left order (take at order) [] → (left', order')
    ≡ walked left order (get_or readers (get_or order at 0) [])
    → Walk drivers left' order' (take (at + 1) order') []
Walk-goes_on drivers readers left order left' order' at l r w e =
    Walk-front drivers left' order' (take (at + 1) order) (at + 1)
    (length-take-le (at + 1) order (omega arith))
    (subst (λ (p : List ℕ × List ℕ). Walk drivers p.0 p.1 (take (at + 1) order) []) (sym e)
    (Walk-walked drivers left order (take (at + 1) order) (get_or readers (get_or order at 0) [])
    (Walk-next drivers readers left order at l r w)))
