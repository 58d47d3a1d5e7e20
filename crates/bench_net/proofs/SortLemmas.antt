-- Gates in an order: each net that is settled lowers what waits for it, and a gate that waits for
-- none goes behind the others.
use Rattle.std.proofs.Common.{◌≡◌, ◌≢◌, ℕ, ◌+◌, ◌-◌, ◌<◌, ◌≤◌, true, false, ◌&&◌, cond, List, [], ◌∷◌, ◌++◌, length, get_or, take, drop, refl, sym, ap, ◌∙◌, subst, arith, inl, inr, eqb, ltb, length-set, add-zero}
use Rattle.std.specs.Prelude.{slice_index}
use Rattle.std.proofs.lemmas.List.{get_or-set_same, get_or-set_other, get_or_past, take_rest}
use Rattle.std.proofs.lemmas.List.Sums.{sum_by-cons, sum_by_push, get_or-le-sum_by}
use Rattle.std.proofs.lemmas.List.Elements.{All-head, All-tail}
use Rattle.std.proofs.lemmas.Bool.{cases_Bool, cases_order, cases_lt, cases_eq, eq-eqb, ne_eqb, lt-ltb, le-ltb, both_ways}
use Rattle.std.proofs.Math.Bool.{and-true, and-false}
use Rattle.bench_net.specs.declared.gate.Driver.{Driver}
use Rattle.bench_net.specs.declared.gate.Driver.TheVariants.{Input, Dff, Gate}
use Rattle.bench_net.specs.Wiring.{is_gate, pins_of, gate_at}
use Rattle.bench_net.specs.Sorting.{AreWithin, times, is_ready, with_ready, AreReadyBelow, lowered, joined, walked, CanSettle}

-- of each net once more
pub times-cons : (n m : ℕ) (xs : List ℕ) → times n (m ∷ xs)
    ≡ cond {A = ℕ} (eqb m n) 1 0 + times n xs
times-cons n m xs = sum_by-cons (λ x. cond {A = ℕ} (eqb x n) 1 0) m xs

-- of each net once more, behind the others
pub times_push : (n m : ℕ) (xs : List ℕ) → times n (xs ++ m ∷ [])
    ≡ times n xs + cond {A = ℕ} (eqb m n) 1 0
times_push n m xs = sum_by_push (λ x. cond {A = ℕ} (eqb x n) 1 0) xs m

-- what stands in a list stands there once at least
pub times-there : (xs : List ℕ) (k : ℕ) → k < length xs → 0 < times (get_or xs k 0) xs
times-there xs k l =
    let at = get_or-le-sum_by (λ x. cond {A = ℕ} (eqb x (get_or xs k 0)) 1 0) xs k 0 l in
    let one : cond {A = ℕ} (eqb (get_or xs k 0) (get_or xs k 0)) 1 0
    ≡ 1 = ap (λ b. cond {A = ℕ} b 1 0) (eq-eqb (get_or xs k 0) (get_or xs k 0) refl) in
    omega (arith, at, one)

-- a net that a gate drives is one of the nets
pub gate_within : (drivers : List Driver) (g : ℕ) → gate_at drivers g ≡ true → g < length drivers
gate_within drivers g e =
    elim (cases_lt g (length drivers)) [
      | inl l ↦ l
      | inr l ↦ absurd (both_ways (gate_at drivers g)
          (ap is_gate (get_or_past drivers g Input l)) e)
    ]

-- what is no gate reads no net at once
pub pins_none : (d : Driver) → is_gate d ≡ false → pins_of d ≡ []
pins_none Input e = refl
pins_none (Dff d) e = refl
pins_none (Gate kind pins) e = cc

-- the gates that wait for none, one net further
pub AreReadyBelow-more : (drivers : List Driver) (left order order' : List ℕ) (n : ℕ)
    → AreReadyBelow drivers left order n → order' ≡ with_ready drivers left order n
    → AreReadyBelow drivers left order' (n + 1)
AreReadyBelow-more drivers left order order' n h e = record { once = λ g. once g }
  where
    step : (g : ℕ) → times g order'
        ≡ times g order + cond {A = ℕ} (is_ready drivers left n && eqb n g) 1 0
    step g = elim (cases_Bool (is_ready drivers left n)) [
      | inl r ↦ ap (times g) (e ∙ ap (λ b. cond b (order ++ n ∷ []) order) r) ∙ times_push g n order
          ∙ ap (λ b. times g order + cond {A = ℕ} (b && eqb n g) 1 0) (sym r)
      | inr r ↦ ap (times g) (e ∙ ap (λ b. cond b (order ++ n ∷ []) order) r)
          ∙ sym (add-zero (times g order))
          ∙ ap (λ b. times g order + cond {A = ℕ} (b && eqb n g) 1 0) (sym r)
    ]

    once : (g : ℕ) → times g order' ≡ cond {A = ℕ} (ltb g (n + 1) && is_ready drivers left g) 1 0
    once g =
        let s = step g in
        let a = h.once g in
        elim (cases_order g n) [
          | inl q ↦
              let a' : times g order ≡ 0 = a
              ∙ ap (λ b. cond {A = ℕ} (b && is_ready drivers left g) 1 0)
              (le-ltb g n (omega arith)) in
              let s' : times g order' ≡ times g order + cond {A = ℕ}
              (is_ready drivers left n) 1 0 = s
              ∙ ap (λ b. times g order + cond {A = ℕ} b 1 0)
              (ap (λ b. is_ready drivers left n && b) (eq-eqb n g (sym q))
              ∙ and-true (is_ready drivers left n)) in
              let s'' : times g order' ≡ cond {A = ℕ} (is_ready drivers left g) 1 0 = omega
              (arith, a', s') ∙ ap (λ k. cond {A = ℕ} (is_ready drivers left k) 1 0) (sym q) in
              s'' ∙ ap (λ b. cond {A = ℕ} (b && is_ready drivers left g) 1 0)
              (sym (lt-ltb g (n + 1) (omega arith)))
          | inr o ↦
              let s' : times g order' ≡ times g order + 0 = s
              ∙ ap (λ b. times g order + cond {A = ℕ} b 1 0)
              (ap (λ b. is_ready drivers left n && b)
              (ne_eqb n g (λ q. elim o [
                | inl l ↦ absurd (omega arith)
                | inr l ↦ absurd (omega arith)
              ])) ∙ and-false (is_ready drivers left n)) in
              let s'' : times g order' ≡ times g order = omega (arith, s') in
              elim o [
                | inl l ↦ s'' ∙ a ∙ ap (λ b. cond {A = ℕ} (b && is_ready drivers left g) 1 0)
                    (lt-ltb g n l ∙ sym (lt-ltb g (n + 1) (omega arith)))
                | inr l ↦ s'' ∙ a ∙ ap (λ b. cond {A = ℕ} (b && is_ready drivers left g) 1 0)
                    (le-ltb g n (omega arith) ∙ sym (le-ltb g (n + 1) (omega arith)))
              ]
        ]

CanSettle-more : (left : List ℕ) (g : ℕ) (gs : List ℕ) → CanSettle left (g ∷ gs)
    → CanSettle (lowered left g) gs
CanSettle-more left g gs h =
    let in' : g < length left = All-head (λ n. n < length left) g gs h.within in
    record {
      within = subst (λ (n : ℕ). AreWithin n gs) (sym (length-set left g (slice_index left g - 1)))
          (All-tail (λ n. n < length left) g gs h.within);
      enough = λ k. enough in' k;
    }
  where
    enough : g < length left → (k : ℕ) → times k gs ≤ slice_index (lowered left g) k
    enough in' k =
        let c = times-cons k g gs in
        elim (cases_eq g k) [
          | inl e ↦
              let one : cond {A = ℕ} (eqb g k) 1 0 ≡ 1 = ap (λ b. cond {A = ℕ} b 1 0) (eq-eqb g k e)
              in
              let now : slice_index (lowered left g) k
              ≡ slice_index left g - 1 = ap (λ i. slice_index (lowered left g) i) (sym e)
              ∙ get_or-set_same left g (slice_index left g - 1) 0 in' in
              let same : slice_index left g ≡ slice_index left k = ap (slice_index left) e in
              omega (arith, c, one, now, same, h.enough k)
          | inr ne ↦
              let none : cond {A = ℕ} (eqb g k) 1 0
              ≡ 0 = ap (λ b. cond {A = ℕ} b 1 0) (ne_eqb g k ne) in
              let other : k ≢ g = λ q. ne (sym q) in
              let now : slice_index (lowered left g) k
              ≡ slice_index left k = get_or-set_other left g k (slice_index left g - 1) 0 other
              in
              omega (arith, c, none, now, h.enough k)
        ]

-- one gate of the list is taken
pub record SettlesOne (left order rest left' order' rest' : List ℕ) : Type 0 where
  pub can : CanSettle left' rest'
  pub walk : walked left' order' rest' ≡ walked left order rest

pub SettlesOne-first : (left order rest left' order' : List ℕ) (d : ℕ) → 1 ≤ length rest → left'
    ≡ lowered left (get_or rest 0 d) → order' ≡ joined left order (get_or rest 0 d)
    → CanSettle left rest → SettlesOne left order rest left' order'
    (take (length rest - 1) (drop 1 rest))
SettlesOne-first left order [] left' order' d some l o h = absurd (omega arith)
SettlesOne-first left order (g ∷ gs) left' order' d some l o h =
    subst (λ (r : List ℕ). SettlesOne left order (g ∷ gs) left' order' r)
    (sym (take_rest (g ∷ gs) 1))
    (record {
      can = subst (λ (x : List ℕ). CanSettle x gs) (sym l) (CanSettle-more left g gs h);
      walk = ap (λ x. walked x order' gs) l ∙ ap (λ x. walked (lowered left g) x gs) o;
    })
