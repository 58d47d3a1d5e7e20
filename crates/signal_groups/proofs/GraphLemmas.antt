-- Which groups are needed by others, and within how many steps.
use Rattle.std.proofs.Common.{◌≡◌, ℕ, zero, suc, ◌<◌, ◌≤◌, ◌+◌, ◌-◌, ◌==◌, ◌||◌, Bool, true, false, cond, List, [], ◌∷◌, ◌++◌, length, get_or, refl, sym, ap, ◌∙◌, subst, arith, inl, inr, true≢false, length-append}
use Rattle.std.specs.Prelude.{All, slice_index}
use Rattle.std.specs.List.{list_any}
use Rattle.std.proofs.Math.Seq.{get_or-append_seam}
use Rattle.std.proofs.lemmas.Bool.{cases_Bool, cases_lt, cases_order, eqb-true, eq-eqb, ne_eqb, or_left, or_right, or_from, or_cases}
use Rattle.std.proofs.lemmas.List.{get_or_append_left}
use Rattle.std.proofs.lemmas.List.Elements.{All-nil, All-cons, All-head, All-tail}
use Rattle.std.proofs.lemmas.List.Folds.{list_any-append}
use Rattle.indexmap.proofs.IndexTableLemmas.Probe.{pigeonhole}
use Rattle.stil_ast.specs.Meaning.Members.{added}
use Rattle.signal_groups.specs.Graph.{needs_at, reaches, is_done, IsStuck, AreBelow, AreFound}

-- where no item passes
any-none : (p : ℕ → Bool) (xs : List ℕ) → All (λ x. p x ≡ false) xs → list_any p xs ≡ false
any-none p [] h = refl
any-none p (x ∷ xs) h =
    ap (λ b. b || list_any p xs) (All-head (λ y. p y ≡ false) x xs h) ∙ any-none p xs (All-tail (λ y. p y ≡ false) x xs h)

-- what passes one test passes another
any-passes : (p q : ℕ → Bool) (xs : List ℕ) → ((x : ℕ) → p x ≡ true → q x ≡ true) → list_any p xs ≡ true → list_any q xs ≡ true
any-passes p q [] e h = h
any-passes p q (x ∷ xs) e h =
    elim (cases_Bool (p x)) [
      | inl y ↦ or_left (q x) (list_any q xs) (e x y)
      | inr n ↦ or_right (q x) (list_any q xs) (any-passes p q xs e (sym (ap (λ b. b || list_any p xs) n) ∙ h))
    ]

-- what stands outside of a set that holds what its groups need is needed by none of it
pub outside : (graph : List (List ℕ)) (set : ℕ → Bool) (target : ℕ)
    → ((h : ℕ) → set h ≡ true → All (λ k. set k ≡ true) (needs_at graph h)) → set target ≡ false
    → (steps : ℕ) (from : List ℕ) → All (λ h. set h ≡ true) from → reaches graph steps from target ≡ false
outside graph set target closed out zero from h = refl
outside graph set target closed out (suc steps) from h =
    any-none (λ k. k == target || reaches graph steps (needs_at graph k) target) from
    (λ k d lt. or_from _ _
    (ne_eqb (get_or from k d) target (λ e. true≢false (sym (h k d lt) ∙ ap set e ∙ out)))
    (outside graph set target closed out steps (needs_at graph (get_or from k d)) (closed (get_or from k d) (h k d lt))))

-- more steps reach as much
reaches-suc : (graph : List (List ℕ)) (steps : ℕ) (from : List ℕ) (target : ℕ)
    → reaches graph steps from target ≡ true → reaches graph (suc steps) from target ≡ true
reaches-suc graph zero from target h = absurd (true≢false (sym h))
reaches-suc graph (suc steps) from target h =
    any-passes (λ k. k == target || reaches graph steps (needs_at graph k) target)
    (λ k. k == target || reaches graph (suc steps) (needs_at graph k) target) from
    (λ k e. elim (or_cases (k == target) (reaches graph steps (needs_at graph k) target) e) [
      | inl y ↦ or_left (k == target) (reaches graph (suc steps) (needs_at graph k) target) y
      | inr y ↦ or_right (k == target) (reaches graph (suc steps) (needs_at graph k) target)
          (reaches-suc graph steps (needs_at graph k) target y)
    ]) h

pub reaches-le : (graph : List (List ℕ)) (steps more : ℕ) (from : List ℕ) (target : ℕ) → steps ≤ more
    → reaches graph steps from target ≡ true → reaches graph more from target ≡ true
reaches-le graph steps zero from target le h =
    let none : steps ≡ 0 = omega arith in subst (λ (n : ℕ). reaches graph n from target ≡ true) none h
reaches-le graph steps (suc more) from target le h =
    elim (cases_lt more steps) [
      | inl l ↦ let same : steps ≡ suc more = omega arith in subst (λ (n : ℕ). reaches graph n from target ≡ true) same h
      | inr l ↦ reaches-suc graph more from target (reaches-le graph steps more from target l h)
    ]

-- what is needed by what is reached is reached a step later
pub reaches-further : (graph : List (List ℕ)) (steps : ℕ) (from : List ℕ) (u target : ℕ)
    → reaches graph steps from u ≡ true → list_any (λ h. h == target) (needs_at graph u) ≡ true
    → reaches graph (suc steps) from target ≡ true
reaches-further graph zero from u target h there = absurd (true≢false (sym h))
reaches-further graph (suc steps) from u target h there =
    any-passes (λ k. k == u || reaches graph steps (needs_at graph k) u)
    (λ k. k == target || reaches graph (suc steps) (needs_at graph k) target) from
    (λ k e. or_right (k == target) (reaches graph (suc steps) (needs_at graph k) target)
    (elim (or_cases (k == u) (reaches graph steps (needs_at graph k) u) e) [
      | inl y ↦ any-passes (λ j. j == target) (λ j. j == target || reaches graph steps (needs_at graph j) target) (needs_at graph k)
          (λ j f. or_left (j == target) (reaches graph steps (needs_at graph j) target) f)
          (subst (λ (v : ℕ). list_any (λ j. j == target) (needs_at graph v) ≡ true) (sym (eqb-true k u y)) there)
      | inr y ↦ reaches-further graph steps (needs_at graph k) u target y there
    ])) h

-- what stands in a list is among it
pub stands : (xs : List ℕ) (k d : ℕ) → k < length xs → list_any (λ m. m == get_or xs k d) xs ≡ true
stands [] k d lt = absurd (omega arith)
stands (x ∷ xs) zero d lt = or_left (x == x) (list_any (λ m. m == x) xs) (eq-eqb x x refl)
stands (x ∷ xs) (suc k) d lt = or_right (x == get_or xs k d) (list_any (λ m. m == get_or xs k d) xs) (stands xs k d (omega arith))

-- what is directly needed is reached in one step, or more
pub reaches-first : (graph : List (List ℕ)) (from : List ℕ) (k d : ℕ) → k < length from
    → reaches graph 1 from (get_or from k d) ≡ true
reaches-first graph from k d lt =
    any-passes (λ m. m == get_or from k d) (λ m. m == get_or from k d || reaches graph 0 (needs_at graph m) (get_or from k d)) from
    (λ m e. or_left (m == get_or from k d) false e) (stands from k d lt)

-- ---- a walk: what is needed is put behind what was found, each once

-- what is there stays, and what is added is there
stays : (s : ℕ) (needs ms : List ℕ) → list_any (λ m. m == s) ms ≡ true → list_any (λ m. m == s) (added ms needs) ≡ true
stays s [] ms h = h
stays s (n ∷ needs) ms h = by_test (list_any (λ m. m == n) ms) (λ ks. stays s needs ks)
  where
    by_test : (b : Bool) → ((ks : List ℕ) → list_any (λ m. m == s) ks ≡ true → list_any (λ m. m == s) (added ks needs) ≡ true)
        → list_any (λ m. m == s) (added (cond b ms (ms ++ n ∷ [])) needs) ≡ true
    by_test true more = more ms h
    by_test false more = more (ms ++ n ∷ [])
        (list_any-append (λ m. m == s) ms (n ∷ [])
        ∙ or_left (list_any (λ m. m == s) ms) (list_any (λ m. m == s) (n ∷ [])) h)

is_there : (n : ℕ) (ms : List ℕ) → list_any (λ m. m == n) (cond (list_any (λ m. m == n) ms) ms (ms ++ n ∷ [])) ≡ true
is_there n ms =
    elim (cases_Bool (list_any (λ m. m == n) ms)) [
      | inl e ↦ ap (λ b. list_any (λ m. m == n) (cond b ms (ms ++ n ∷ []))) e ∙ e
      | inr e ↦ ap (λ b. list_any (λ m. m == n) (cond b ms (ms ++ n ∷ []))) e
          ∙ list_any-append (λ m. m == n) ms (n ∷ [])
          ∙ or_right (list_any (λ m. m == n) ms) (list_any (λ m. m == n) (n ∷ []))
          (or_left (n == n) false (eq-eqb n n refl))
    ]

pub added-has : (needs ms : List ℕ) → All (λ h. list_any (λ m. m == h) (added ms needs) ≡ true) needs
added-has [] ms = All-nil (λ h. list_any (λ m. m == h) ms ≡ true)
added-has (n ∷ needs) ms =
    All-cons (λ h. list_any (λ m. m == h) (added ms (n ∷ needs)) ≡ true) n needs
    (stays n needs (cond (list_any (λ m. m == n) ms) ms (ms ++ n ∷ [])) (is_there n ms))
    (added-has needs (cond (list_any (λ m. m == n) ms) ms (ms ++ n ∷ [])))

-- what holds of a list, and still holds with one new item more, holds of it with all that are added
pub added-keeps : (Inv : List ℕ → Type 0) (Fits : ℕ → Type 0)
    → ((ms : List ℕ) (s : ℕ) → Inv ms → Fits s → list_any (λ m. m == s) ms ≡ false → Inv (ms ++ s ∷ []))
    → (needs ms : List ℕ) → All Fits needs → Inv ms → Inv (added ms needs)
added-keeps Inv Fits push [] ms fits h = h
added-keeps Inv Fits push (n ∷ needs) ms fits h =
    added-keeps Inv Fits push needs (cond (list_any (λ m. m == n) ms) ms (ms ++ n ∷ [])) (All-tail Fits n needs fits)
    (elim (cases_Bool (list_any (λ m. m == n) ms)) [
      | inl e ↦ subst (λ (b : Bool). Inv (cond b ms (ms ++ n ∷ []))) (sym e) h
      | inr e ↦ subst (λ (b : Bool). Inv (cond b ms (ms ++ n ∷ []))) (sym e) (push ms n h (All-head Fits n needs fits) e)
    ])

-- the groups that are found are no more than there are
pub found-few : (graph : List (List ℕ)) (from order : List ℕ) (at : ℕ) → AreFound graph from order at → length order ≤ length graph
found-few graph from order at h =
    pigeonhole (length order) (length graph) (λ k. get_or order k 0) (λ i lt. h.below i 0 lt)
    (λ i j li lj e. elim (cases_order i j) [
      | inl q ↦ q
      | inr o ↦ elim o [ inl l ↦ absurd (h.apart i j l lj e) | inr l ↦ absurd (h.apart j i l li (sym e)) ]
    ])

get_or-kept : (ms : List ℕ) (s k : ℕ) → k < length ms → get_or (ms ++ s ∷ []) k 0 ≡ get_or ms k 0
get_or-kept ms s k lt = get_or_append_left ms (s ∷ []) 0 k lt

any-more : (s h : ℕ) (ms : List ℕ) → list_any (λ m. m == h) ms ≡ true → list_any (λ m. m == h) (ms ++ s ∷ []) ≡ true
any-more s h ms e =
    list_any-append (λ m. m == h) ms (s ∷ []) ∙ or_left (list_any (λ m. m == h) ms) (list_any (λ m. m == h) (s ∷ [])) e

-- what a walk keeps while it puts new groups behind those that it found
pub record AreHeld (graph : List (List ℕ)) (from : List ℕ) (at least : ℕ) (order : List ℕ) : Type 0 where
  pub many : least ≤ length order
  pub passed : at ≤ length order
  pub closed : (k : ℕ) → k < at → All (λ h. list_any (λ m. m == h) order ≡ true) (needs_at graph (slice_index order k))
  pub reached : (k : ℕ) → k < length order → reaches graph (suc k) from (slice_index order k) ≡ true
  pub apart : (i j : ℕ) → i < j → j < length order → slice_index order i ≡ slice_index order j → ⊥
  pub below : All (λ h. h < length graph) order

push_held : (graph : List (List ℕ)) (from : List ℕ) (at least : ℕ) (ms : List ℕ) (s : ℕ) → AreHeld graph from at least ms
    → (s < length graph) × (reaches graph (suc least) from s ≡ true) → list_any (λ m. m == s) ms ≡ false
    → AreHeld graph from at least (ms ++ s ∷ [])
push_held graph from at least ms s h fits new = record {
  many = omega (arith, h.many, count);
  passed = omega (arith, h.passed, count);
  closed = λ k lt. subst (λ (g : ℕ). All (λ x. list_any (λ m. m == x) (ms ++ s ∷ []) ≡ true) (needs_at graph g))
      (sym (get_or-kept ms s k (omega (arith, lt, h.passed))))
      (λ j d l. any-more s _ ms (h.closed k lt j d l));
  reached = reached;
  apart = apart;
  below = below;
}
  where
    count : length (ms ++ s ∷ []) ≡ length ms + 1
    count = length-append ms (s ∷ [])

    last : get_or (ms ++ s ∷ []) (length ms) 0 ≡ s
    last = get_or-append_seam ms s [] 0

    reached : (k : ℕ) → k < length (ms ++ s ∷ []) → reaches graph (suc k) from (slice_index (ms ++ s ∷ []) k) ≡ true
    reached k lt = elim (cases_lt k (length ms)) [
      | inl l ↦ subst (λ (g : ℕ). reaches graph (suc k) from g ≡ true) (sym (get_or-kept ms s k l)) (h.reached k l)
      | inr l ↦
          let same : k ≡ length ms = omega (arith, lt, count, l) in
          let long : suc least ≤ suc (length ms) = omega (arith, h.many) in
          subst (λ (n : ℕ). reaches graph (suc n) from (slice_index (ms ++ s ∷ []) n) ≡ true) (sym same)
          (subst (λ (g : ℕ). reaches graph (suc (length ms)) from g ≡ true) (sym last)
          (reaches-le graph (suc least) (suc (length ms)) from s long fits.1))
    ]

    apart : (i j : ℕ) → i < j → j < length (ms ++ s ∷ []) → slice_index (ms ++ s ∷ []) i ≡ slice_index (ms ++ s ∷ []) j → ⊥
    apart i j lt lj e = elim (cases_lt j (length ms)) [
      | inl l ↦
          let li : i < length ms = omega (arith, lt, l) in
          h.apart i j lt l (sym (get_or-kept ms s i li) ∙ e ∙ get_or-kept ms s j l)
      | inr l ↦
          let same : j ≡ length ms = omega (arith, lj, count, l) in
          let li : i < length ms = omega (arith, lt, same) in
          let is : get_or ms i 0 ≡ s = sym (get_or-kept ms s i li) ∙ e ∙ ap (λ n. get_or (ms ++ s ∷ []) n 0) same ∙ last in
          true≢false (sym (subst (λ (x : ℕ). list_any (λ m. m == x) ms ≡ true) is (stands ms i 0 li)) ∙ new)
    ]

    below : All (λ x. x < length graph) (ms ++ s ∷ [])
    below k d lt = elim (cases_lt k (length ms)) [
      | inl l ↦ subst (λ (g : ℕ). g < length graph) (sym (get_or_append_left ms (s ∷ []) d k l)) (h.below k d l)
      | inr l ↦
          let same : k ≡ length ms = omega (arith, lt, count, l) in
          subst (λ (g : ℕ). g < length graph) (sym (ap (λ n. get_or (ms ++ s ∷ []) n d) same ∙ get_or-append_seam ms s [] d)) fits.0
    ]

-- a walk begins
pub found-starts : (graph : List (List ℕ)) (from order : List ℕ) → All (λ h. h < length graph) from → order ≡ added [] from
    → AreFound graph from order 0
found-starts graph from order within e =
    subst (λ (ms : List ℕ). AreFound graph from ms 0) (sym e)
    (record {
      passed = omega arith;
      start = added-has from [];
      closed = λ k lt. absurd (omega (arith, lt));
      reached = held.reached;
      apart = held.apart;
      below = held.below;
    })
  where
    held : AreHeld graph from 0 0 (added [] from)
    held =
        added-keeps (AreHeld graph from 0 0) (λ s. (s < length graph) × (reaches graph 1 from s ≡ true))
        (push_held graph from 0 0) from [] (λ k d lt. (within k d lt, reaches-first graph from k d lt))
        (record {
          many = omega arith;
          passed = omega arith;
          closed = λ k lt. absurd (omega (arith, lt));
          reached = λ k lt. absurd (omega (arith, lt));
          apart = λ i j l lt. absurd (omega (arith, lt));
          below = All-nil (λ h. h < length graph);
        })

-- it goes on
pub found-goes_on : (graph : List (List ℕ)) (from order order' : List ℕ) (at : ℕ) → AreBelow graph → AreFound graph from order at
    → at < length order → order' ≡ added order (needs_at graph (slice_index order at)) → AreFound graph from order' (at + 1)
found-goes_on graph from order order' at below h lt e =
    subst (λ (ms : List ℕ). AreFound graph from ms (at + 1)) (sym e)
    (record {
      passed = omega (arith, both.0.many);
      start = λ k d l. stays _ needs order (h.start k d l);
      closed = closed;
      reached = both.0.reached;
      apart = both.0.apart;
      below = both.0.below;
    })
  where
    u : ℕ
    u = slice_index order at

    needs : List ℕ
    needs = needs_at graph (slice_index order at)

    both : AreHeld graph from at (suc at) (added order (needs_at graph (slice_index order at)))
        × (slice_index (added order (needs_at graph (slice_index order at))) at ≡ slice_index order at)
    both =
        added-keeps (λ ms. AreHeld graph from at (suc at) ms × (slice_index ms at ≡ slice_index order at))
        (λ s. (s < length graph) × (reaches graph (suc (suc at)) from s ≡ true))
        (λ ms s held fits new. (
          push_held graph from at (suc at) ms s held.0 fits new,
          get_or-kept ms s at (omega (arith, held.0.many)) ∙ held.1,
        ))
        (needs_at graph (slice_index order at)) order
        (λ k d l. (
          below (slice_index order at) [] (h.below at 0 lt) k d l,
          reaches-further graph (suc at) from (slice_index order at) (get_or (needs_at graph (slice_index order at)) k d)
              (h.reached at lt) (stands (needs_at graph (slice_index order at)) k d l),
        )) (
          record {
            many = omega (arith, lt);
            passed = h.passed;
            closed = h.closed;
            reached = h.reached;
            apart = h.apart;
            below = h.below;
          },
          refl,
        )

    closed : (k : ℕ) → k < at + 1
        → All (λ x. list_any (λ m. m == x) (added order (needs_at graph (slice_index order at))) ≡ true)
        (needs_at graph (slice_index (added order (needs_at graph (slice_index order at))) k))
    closed k l = elim (cases_lt k at) [
      | inl q ↦ both.0.closed k q
      | inr q ↦
          let same : at ≡ k = omega (arith, l, q) in
          subst (λ (n : ℕ). All (λ x. list_any (λ m. m == x) (added order (needs_at graph (slice_index order at))) ≡ true)
          (needs_at graph (slice_index (added order (needs_at graph (slice_index order at))) n))) same
          (subst (λ (g : ℕ). All (λ x. list_any (λ m. m == x) (added order (needs_at graph (slice_index order at))) ≡ true)
          (needs_at graph g)) (sym both.1) (added-has (needs_at graph (slice_index order at)) order))
    ]

-- a place of what is among a list
pub record IsAt (xs : List ℕ) (t : ℕ) : Type 0 where
  pub place : ℕ
  pub within : place < length xs
  pub is : get_or xs place 0 ≡ t

place_of : (xs : List ℕ) (t : ℕ) → list_any (λ m. m == t) xs ≡ true → IsAt xs t
place_of [] t h = absurd (true≢false (sym h))
place_of (x ∷ xs) t h =
    elim (or_cases (x == t) (list_any (λ m. m == t) xs) h) [
      | inl e ↦ record { place = 0; within = omega arith; is = eqb-true x t e }
      | inr e ↦ let p = place_of xs t e in record { place = suc p.place; within = omega (arith, p.within); is = p.is }
    ]

-- at its end all that is found is what is needed
pub found-is_done : (graph : List (List ℕ)) (from order : List ℕ) (at : ℕ) → AreFound graph from order at → length order ≤ at
    → (t : ℕ) → list_any (λ m. m == t) order ≡ reaches graph (length graph) from t
found-is_done graph from order at h end t =
    elim (cases_Bool (list_any (λ m. m == t) order)) [
      | inl e ↦
          let p = place_of order t e in
          let few = found-few graph from order at h in
          e ∙ sym (reaches-le graph (suc p.place) (length graph) from t (omega (arith, p.within, few))
          (subst (λ (x : ℕ). reaches graph (suc p.place) from x ≡ true) p.is (h.reached p.place p.within)))
      | inr e ↦
          e ∙ sym (outside graph (λ x. list_any (λ m. m == x) order) t
          (λ x there. let p = place_of order x there in
          subst (λ (y : ℕ). All (λ k. list_any (λ m. m == k) order ≡ true) (needs_at graph y)) p.is
          (h.closed p.place (omega (arith, p.within, end))))
          e (length graph) from h.start)
    ]

-- ---- groups that wait for each other

-- the group for which a group waits
abbrev waits_for : (graph : List (List ℕ)) (done : List Bool) (stuck : IsStuck graph done) (g : ℕ) → g < length graph
    → is_done done g ≡ false → ℕ
waits_for graph done stuck g lt undone = slice_index (needs_at graph g) (stuck g lt undone).place

-- a group that isn't done
pub record IsWaiting (graph : List (List ℕ)) (done : List Bool) : Type 0 where
  pub group : ℕ
  pub within : group < length graph
  pub undone : is_done done group ≡ false

-- the next on the way
abbrev next_waiting : (graph : List (List ℕ)) (done : List Bool) → AreBelow graph → IsStuck graph done → IsWaiting graph done
    → IsWaiting graph done
next_waiting graph done below stuck w =
    let s = stuck w.group w.within w.undone in
    record {
      group = slice_index (needs_at graph w.group) s.place;
      within = below w.group [] w.within s.place 0 s.within;
      undone = s.undone;
    }

abbrev way : (graph : List (List ℕ)) (done : List Bool) → AreBelow graph → IsStuck graph done → IsWaiting graph done → ℕ
    → IsWaiting graph done
way graph done below stuck w zero = w
way graph done below stuck w (suc k) = next_waiting graph done below stuck (way graph done below stuck w k)

-- what is on the way is needed by what is before
on_way : (graph : List (List ℕ)) (done : List Bool) (below : AreBelow graph) (stuck : IsStuck graph done) (v : IsWaiting graph done)
    (k : ℕ) → reaches graph (suc k) (needs_at graph v.group) (way graph done below stuck v (suc k)).group ≡ true
on_way graph done below stuck v zero =
    let s = stuck v.group v.within v.undone in reaches-first graph (needs_at graph v.group) s.place 0 s.within
on_way graph done below stuck v (suc k) =
    let u = way graph done below stuck v (suc k) in
    let s = stuck u.group u.within u.undone in
    reaches-further graph (suc k) (needs_at graph v.group) u.group (slice_index (needs_at graph u.group) s.place)
    (on_way graph done below stuck v k) (stands (needs_at graph u.group) s.place 0 s.within)

way-plus : (graph : List (List ℕ)) (done : List Bool) (below : AreBelow graph) (stuck : IsStuck graph done) (w : IsWaiting graph done)
    (i k : ℕ) → way graph done below stuck (way graph done below stuck w i) k ≡ way graph done below stuck w (i + k)
way-plus graph done below stuck w i zero =
    let same : i ≡ i + 0 = omega arith in ap (way graph done below stuck w) same
way-plus graph done below stuck w i (suc k) =
    let same : suc (i + k) ≡ i + suc k = omega arith in
    ap (next_waiting graph done below stuck) (way-plus graph done below stuck w i k) ∙ ap (way graph done below stuck w) same

-- where groups wait, one of them needs itself
pub waits_for_itself : (graph : List (List ℕ)) (done : List Bool) → AreBelow graph → IsStuck graph done → IsWaiting graph done
    → ((g : ℕ) → g < length graph → reaches graph (length graph) (needs_at graph g) g ≡ false) → ⊥
waits_for_itself graph done below stuck w none =
    let many : suc (length graph) ≤ length graph =
    pigeonhole (suc (length graph)) (length graph) (λ k. (way graph done below stuck w k).group)
    (λ i lt. (way graph done below stuck w i).within)
    (λ i j li lj e. elim (cases_order i j) [
      | inl q ↦ q
      | inr o ↦ elim o [ inl l ↦ absurd (clash i j l lj e) | inr l ↦ absurd (clash j i l li (sym e)) ]
    ]) in
    omega (arith, many)
  where
    clash : (i j : ℕ) → i < j → j < suc (length graph)
        → (way graph done below stuck w i).group ≡ (way graph done below stuck w j).group → ⊥
    clash i j lt lj e =
        let v = way graph done below stuck w i in
        let k = j - i - 1 in
        let there : i + suc k ≡ j = omega (arith, lt) in
        let few : suc k ≤ length graph = omega (arith, lt, lj) in
        let back : (way graph done below stuck v (suc k)).group ≡ v.group =
        ap (λ (x : IsWaiting graph done). x.group) (way-plus graph done below stuck w i (suc k) ∙ ap (way graph done below stuck w) there)
        ∙ sym e in
        true≢false (sym (reaches-le graph (suc k) (length graph) (needs_at graph v.group) v.group few
        (subst (λ (x : ℕ). reaches graph (suc k) (needs_at graph v.group) x ≡ true) back (on_way graph done below stuck v k)))
        ∙ none v.group v.within)
