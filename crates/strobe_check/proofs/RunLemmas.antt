-- Looks that stand in the order of their signals are cut, signal after signal.
use Rattle.std.proofs.Common.{◌≡◌, ℕ, ◌+◌, ◌<◌, ◌≤◌, Bool, true, false, cond, eqb, List, [], ◌∷◌, ◌++◌, length, take, drop, map, filter, refl, sym, ap, subst, ◌∙◌, arith, inl, inr}
use Rattle.std.specs.List.{prefix_len}
use Rattle.std.proofs.lemmas.Bool.{cases_eq, cond-true, cond-false, eq-eqb, ne_eqb}
use Rattle.std.proofs.lemmas.List.{take_at, drop_at}
use Rattle.tester_types.specs.declared.wave.Look.{Look}
use Rattle.strobe_check.specs.Step.{looks_of, Ascends, SplitsRun}

-- what rises from a signal on rises from an earlier one on
Ascends-less : (from least : ℕ) (looks : List (ℕ × Look)) → least ≤ from → Ascends from looks → Ascends least looks
Ascends-less from least [] le h = tt
Ascends-less from least (look ∷ looks) le h = (omega (arith, h.0), h.1)

-- one more look in front
looks_of-cons : (signal : ℕ) (look : ℕ × Look) (looks : List (ℕ × Look))
    → looks_of signal (look ∷ looks) ≡ cond (eqb look.0 signal) (look.1 ∷ []) [] ++ looks_of signal looks
looks_of-cons signal look looks = by (eqb look.0 signal)
  where
    by : (b : Bool) → map (λ (l : ℕ × Look). l.1) (cond b (look ∷ filter (λ l. eqb l.0 signal) looks) (filter (λ l. eqb l.0 signal) looks))
        ≡ cond b (look.1 ∷ []) [] ++ map (λ (l : ℕ × Look). l.1) (filter (λ l. eqb l.0 signal) looks)
    by true = refl
    by false = refl

-- a look at another signal
looks_of-other : (signal : ℕ) (look : ℕ × Look) (looks : List (ℕ × Look)) → (look.0 ≡ signal → ⊥)
    → looks_of signal (look ∷ looks) ≡ looks_of signal looks
looks_of-other signal look looks other =
    looks_of-cons signal look looks
    ∙ ap (λ b. cond b (look.1 ∷ []) [] ++ looks_of signal looks) (ne_eqb look.0 signal other)

-- none of the looks from the next signal on is at this one
pub looks_of-later : (signal : ℕ) (looks : List (ℕ × Look)) → Ascends (signal + 1) looks → looks_of signal looks ≡ []
looks_of-later signal [] h = refl
looks_of-later signal (look ∷ looks) h =
    looks_of-other signal look looks (λ e. omega (arith, h.0, e))
    ∙ looks_of-later signal looks (Ascends-less look.0 (signal + 1) looks h.0 h.1)

-- rising looks cut behind the last at a signal
record IsRun (signal : ℕ) (looks : List (ℕ × Look)) : Type 0 where
  front : List (ℕ × Look)
  back : List (ℕ × Look)
  whole : looks ≡ front ++ back
  len : prefix_len (λ look. eqb look.0 signal) looks ≡ length front
  own : looks_of signal front ≡ looks_of signal looks
  later : (k : ℕ) → signal < k → looks_of k back ≡ looks_of k looks
  ascends : Ascends (signal + 1) back

run : (signal : ℕ) (looks : List (ℕ × Look)) → Ascends signal looks → IsRun signal looks
run signal [] h = record {
  front = [];
  back = [];
  whole = refl;
  len = refl;
  own = refl;
  later = λ k l. refl;
  ascends = tt;
}
run signal (look ∷ looks) h =
    elim (cases_eq look.0 signal) [
      | inl e ↦
          let r = run signal looks (Ascends-less look.0 signal looks h.0 h.1) in
          let count = prefix_len (λ l. eqb l.0 signal) looks in
          record {
            front = look ∷ r.front;
            back = r.back;
            whole = ap (λ (l : List (ℕ × Look)). look ∷ l) r.whole;
            len = cond-true (eqb look.0 signal) (1 + count) 0 (eq-eqb look.0 signal e) ∙ omega (arith, r.len);
            own =
                looks_of-cons signal look r.front
                ∙ ap (λ (l : List Look). cond (eqb look.0 signal) (look.1 ∷ []) [] ++ l) r.own
                ∙ sym (looks_of-cons signal look looks);
            later = λ k l. r.later k l ∙ sym (looks_of-other k look looks (λ q. omega (arith, q, e, l)));
            ascends = r.ascends;
          }
      | inr ne ↦
          let count = prefix_len (λ l. eqb l.0 signal) looks in
          let next : signal + 1 ≤ look.0 = omega (arith, h.0, ne) in
          record {
            front = [];
            back = look ∷ looks;
            whole = refl;
            len = cond-false (eqb look.0 signal) (1 + count) 0 (ne_eqb look.0 signal ne);
            own = sym (looks_of-later signal (look ∷ looks) (next, h.1));
            later = λ k l. refl;
            ascends = (next, h.1);
          }
    ]

-- sorted looks are cut there
pub SplitsRun-run : (sorted : Bool) (signal n : ℕ) (looks : List (ℕ × Look)) → sorted ≡ true
    → n ≡ prefix_len (λ look. eqb look.0 signal) looks → SplitsRun sorted signal looks (take n looks) (drop n looks)
SplitsRun-run sorted signal n looks is count = record {
  here = λ h. here (run signal looks (h is));
  behind = λ h k l. behind (run signal looks (h is)) k l;
  ascends = λ h s. ascends (run signal looks (h is));
}
  where
    front_is : (r : IsRun signal looks) → take n looks ≡ r.front
    front_is r = ap (take n) r.whole ∙ take_at r.front r.back n (sym (count ∙ r.len))

    back_is : (r : IsRun signal looks) → drop n looks ≡ r.back
    back_is r = ap (drop n) r.whole ∙ drop_at r.front r.back n (sym (count ∙ r.len))

    here : IsRun signal looks → looks_of signal (take n looks) ≡ looks_of signal looks
    here r = ap (looks_of signal) (front_is r) ∙ r.own

    behind : IsRun signal looks → (k : ℕ) → signal < k → looks_of k (drop n looks) ≡ looks_of k looks
    behind r k l = ap (looks_of k) (back_is r) ∙ r.later k l

    ascends : IsRun signal looks → Ascends (signal + 1) (drop n looks)
    ascends r = subst (λ (l : List (ℕ × Look)). Ascends (signal + 1) l) (sym (back_is r)) r.ascends
