-- What a search passes, and the looks that are left behind it.
use Rattle.std.proofs.Common.{◌≡◌, ℕ, ◌+◌, ◌<◌, ◌≤◌, ◌⊎◌, Bool, true, false, eqb, min, max, List, [], ◌∷◌, length, get_or, Option, None, sym, subst, ◌∙◌, arith, inl, inr}
use Rattle.std.proofs.lemmas.Bool.{cases_lt, both_ways}
use Rattle.tester_types.specs.declared.wave.Look.{Look}
use Rattle.tester_types.specs.declared.cycle.Moment.{Moment}
use Rattle.strobe_check.specs.Step.{looks_of, Ascends, SplitsRun}
use Rattle.strobe_check.specs.Windows.{Passes}
use Rattle.strobe_check.specs.Ahead.{HasLeft}
use Rattle.strobe_check.proofs.RunLemmas.{looks_of-later}

-- ascending looks have none in front of the first
first_no_look : (look : ℕ × Look) (looks : List (ℕ × Look)) (from upto : ℕ) → (upto ≤ look.0) ⊎ (from ≡ upto)
    → Ascends from (look ∷ looks) → (k : ℕ) → from ≤ k → k < upto → looks_of k (look ∷ looks) ≡ []
first_no_look look looks from upto (inl le) h k a b = looks_of-later k (look ∷ looks) (omega (arith, le, b), h.1)
first_no_look look looks from upto (inr e) h k a b = absurd (omega (arith, e, a, b))

first_ascends : (look : ℕ × Look) (looks : List (ℕ × Look)) (from upto : ℕ) → (upto ≤ look.0) ⊎ (from ≡ upto)
    → Ascends from (look ∷ looks) → Ascends upto (look ∷ looks)
first_ascends look looks from upto (inl le) h = (le, h.1)
first_ascends look looks from upto (inr e) h = subst (λ (k : ℕ). Ascends k (look ∷ looks)) e h

-- a slice that doesn't say it is empty has a look
pub some_look : (looks : List (ℕ × Look)) (empty : Bool) → empty ≡ eqb (length looks) 0 → empty ≡ false → 0 < length looks
some_look [] empty is so = absurd (both_ways empty so is)
some_look (look ∷ looks) empty is so = omega arith

-- the first look or the first window, and no signal in front of the one from which the search is
pub which_first : (look window from : ℕ) → (max (min look window) from ≤ look) ⊎ (from ≡ max (min look window) from)
which_first look window from = elim (cases_lt from (min look window)) [
  | inl l ↦ inl (omega (arith, l))
  | inr l ↦ inr (omega (arith, l))
]

-- up to the first look or window, but no signal back
pub Passes-first : (sorted : Bool) (looks : List (ℕ × Look)) (windows : List (Option Look)) (d : ℕ × Look)
    (first window from upto : ℕ) → sorted ≡ true → 0 < length looks → first ≡ (get_or looks 0 d).0
    → upto ≡ max (min first window) from
    → ((k : ℕ) → from ≤ k → k < window → get_or windows k None ≡ None) → Passes sorted looks windows from upto
Passes-first sorted [] windows d first window from upto is some first_is upto_is closed = absurd (omega (arith, some))
Passes-first sorted (look ∷ looks) windows d first window from upto is some first_is upto_is closed =
    let up_to : (upto ≤ first) ⊎ (from ≡ upto) =
    subst (λ (u : ℕ). (u ≤ first) ⊎ (from ≡ u)) (sym upto_is) (which_first first window from) in
    let which = subst (λ (f : ℕ). (upto ≤ f) ⊎ (from ≡ upto)) first_is up_to in
    record {
      onward = omega (arith, upto_is);
      no_look = λ h. first_no_look look looks from upto which (h is);
      no_window = λ k a b. closed k a (omega (arith, a, b, upto_is));
      ascends = λ h so. first_ascends look looks from upto which (h is);
    }

-- ---- the looks that are left

-- those of the signals that are passed are none
pub HasLeft-on : (moment : Moment) (sorted : Bool) (windows : List (Option Look)) (rest : List (ℕ × Look)) (from upto : ℕ)
    → Passes sorted rest windows from upto → HasLeft moment sorted from rest → HasLeft moment sorted upto rest
HasLeft-on moment sorted windows rest from upto passes left = record {
  all = λ k a. left.all k (omega (arith, a, passes.onward));
  ascends = passes.ascends left.ascends;
}

-- those of one signal are cut off
pub HasLeft-cut : (moment : Moment) (sorted : Bool) (signal : ℕ) (rest own later : List (ℕ × Look))
    → SplitsRun sorted signal rest own later → HasLeft moment sorted signal rest
    → HasLeft moment sorted (signal + 1) later
HasLeft-cut moment sorted signal rest own later split left = record {
  all = λ k a. split.behind left.ascends k (omega (arith, a)) ∙ left.all k (omega (arith, a));
  ascends = split.ascends left.ascends;
}
