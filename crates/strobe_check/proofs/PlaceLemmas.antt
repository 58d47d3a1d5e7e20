-- What holds of each entry of a cycle holds of each entry inside an extent, and of the place of
-- each fail.
use Rattle.std.proofs.Common.{ℕ, ◌+◌, ◌<◌, Bool, true, false, cond, not, List, [], ◌∷◌, length, Option, Some, subst, arith, zero-add}
use Rattle.std.specs.List.{AllByRecursion, cons_option, enumerate_from, filter_map, find}
use Rattle.std.specs.Option.{option_map}
use Rattle.tester_types.specs.declared.wave.Look.{Look}
use Rattle.tester_types.specs.declared.record.Fail.{Fail}
use Rattle.text_bytes.proofs.ListLemmas.{all_append, plus-suc}
use Rattle.strobe_check.specs.Look.{is_edge, is_window}
use Rattle.strobe_check.specs.Entry.{Entry, fail_at}
use Rattle.strobe_check.specs.Extent.{Extent, if_none, until_look, extents_here, extents}
use Rattle.strobe_check.specs.Fails.{meets, fail_of, fails_of, bound_from}
use Rattle.strobe_check.proofs.ListLemmas.{All-cond}
use Rattle.strobe_check.proofs.ExtentLemmas.{looks}

-- what holds of each entry inside each extent
abbrev pub AreInside : (ℕ × Entry → Type 0) → List Extent → Type 0
AreInside P xs = AllByRecursion (λ (x : Extent). AllByRecursion P x.inside) xs

inside-until_look : (P : ℕ × Entry → Type 0) (signal : ℕ) (entries : List (ℕ × Entry))
    → AllByRecursion P entries
    → AllByRecursion P (until_look signal entries)
inside-until_look P signal [] all = tt
inside-until_look P signal (entry ∷ later) all =
    by (looks signal entry) (inside-until_look P signal later all.1)
  where
    by : (ls : List Look) → AllByRecursion P (until_look signal later)
        → AllByRecursion P (if_none ls (entry ∷ until_look signal later))
    by [] rest = (all.0, rest)
    by (look ∷ ls) rest = tt

inside-here : (P : ℕ × Entry → Type 0) (ls : List Look) (here : ℕ × Entry)
    (later : List (ℕ × Entry))
    → P here → AllByRecursion P later
    → AreInside P (extents_here ls here later)
inside-here P [] here later one all = tt
inside-here P (look ∷ []) here later one all =
    (All-cond P (is_edge look) (here ∷ []) _ (one, tt) (All-cond P (is_window look) (here ∷ later) [] (one, all) tt), tt)
inside-here P (look ∷ next ∷ ls) here later one all =
    (All-cond P (is_edge look) (here ∷ []) [] (one, tt) tt, inside-here P (next ∷ ls) here later one all)

pub inside-extents : (P : ℕ × Entry → Type 0) (signal : ℕ) (entries : List (ℕ × Entry))
    → AllByRecursion P entries
    → AreInside P (extents signal entries)
inside-extents P signal [] all = tt
inside-extents P signal (here ∷ later) all =
    all_append _ (extents_here (looks signal here) here (until_look signal later)) (extents signal later)
    (inside-here P (looks signal here) here (until_look signal later) all.0 (inside-until_look P signal later all.1))
    (inside-extents P signal later all.1)

-- the places of a cycle's entries
pub places-below : (n : ℕ) (entries : List Entry)
    → AllByRecursion (λ entry. entry.0 < n + length entries) (enumerate_from n entries)
places-below n [] = tt
places-below n (entry ∷ entries) =
    (omega arith, weaker (enumerate_from (n + 1) entries) (places-below (n + 1) entries))
  where
    weaker : (l : List (ℕ × Entry)) → AllByRecursion (λ e. e.0 < n + 1 + length entries) l
        → AllByRecursion (λ e. e.0 < n + length (entry ∷ entries)) l
    weaker [] all = tt
    weaker (e ∷ es) all = (omega (arith, all.0), weaker es all.1)

-- the first entry that doesn't meet the look, if there is one
abbrev found : ℕ → Look → Option (ℕ × Entry) → List (ℕ × Fail) → List (ℕ × Fail)
found signal look entry rest =
    cons_option (option_map (λ e. (e.0, fail_at signal look e.1)) entry) rest

found-first : (P : ℕ → Type 0) (signal : ℕ) (look : Look) (b : Bool) (entry : ℕ × Entry)
    (later : Option (ℕ × Entry)) (rest : List (ℕ × Fail))
    → P entry.0 → AllByRecursion (λ fail. P fail.0) rest
    → AllByRecursion (λ fail. P fail.0) (found signal look later rest)
    → AllByRecursion (λ fail. P fail.0) (found signal look (cond b (Some entry) later) rest)
found-first P signal look true entry later rest here before after = (here, before)
found-first P signal look false entry later rest here before after = after

found-place : (P : ℕ → Type 0) (signal : ℕ) (look : Look) (inside : List (ℕ × Entry))
    (rest : List (ℕ × Fail))
    → AllByRecursion (λ entry. P entry.0) inside → AllByRecursion (λ fail. P fail.0) rest
    → AllByRecursion (λ fail. P fail.0) (found signal look (find (λ e. not (meets signal look e)) inside) rest)
found-place P signal look [] rest all before = before
found-place P signal look (entry ∷ inside) rest all before =
    found-first P signal look (not (meets signal look entry)) entry _ rest all.0 before (found-place P signal look inside rest all.1 before)

fails-places : (P : ℕ → Type 0) (signal : ℕ) (xs : List Extent) → AreInside (λ entry. P entry.0) xs
    → AllByRecursion (λ fail. P fail.0) (filter_map (fail_of signal) xs)
fails-places P signal [] all = tt
fails-places P signal (x ∷ xs) all =
    found-place P signal x.look x.inside _ all.0 (fails-places P signal xs all.1)

-- each fail comes at a place of the cycle
pub fails_of-below : (signal : ℕ) (entries : List Entry)
    → AllByRecursion (λ fail. fail.0 < length entries) (fails_of signal entries)
fails_of-below signal entries =
    let places = subst (λ n. AllByRecursion (λ entry. entry.0 < n) (enumerate_from 0 entries)) (zero-add (length entries)) (places-below 0 entries) in
    fails-places (λ place. place < length entries) signal _ (inside-extents (λ entry. entry.0 < length entries) signal _ places)

-- each bound signal is one of the signals
pub bound_from-below : (n : ℕ) (bound : List Bool)
    → AllByRecursion (λ signal. signal < n + length bound) (bound_from n bound)
bound_from-below n [] = tt
bound_from-below n (true ∷ bound) =
    (omega arith, subst (λ (m : ℕ). AllByRecursion (λ signal. signal < m) (bound_from (n + 1) bound)) (plus-suc n (length bound)) (bound_from-below (n + 1) bound))
bound_from-below n (false ∷ bound) =
    subst (λ (m : ℕ). AllByRecursion (λ signal. signal < m) (bound_from (n + 1) bound)) (plus-suc n (length bound))
    (bound_from-below (n + 1) bound)
