-- A moment of a cycle without a fail has none exactly where its edge looks are met, and the windows behind its looks.
use Rattle.std.proofs.Common.{◌≡◌, ℕ, zero, suc, ◌+◌, ◌<◌, ◌++◌, Bool, true, false, not, ◌&&◌, ◌||◌, eqb, cond, List, [], ◌∷◌, length, get_or, map, filter, Option, None, refl, sym, ap, ◌∙◌, subst, arith, inl, inr, zero-add}
use Rattle.std.specs.List.{flat_map, list_all, range_with_len}
use Rattle.std.proofs.lemmas.Bool.{cases_lt, eq-eqb, ne_eqb}
use Rattle.std.proofs.lemmas.List.{get_or_past}
use Rattle.std.proofs.Math.Bool.{and-true}
use Rattle.std.proofs.lemmas.List.Folds.{list_all-append}
use Rattle.std.proofs.lemmas.List.FromFn.{get_or-map-range_with_len}
use Rattle.tester_types.specs.declared.wave.Look.{Look}
use Rattle.tester_types.specs.declared.level.Level.{Level}
use Rattle.tester_types.specs.declared.level.Level.TheVariants.{X}
use Rattle.tester_types.specs.declared.record.Fail.{Fail}
use Rattle.tester_types.specs.declared.cycle.Moment.{Moment}
use Rattle.die_sim.specs.Die.{Device, State, level_of}
use Rattle.strobe_check.specs.Look.{is_edge, is_met}
use Rattle.strobe_check.specs.Entry.{Entry, looks_at, fail_at}
use Rattle.strobe_check.specs.Entry as entry
use Rattle.strobe_check.specs.Fails.{bound_from, bound_signals, fails}
use Rattle.strobe_check.specs.Step.{looks_of, window_after}
use Rattle.site_meaning.specs.Playing.{Whose, entry_of}
use Rattle.word_run.specs.Checks.{if_open, checked, unmet, window_behind}
use Rattle.word_run.specs.Judge.{edge_met, window_met, are_met}
use Rattle.word_run.specs.Board.{is_clear}
use Rattle.word_run.proofs.CheckLemmas.{moment_fails}

-- ---- no fails

clear-append : (xs ys : List Fail) → is_clear (xs ++ ys) ≡ (is_clear xs && is_clear ys)
clear-append [] ys = refl
clear-append (x ∷ xs) ys = refl

-- no look fails where all are met
clear-unmet : (f : Look → Fail) (level : Level) (looks : List Look)
    → is_clear (map f (unmet level looks)) ≡ list_all (λ look. is_met look level) looks
clear-unmet f level [] = refl
clear-unmet f level (look ∷ looks) = by (is_met look level) (clear-unmet f level looks)
  where
    by : (b : Bool) → is_clear (map f (unmet level looks)) ≡ list_all (λ l. is_met l level) looks
        → is_clear (map f (cond (not b) (look ∷ unmet level looks) (unmet level looks))) ≡ (b && list_all (λ l. is_met l level) looks)
    by true e = e
    by false e = refl

clear-signals : (f : ℕ → List Fail) (q : ℕ → Bool) (signals : List ℕ) → ((s : ℕ) → is_clear (f s) ≡ q s)
    → is_clear (flat_map f signals) ≡ list_all q signals
clear-signals f q [] each = refl
clear-signals f q (s ∷ signals) each =
    clear-append (f s) (flat_map f signals)
    ∙ ap (λ (b : Bool). b && is_clear (flat_map f signals)) (each s)
    ∙ ap (λ (b : Bool). q s && b) (clear-signals f q signals each)

-- ---- tests of signals

pub all_both : (p q : ℕ → Bool) (xs : List ℕ) → list_all (λ x. p x && q x) xs ≡ (list_all p xs && list_all q xs)
all_both p q [] = refl
all_both p q (x ∷ xs) =
    ap (λ (b : Bool). (p x && q x) && b) (all_both p q xs) ∙ swap (p x) (q x) (list_all p xs) (list_all q xs)
  where
    swap : (a b c d : Bool) → ((a && b) && (c && d)) ≡ ((a && c) && (b && d))
    swap true true c d = refl
    swap true false true d = refl
    swap true false false d = refl
    swap false b c d = refl

all_true : (xs : List ℕ) → list_all (λ _. true) xs ≡ true
all_true [] = refl
all_true (x ∷ xs) = all_true xs

-- tests that agree at the bound signals
all_bound : (p q : ℕ → Bool) (bound : List Bool) (n : ℕ)
    → ((s : ℕ) → get_or bound s false ≡ true → p (n + s) ≡ q (n + s))
    → list_all p (bound_from n bound) ≡ list_all q (bound_from n bound)
all_bound p q [] n same = refl
all_bound p q (false ∷ bound) n same = all_bound p q bound (n + 1) (λ s b. later s (same (suc s) b))
  where
    later : (s : ℕ) → p (n + suc s) ≡ q (n + suc s) → p ((n + 1) + s) ≡ q ((n + 1) + s)
    later s e = let next : n + suc s ≡ (n + 1) + s = omega arith in subst (λ (k : ℕ). p k ≡ q k) next e
all_bound p q (true ∷ bound) n same =
    let here : n + 0 ≡ n = omega arith in
    ap (λ (b : Bool). b && list_all p (bound_from (n + 1) bound)) (subst (λ (k : ℕ). p k ≡ q k) here (same 0 refl))
    ∙ ap (λ (b : Bool). q n && b) (all_bound p q bound (n + 1) (λ s b. later s (same (suc s) b)))
  where
    later : (s : ℕ) → p (n + suc s) ≡ q (n + suc s) → p ((n + 1) + s) ≡ q ((n + 1) + s)
    later s e = let next : n + suc s ≡ (n + 1) + s = omega arith in subst (λ (k : ℕ). p k ≡ q k) next e

-- a test of the bound signals is one of all
all_numbers : (q b : ℕ → Bool) (bound : List Bool) (n : ℕ) → ((s : ℕ) → get_or bound s false ≡ b (n + s))
    → list_all q (bound_from n bound) ≡ list_all (λ s. not (b s) || q s) (range_with_len n (length bound))
all_numbers q b [] n same = refl
all_numbers q b (false ∷ bound) n same =
    all_numbers q b bound (n + 1) (λ s. later s (same (suc s)))
    ∙ ap (λ (x : Bool). (not x || q n) && list_all (λ s. not (b s) || q s) (range_with_len (n + 1) (length bound))) (here n (same 0))
  where
    here : (k : ℕ) → false ≡ b (k + 0) → false ≡ b k
    here k e = let none : k + 0 ≡ k = omega arith in subst (λ (m : ℕ). false ≡ b m) none e

    later : (s : ℕ) → get_or bound s false ≡ b (n + suc s) → get_or bound s false ≡ b ((n + 1) + s)
    later s e = let next : n + suc s ≡ (n + 1) + s = omega arith in subst (λ (k : ℕ). get_or bound s false ≡ b k) next e
all_numbers q b (true ∷ bound) n same =
    ap (λ (x : Bool). q n && x) (all_numbers q b bound (n + 1) (λ s. later s (same (suc s))))
    ∙ ap (λ (x : Bool). (not x || q n) && list_all (λ s. not (b s) || q s) (range_with_len (n + 1) (length bound))) (here n (same 0))
  where
    here : (k : ℕ) → true ≡ b (k + 0) → true ≡ b k
    here k e = let none : k + 0 ≡ k = omega arith in subst (λ (m : ℕ). true ≡ b m) none e

    later : (s : ℕ) → get_or bound s false ≡ b (n + suc s) → get_or bound s false ≡ b ((n + 1) + s)
    later s e = let next : n + suc s ≡ (n + 1) + s = omega arith in subst (λ (k : ℕ). get_or bound s false ≡ b k) next e

-- a test that fails at one signal alone
module _ (r : ℕ → Bool) (e : Bool) (y : ℕ) where
  abbrev one : ℕ → Bool
  one s = not (eqb y s && e) || r s

  apart : (s : ℕ) → eqb y s ≡ false → one s ≡ true
  apart s is = ap (λ (b : Bool). not (b && e) || r s) is

  one_below : (bound : List Bool) (n : ℕ) → y < n → list_all one (bound_from n bound) ≡ true
  one_below [] n below = refl
  one_below (false ∷ bound) n below = one_below bound (n + 1) (omega (arith, below))
  one_below (true ∷ bound) n below =
      ap (λ (b : Bool). b && list_all one (bound_from (n + 1) bound)) (apart n (ne_eqb y n (λ same. omega (arith, below, same))))
      ∙ one_below bound (n + 1) (omega (arith, below))

  one_at : (bound : List Bool) (n j : ℕ) → y ≡ n + j
      → list_all one (bound_from n bound) ≡ (not (get_or bound j false && e) || r y)
  one_at [] n j is = refl
  one_at (false ∷ bound) n zero is = one_below bound (n + 1) (omega (arith, is))
  one_at (false ∷ bound) n (suc j) is = one_at bound (n + 1) j (omega (arith, is))
  one_at (true ∷ bound) n zero is =
      let same : n ≡ y = omega (arith, is) in
      ap (λ (b : Bool). one n && b) (one_below bound (n + 1) (omega (arith, is))) ∙ and-true (one n)
      ∙ ap one same ∙ ap (λ (b : Bool). not (b && e) || r y) (eq-eqb y y refl)
  one_at (true ∷ bound) n (suc j) is =
      ap (λ (b : Bool). b && list_all one (bound_from (n + 1) bound)) (apart n (ne_eqb y n (λ same. omega (arith, is, same))))
      ∙ one_at bound (n + 1) j (omega (arith, is))

-- ---- edge looks and windows

all_same : (p q : ℕ → Bool) (xs : List ℕ) → ((x : ℕ) → p x ≡ q x) → list_all p xs ≡ list_all q xs
all_same p q [] same = refl
all_same p q (x ∷ xs) same =
    ap (λ (b : Bool). b && list_all p xs) (same x) ∙ ap (λ (b : Bool). q x && b) (all_same p q xs same)

first_kept : (p : Look → Bool) (look : Look) (kept : List Look) (e : Bool)
    → list_all p (cond e (look ∷ kept) kept) ≡ ((not e || p look) && list_all p kept)
first_kept p look kept true = refl
first_kept p look kept false = refl

module _ (device : Device) (state : State) (bound : List Bool) where
  -- a look is met at a signal
  abbrev met : ℕ → Look → Bool
  met s look = is_met look (level_of device state s)

  -- the edge looks at a signal are met
  abbrev edges_met : List (ℕ × Look) → ℕ → Bool
  edges_met looks s = list_all (met s) (filter is_edge (looks_of s looks))

  -- one look is, if it is an edge look at this signal
  abbrev one_met : ℕ × Look → ℕ → Bool
  one_met look = one (λ k. met k look.1) (is_edge look.1) look.0

  edges_next : (s : ℕ) (look : ℕ × Look) (looks : List (ℕ × Look))
      → edges_met (look ∷ looks) s ≡ (one_met look s && edges_met looks s)
  edges_next s look looks = by (eqb look.0 s)
    where
      by : (same : Bool)
          → list_all (met s) (filter is_edge (map (λ l. l.1) (cond same (look ∷ filter (λ l. eqb l.0 s) looks) (filter (λ l. eqb l.0 s) looks))))
          ≡ ((not (same && is_edge look.1) || met s look.1) && edges_met looks s)
      by false = refl
      by true = first_kept (met s) look.1 (filter is_edge (looks_of s looks)) (is_edge look.1)

  -- signal by signal, or one after another
  edges_swapped : (looks : List (ℕ × Look))
      → list_all (edges_met looks) (bound_signals bound) ≡ list_all (edge_met bound device state) looks
  edges_swapped [] = all_true (bound_signals bound)
  edges_swapped (look ∷ looks) =
      all_same (edges_met (look ∷ looks)) (λ s. one_met look s && edges_met looks s) (bound_signals bound) (λ s. edges_next s look looks)
      ∙ all_both (one_met look) (edges_met looks) (bound_signals bound)
      ∙ ap (λ (b : Bool). b && list_all (edges_met looks) (bound_signals bound))
      (one_at (λ k. met k look.1) (is_edge look.1) look.0 bound 0 look.0 (sym (zero-add look.0)))
      ∙ ap (λ (b : Bool). edge_met bound device state look && b) (edges_swapped looks)

  -- the windows
  windows_swapped : (windows : List (Option Look)) → length windows ≡ length bound
      → list_all (λ s. list_all (met s) (if_open (get_or windows s None))) (bound_signals bound)
      ≡ list_all (window_met bound device state windows) (range_with_len 0 (length windows))
  windows_swapped windows count =
      all_numbers (λ s. list_all (met s) (if_open (get_or windows s None))) (λ s. get_or bound s false) bound 0
      (λ s. ap (λ (k : ℕ). get_or bound k false) (sym (zero-add s)))
      ∙ ap (λ (n : ℕ). list_all (window_met bound device state windows) (range_with_len 0 n)) (sym count)

-- ---- a moment

-- the level of a signal that is looked at
entry_level : (device : Device) (whose : Whose) (moment : Moment) (state : State) (s : ℕ) → s < length device.binds
    → entry.level_of s (entry_of device whose moment state) ≡ level_of device state s
entry_level device whose moment state s within =
    get_or-map-range_with_len (level_of device state) 0 (length device.binds) s s X within (zero-add s)

-- behind moments without a fail the next one has none where each look that is checked is met
pub clear_next : (device : Device) (whose : Whose) (moment : Moment) (state : State) (bound : List Bool) (before : List Entry)
    (windows : List (Option Look))
    → length bound ≡ length device.binds → length windows ≡ length bound
    → ((s : ℕ) → s < length bound → get_or windows s None ≡ window_after (window_behind s before) (looks_at s moment))
    → fails bound before ≡ []
    → is_clear (fails bound (before ++ entry_of device whose moment state ∷ []))
    ≡ are_met bound device state windows moment.looks
clear_next device whose moment state bound before windows wide count opened none =
    let here = entry_of device whose moment state in
    let levels = λ (s : ℕ). entry.level_of s here in
    let looks = λ (s : ℕ). checked (window_behind s before) (looks_at s moment) in
    let all_met = λ (s : ℕ). list_all (λ look. is_met look (levels s)) (looks s) in
    let edges = edges_met device state bound moment.looks in
    let open_met = λ (s : ℕ). list_all (met device state bound s) (if_open (get_or windows s None)) in
    ap is_clear (moment_fails bound before here none)
    ∙ clear-signals (λ s. map (λ look. fail_at s look here) (unmet (levels s) (looks s))) all_met (bound_signals bound)
    (λ s. clear-unmet (λ look. fail_at s look here) (levels s) (looks s))
    ∙ all_bound all_met (λ s. edges s && open_met s) bound 0
    (λ s is. subst (λ (k : ℕ). all_met k ≡ (edges k && open_met k)) (sym (zero-add s)) (at s (inside s is)))
    ∙ all_both edges open_met (bound_signals bound)
    ∙ (λ i. edges_swapped device state bound moment.looks i && windows_swapped device state bound windows count i)
  where
    inside : (s : ℕ) → get_or bound s false ≡ true → s < length bound
    inside s is =
        elim (cases_lt s (length bound)) [
          | inl l ↦ l
          | inr l ↦ absurd (let past = get_or_past bound s false l in cc (past, is))
        ]

    at : (s : ℕ) → s < length bound
        → list_all (λ look. is_met look (entry.level_of s (entry_of device whose moment state)))
        (checked (window_behind s before) (looks_at s moment))
        ≡ (edges_met device state bound moment.looks s && list_all (met device state bound s) (if_open (get_or windows s None)))
    at s within =
        ap (λ (x : Level). list_all (λ look. is_met look x) (checked (window_behind s before) (looks_at s moment)))
        (entry_level device whose moment state s (omega (arith, within, wide)))
        ∙ list_all-append (met device state bound s) (filter is_edge (looks_at s moment))
        (if_open (window_after (window_behind s before) (looks_at s moment)))
        ∙ ap (λ (w : Option Look). edges_met device state bound moment.looks s && list_all (met device state bound s) (if_open w))
        (sym (opened s within))
