-- The netlist of a drill has no fault.
use Rattle.std.proofs.Common.{◌≡◌, ℕ, zero, suc, ◌+◌, ◌*◌, ◌≤◌, ◌<◌, Bool, true, false, not, cond, ◌||◌, List, [], ◌∷◌, ◌++◌, length, map, Option, Some, None, refl, sym, ap, ◌∙◌, arith, length-append, inl, inr}
use Rattle.std.specs.Prelude.{fold}
use Rattle.std.specs.List.{list_any, flat_map, filter_map, find, range_with_len}
use Rattle.std.specs.Str.{bytes_eq}
use Rattle.std.proofs.lemmas.Bool.{cases_Bool, cases_lt}
use Rattle.std.proofs.lemmas.List.Concat.{flat_map-cons}
use Rattle.std.proofs.lemmas.List.Folds.{list_any-append}
use Rattle.text_bytes.specs.Limits.{most_nets}
use Rattle.text_bytes.specs.Texts.{added}
use Rattle.bench_net.specs.declared.gate.Driver.TheVariants.{Input}
use Rattle.bench_net.specs.Wiring.{gate_at, is_gate}
use Rattle.bench_net.specs.Circuit.{Net}
use Rattle.bench_net.specs.Net.{names, named, used, driven, driver_of, driver_for, drives, net_of, wrong_arity, first_repeat, head_of, is_missing, arity_fault, twice_fault, missing_fault, IsDriven, IsNet}
use Rattle.drill_fine.specs.Texts.{net_text}
use Rattle.drill_fine.specs.Nets.{net_at, register_form, drill_forms}
use Rattle.drill_fine.proofs.NameLemmas.{net_same, net_differs}
use Rattle.drill_fine.proofs.LineLemmas.{drill_net_reads}

-- names that follow others
abbrev pub nets_from : ℕ → ℕ → List (List ℕ)
nets_from a m = map net_at (range_with_len a m)

-- the nets that lines of registers drive, and those that they use
driven_from : (a m : ℕ) → filter_map driven (map register_form (range_with_len a m)) ≡ nets_from (suc a) m
driven_from a zero = refl
driven_from a (suc m) =
    ap (λ (ns : List (List ℕ)). net_at (suc a) ∷ ns)
    (driven_from (a + 1) m ∙ ap (λ (k : ℕ). nets_from k m) (omega arith))

used_from : (a m : ℕ) → flat_map used (map register_form (range_with_len a m)) ≡ nets_from a m
used_from a zero = refl
used_from a (suc m) =
    flat_map-cons used (register_form a) (map register_form (range_with_len (a + 1) m))
    ∙ ap (λ (ns : List (List ℕ)). net_at a ∷ ns) (used_from (a + 1) m)

-- the nets that all lines drive
drill_driven : (n : ℕ) → filter_map driven (drill_forms n) ≡ nets_from 0 (suc n)
drill_driven n = ap (λ (ns : List (List ℕ)). net_at 0 ∷ ns) (driven_from 0 n ∙ ap (λ (k : ℕ). nets_from k n) (omega arith))

-- the nets that they use
drill_used : (n : ℕ) → flat_map used (drill_forms n) ≡ net_at n ∷ nets_from 0 n
drill_used n = ap (λ (ns : List (List ℕ)). net_at n ∷ ns) (used_from 0 n)

-- each has as many pins as it takes
arity_from : (a m : ℕ) → filter_map wrong_arity (map register_form (range_with_len a m)) ≡ []
arity_from a zero = refl
arity_from a (suc m) = arity_from (a + 1) m

arity_fine : (n : ℕ) → arity_fault (drill_forms n) ≡ None
arity_fine n = ap head_of (arity_from 0 n)

-- no net stands twice
repeat_none : (before : List (List ℕ)) (a m : ℕ) → a + m ≤ 1000
    → ((k : ℕ) → a ≤ k → k ≤ 1000 → list_any (bytes_eq (net_at k)) before ≡ false) → first_repeat before (nets_from a m) ≡ None
repeat_none before a zero few apart = refl
repeat_none before a (suc m) few apart =
    ap (λ (b : Bool). cond b (Some (net_at a)) (first_repeat (before ++ net_at a ∷ []) (nets_from (a + 1) m))) (apart a (omega arith) (omega (arith, few)))
    ∙ repeat_none (before ++ net_at a ∷ []) (a + 1) m (omega (arith, few))
    (λ k l small. list_any-append (bytes_eq (net_at k)) before (net_at a ∷ [])
    ∙ ap (λ (b : Bool). b || (bytes_eq (net_at k) (net_at a) || false)) (apart k (omega (arith, l)) small)
    ∙ ap (λ (b : Bool). b || false) (net_differs k a small (omega (arith, few)) (λ e. omega (arith, e, l))))

twice_fine : (n : ℕ) → n ≤ 500 → twice_fault (drill_forms n) ≡ None
twice_fine n few =
    ap (first_repeat []) (drill_driven n) ∙ repeat_none [] 0 (suc n) (omega (arith, few)) (λ k l small. refl)

-- each net that is used is driven
there : (a m k : ℕ) → a ≤ k → k < a + m → list_any (bytes_eq (net_at k)) (nets_from a m) ≡ true
there a zero k l h = absurd (omega (arith, l, h))
there a (suc m) k l h = elim (cases_Bool (bytes_eq (net_at k) (net_at a))) [
  | inl e ↦ ap (λ (b : Bool). b || list_any (bytes_eq (net_at k)) (nets_from (a + 1) m)) e
  | inr e ↦
      let other : a ≡ k → ⊥ = λ same. true_false (sym (net_same k) ∙ ap (λ (j : ℕ). bytes_eq (net_at k) (net_at j)) (sym same) ∙ e) in
      ap (λ (b : Bool). b || list_any (bytes_eq (net_at k)) (nets_from (a + 1) m)) e ∙ there (a + 1) m k (behind k other l) (omega (arith, h))
]
  where
    true_false : true ≡ false → ⊥
    true_false e = cc

    behind : (k : ℕ) → (a ≡ k → ⊥) → a ≤ k → a + 1 ≤ k
    behind k other l = elim (cases_lt a k) [ inl less ↦ omega (arith, less) | inr more ↦ absurd (other (omega (arith, more, l))) ]

driven_there : (n k : ℕ) → k ≤ n → is_missing (drill_forms n) (net_at k) ≡ false
driven_there n k l =
    ap (λ (ns : List (List ℕ)). not (list_any (bytes_eq (net_at k)) ns)) (drill_driven n)
    ∙ ap not (there 0 (suc n) k (omega arith) (omega (arith, l)))

find_none : (n a m : ℕ) → a + m ≤ suc n → find (is_missing (drill_forms n)) (nets_from a m) ≡ None
find_none n a zero l = refl
find_none n a (suc m) l =
    ap (λ (b : Bool). cond b (Some (net_at a)) (find (is_missing (drill_forms n)) (nets_from (a + 1) m))) (driven_there n a (omega (arith, l)))
    ∙ find_none n (a + 1) m (omega (arith, l))

missing_fine : (n : ℕ) → missing_fault (drill_forms n) ≡ None
missing_fine n =
    ap (find (is_missing (drill_forms n))) (drill_used n)
    ∙ ap (λ (b : Bool). cond b (Some (net_at n)) (find (is_missing (drill_forms n)) (nets_from 0 n))) (driven_there n n (omega arith))
    ∙ find_none n 0 n (omega arith)

-- names are no more than mentions
added_within : (z : List (List ℕ)) (x : List ℕ) → length (added z x) ≤ length z + 1
added_within z x = by (list_any (bytes_eq x) z)
  where
    by : (b : Bool) → length (cond b z (z ++ x ∷ [])) ≤ length z + 1
    by true = omega arith
    by false = omega (arith, length-append z (x ∷ []))

names_within : (z xs : List (List ℕ)) → length (fold added z xs) ≤ length z + length xs
names_within z [] = omega arith
names_within z (x ∷ xs) = omega (arith, names_within (added z x) xs, added_within z x)

named_count : (a m : ℕ) → length (flat_map named (map register_form (range_with_len a m))) ≡ 2 * m
named_count a zero = refl
named_count a (suc m) =
    ap length (flat_map-cons named (register_form a) (map register_form (range_with_len (a + 1) m))) ∙ omega (arith, named_count (a + 1) m)

few_names : (n : ℕ) → n ≤ 500 → length (names (drill_forms n)) ≤ most_nets
few_names n few =
    omega (arith, names_within [] (flat_map named (drill_forms n)), named_count 0 n, few)

pub drill_net_driven : (n : ℕ) → n ≤ 500 → IsDriven (drill_forms n)
drill_net_driven n few =
    record { in_range = few_names n few; arity = arity_fine n; once = twice_fine n few; all = missing_fine n }

-- no driver of the netlist is a gate
no_gate_by : (all : List (List ℕ)) (a m : ℕ) (name : List ℕ)
    → is_gate (Rattle.std.specs.Option.option_map_or (driver_of all) (find (drives name) (map register_form (range_with_len a m))) Input) ≡ false
no_gate_by all a zero name = refl
no_gate_by all a (suc m) name = by (drives name (register_form a)) (no_gate_by all (a + 1) m name)
  where
    by : (b : Bool)
        → is_gate (Rattle.std.specs.Option.option_map_or (driver_of all) (find (drives name) (map register_form (range_with_len (a + 1) m))) Input) ≡ false
        → is_gate (Rattle.std.specs.Option.option_map_or (driver_of all)
        (cond b (Some (register_form a)) (find (drives name) (map register_form (range_with_len (a + 1) m)))) Input) ≡ false
    by true later = refl
    by false later = later

no_gate_for : (n : ℕ) (name : List ℕ) → is_gate (driver_for (drill_forms n) name) ≡ false
no_gate_for n name = by (drives name (Rattle.bench_net.specs.Line.input (net_at 0))) (no_gate_by (names (drill_forms n)) 0 n name)
  where
    by : (b : Bool)
        → is_gate (Rattle.std.specs.Option.option_map_or (driver_of (names (drill_forms n))) (find (drives name) (map register_form (range_with_len 0 n))) Input) ≡ false
        → is_gate (Rattle.std.specs.Option.option_map_or (driver_of (names (drill_forms n)))
        (cond b (Some (Rattle.bench_net.specs.Line.input (net_at 0))) (find (drives name) (map register_form (range_with_len 0 n)))) Input) ≡ false
    by true later = refl
    by false later = later

no_gate_at : (n : ℕ) (all : List (List ℕ)) (k : ℕ) → gate_at (map (driver_for (drill_forms n)) all) k ≡ false
no_gate_at n [] k = refl
no_gate_at n (name ∷ all) zero = no_gate_for n name
no_gate_at n (name ∷ all) (suc k) = no_gate_at n all k

drivers_count : (n : ℕ) (all : List (List ℕ)) → length (map (driver_for (drill_forms n)) all) ≡ length all
drivers_count n [] = refl
drivers_count n (x ∷ all) = ap suc (drivers_count n all)

-- the netlist
abbrev pub drill_net : ℕ → Net
drill_net n = net_of (drill_forms n)

pub drill_is_net : (n : ℕ) → 1 ≤ n → n ≤ 500 → IsNet (net_text n) (drill_net n)
drill_is_net n some few = record {
  forms = drill_forms n;
  reads = drill_net_reads n some few;
  driven_once = drill_net_driven n few;
  net_is = refl;
  reached = λ k l set closed.
      closed.sources k (omega (arith, l, drivers_count n (names (drill_forms n)))) (no_gate_at n (names (drill_forms n)) k);
}
