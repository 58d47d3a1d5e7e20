-- A netlist has exactly one settling. There is one: let the gates get their levels one after another in the netlist's order;
-- a gate that has its level keeps it, as what it reads stands in front of it.
use Rattle.std.proofs.Common.{◌≡◌, ◌≢◌, ℕ, zero, suc, ◌+◌, ◌<◌, ◌≤◌, true, false, List, length, get_or, set, fold, take, refl, sym, ap, ◌∙◌, subst, arith, inl, inr, Option, length-set}
use Rattle.std.proofs.lemmas.List.{get_or-set_same, get_or-set_other, take_more, take_all}
use Rattle.std.proofs.lemmas.List.Sums.{fold_push}
use Rattle.std.proofs.lemmas.List.FromFn.{length-map-range_with_len, get_or-map-range_with_len}
use Rattle.std.proofs.lemmas.Bool.{cases_Bool, cases_eq, both_ways}
use Rattle.tester_types.specs.declared.level.Level.{Level}
use Rattle.tester_types.specs.declared.level.Level.TheVariants.{Zero}
use Rattle.text_bytes.proofs.ListLemmas.{suc-plus}
use Rattle.bench_net.specs.declared.gate.Driver.{Driver}
use Rattle.bench_net.specs.Wiring.{driver_at, gate_at, pins_at, IsWired, IsOrder}
use Rattle.bench_net.specs.Circuit.{Circuit, IsWhole}
use Rattle.bench_net.specs.Gates.{level_at}
use Rattle.die_sim.specs.Die.{own_level, wanted, Settled, HasOneSettling}
use Rattle.die_sim.specs.Spread.{Reads}
use Rattle.die_sim.specs.Stepped.{own_levels, evaluated, levels_through, settled_levels}
use Rattle.die_sim.proofs.GateLemmas.{wanted-same}
use Rattle.bench_net.proofs.SortLemmas.{gate_within}
use Rattle.die_sim.proofs.OrderLemmas.{All-times, place_of, gate_in_order, order_apart, later, not_itself}
use Rattle.die_sim.proofs.WalkLemmas.{wanted_source}
use Rattle.die_sim.proofs.SettledLemmas.{one_settled_netlist}

-- levels that fit the inputs, the flip-flops and the gates in front of a place of the order
record FitsTo (drivers : List Driver) (fixed : List (Option Level)) (held : List Level)
    (order : List ℕ) (k : ℕ) (levels : List Level) : Type 0 where
  count : length levels ≡ length drivers
  sources : (n : ℕ) → n < length drivers → gate_at drivers n ≡ false
      → level_at levels n ≡ own_level fixed held n
  gates : (j : ℕ) → j < k
      → level_at levels (get_or order j 0) ≡ wanted drivers fixed held levels (get_or order j 0)

-- at first each net has its own level
FitsTo-none : (drivers : List Driver) (fixed : List (Option Level)) (held : List Level)
    (order : List ℕ) → FitsTo drivers fixed held order 0 (own_levels drivers fixed held)
FitsTo-none drivers fixed held order = record {
  count = length-map-range_with_len (own_level fixed held) 0 (length drivers);
  sources = λ n l e. get_or-map-range_with_len (own_level fixed held) 0 (length drivers) n n Zero l (omega arith);
  gates = λ j l. absurd (omega arith);
}

-- the gate at a place gets the level that it must have
module _ (drivers : List Driver)
    (wired : (n : ℕ) → n < length drivers → IsWired (length drivers) (driver_at drivers n))
    (order : List ℕ) (o : IsOrder drivers order) (fixed : List (Option Level)) (held old new : List Level)
    (k : ℕ) (within : k < length order) (count : length old ≡ length drivers)
    (is : new ≡ set old (get_or order k 0) (wanted drivers fixed held old (get_or order k 0))) where
  -- it is a gate
  gate_here : gate_at drivers (get_or order k 0) ≡ true
  gate_here = gate_in_order drivers order o k within

  net_here : get_or order k 0 < length drivers
  net_here = gate_within drivers (get_or order k 0) gate_here

  -- it has that level
  level_here : level_at new (get_or order k 0) ≡ wanted drivers fixed held old (get_or order k 0)
  level_here =
      ap (λ (v : List Level). level_at v (get_or order k 0)) is
      ∙ get_or-set_same old (get_or order k 0) (wanted drivers fixed held old (get_or order k 0)) Zero
      (omega (arith, count, net_here))

  -- the other nets keep theirs
  level_other : (n : ℕ) → n ≢ get_or order k 0 → level_at new n ≡ level_at old n
  level_other n ne =
      ap (λ (v : List Level). level_at v n) is
      ∙ get_or-set_other old (get_or order k 0) n (wanted drivers fixed held old (get_or order k 0)) Zero ne

  -- what doesn't read the gate must have the same as before
  wanted_kept : (g : ℕ) → g < length drivers → (Reads drivers g (get_or order k 0) → ⊥)
      → wanted drivers fixed held new g ≡ wanted drivers fixed held old g
  wanted_kept g l apart =
      wanted-same drivers fixed held new old g (wired g l)
      (All-times (λ q. level_at new q ≡ level_at old q) (pins_at drivers g)
      (λ q r. level_other q (λ e. apart (subst (λ (m : ℕ). Reads drivers g m) e r))))

  -- the gate fits
  fits_here : level_at new (get_or order k 0) ≡ wanted drivers fixed held new (get_or order k 0)
  fits_here =
      level_here ∙ sym (wanted_kept (get_or order k 0) net_here (not_itself drivers order o k within))

  -- the gates in front of it still fit
  fits_before : (j : ℕ) → j < k
      → level_at old (get_or order j 0) ≡ wanted drivers fixed held old (get_or order j 0)
      → level_at new (get_or order j 0) ≡ wanted drivers fixed held new (get_or order j 0)
  fits_before j l fits =
      let inside : j < length order = omega arith in
      let net = gate_within drivers (get_or order j 0) (gate_in_order drivers order o j inside) in
      level_other (get_or order j 0) (order_apart drivers order o j k l within)
      ∙ fits
      ∙ sym (wanted_kept (get_or order j 0) net
      (λ r. let behind = later drivers order o j k inside within r in omega (arith, behind, l)))

  -- so the gates up to it fit
  FitsTo-more : ((n : ℕ) → n < length drivers → gate_at drivers n ≡ false
      → level_at old n ≡ own_level fixed held n)
      → ((j : ℕ) → j < k
      → level_at old (get_or order j 0) ≡ wanted drivers fixed held old (get_or order j 0))
      → FitsTo drivers fixed held order (k + 1) new
  FitsTo-more sources gates = record {
    count =
        ap (λ (v : List Level). length v) is
        ∙ length-set old (get_or order k 0) (wanted drivers fixed held old (get_or order k 0)) ∙ count;
    sources = λ n l e.
        level_other n (λ q. both_ways (gate_at drivers n) e (ap (gate_at drivers) q ∙ gate_here))
        ∙ sources n l e;
    gates = λ j l. elim (cases_eq j k) [
      | inl q ↦ subst (λ (i : ℕ). level_at new (get_or order i 0) ≡ wanted drivers fixed held new (get_or order i 0)) (sym q) fits_here
      | inr ne ↦ let before : j < k = omega (arith, l, ne) in fits_before j before (gates j before)
    ];
  }

-- all gates in their order
module _ (drivers : List Driver)
    (wired : (n : ℕ) → n < length drivers → IsWired (length drivers) (driver_at drivers n))
    (order : List ℕ) (o : IsOrder drivers order) (fixed : List (Option Level)) (held : List Level) where
  -- the levels once the gates in front of a place are evaluated
  levels_to : ℕ → List Level
  levels_to k = levels_through drivers fixed held (take k order)

  -- one more gate is evaluated
  levels_to-more : (k : ℕ) → k < length order
      → evaluated drivers fixed held (levels_to k) (get_or order k 0) ≡ levels_to (k + 1)
  unfolding levels_to levels_through
  levels_to-more k l =
      sym (ap (λ (gates : List ℕ). fold (evaluated drivers fixed held) (own_levels drivers fixed held) gates) (take_more order k 0 l)
      ∙ fold_push (evaluated drivers fixed held) (own_levels drivers fixed held) (take k order) (get_or order k 0))

  -- the levels that fit the gates in front of each place
  fits_to : (k : ℕ) → k ≤ length order → FitsTo drivers fixed held order k (levels_to k)
  unfolding levels_to levels_through
  fits_to zero l = FitsTo-none drivers fixed held order
  fits_to (suc k) l =
      let h = fits_to k (omega (arith, l)) in
      let more = FitsTo-more drivers wired order o fixed held (levels_to k)
      (evaluated drivers fixed held (levels_to k) (get_or order k 0)) k (omega (arith, l)) h.count refl h.sources h.gates in
      let there = subst (λ (v : List Level). FitsTo drivers fixed held order (k + 1) v) (levels_to-more k (omega (arith, l))) more in
      subst (λ (i : ℕ). FitsTo drivers fixed held order i (levels_to i)) (sym (suc-plus k)) there

  -- those that fit all gates of the order fit all nets
  FitsTo-settled : (levels : List Level) → FitsTo drivers fixed held order (length order) levels
      → Settled drivers fixed held levels
  FitsTo-settled levels h = record {
    one_each = h.count;
    fits = λ n l. elim (cases_Bool (gate_at drivers n)) [
      | inl e ↦
          let s = place_of drivers order o n e in
          subst (λ (m : ℕ). level_at levels m ≡ wanted drivers fixed held levels m) s.is (h.gates s.place s.within)
      | inr e ↦ h.sources n l e ∙ sym (wanted_source drivers fixed held levels n e)
    ];
  }

  -- the levels once all gates are evaluated are settled
  settled_through : Settled drivers fixed held (levels_through drivers fixed held order)
  unfolding levels_to
  settled_through =
      subst (λ (gates : List ℕ). Settled drivers fixed held (levels_through drivers fixed held gates))
      (take_all (length order) order (omega arith))
      (FitsTo-settled (levels_to (length order)) (fits_to (length order) (omega arith)))

-- what all nets of a netlist settle to is settled
pub settles : (c : Circuit) → IsWhole c → (fixed : List (Option Level)) (held : List Level)
    → Settled c.net.drivers fixed held (settled_levels c fixed held)
settles c whole fixed held = settled_through c.net.drivers whole.wired c.order whole.order fixed held

-- each netlist has exactly one settling
pub one_settling_each : (c : Circuit) → IsWhole c → (fixed : List (Option Level)) (held : List Level)
    → HasOneSettling c.net.drivers fixed held
one_settling_each c whole fixed held = record {
  levels = settled_levels c fixed held;
  fits = settles c whole fixed held;
  only = λ v other. one_settled_netlist c whole fixed held v (settled_levels c fixed held) other (settles c whole fixed held);
}
