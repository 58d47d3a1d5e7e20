-- A gate at its place gives what its net must have: it holds its driver's pins, and its row is that of its function or of
-- its level.
use Rattle.std.proofs.Common.{◌≡◌, ℕ, ◌+◌, ◌-◌, ◌<◌, ◌≤◌, ◌++◌, Bool, true, false, Option, Some, None, List, [], ◌∷◌, length, get_or, set, take, drop, map, fold, replicate, refl, sym, ap, ◌∙◌, subst, arith, inl, inr, eqb, length-set, length-append}
use Rattle.std.specs.Prelude.{if◌then◌else◌, All, unwrap_or}
use Rattle.std.proofs.lemmas.List.{get_or-set_same, get_or-set_other, get_or_append_left, get_or_push, get_or_past, take-append-le, drop-append-le, length-drop, get_or-replicate, length-replicate, get_or-map}
use Rattle.std.proofs.lemmas.List.Elements.{All-get_or}
use Rattle.std.proofs.lemmas.Bool.{cases_eq, cases_lt, ne_eqb}
use Rattle.tester_types.specs.declared.level.Level.{Level}
use Rattle.tester_types.specs.declared.level.Level.TheVariants as level
use Rattle.bench_net.specs.declared.gate.Driver.{Driver}
use Rattle.bench_net.specs.declared.gate.Driver.TheVariants.{Input, Dff, Gate}
use Rattle.bench_net.specs.Wiring.{driver_at, is_gate, gate_at, pins_of, pins_at, IsWired}
use Rattle.bench_net.specs.Circuit.{Circuit, IsWhole}
use Rattle.die_sim.specs.declared.image.StuckAt.{StuckAt}
use Rattle.die_sim.specs.declared.table.Row.{Row}
use Rattle.die_sim.specs.declared.table.Row.TheVariants.{And, Nand, Or, Nor, Xor, Xnor, Low, High}
use Rattle.die_sim.specs.declared.cells.Cell.{Cell}
use Rattle.die_sim.specs.declared.cells.Cell.TheVariants.{Pair, Many}
use Rattle.bench_net.specs.Gates.{level_at, is_zero, is_one}
use Rattle.die_sim.specs.Die.{stuck, with_fault, fixed_of, driven, wanted, own_level}
use Rattle.die_sim.specs.Table.{gives, pair_of, row_of, single_row}
use Rattle.die_sim.specs.Cells.{plain_row, row_for, with_row, row_in, no_cell, IsPair, HoldsPins, CanRead, gives_at, cell_gives, IsFront, AreWiredTo, AreWired, HaveRows, SamePins, IsStuck, AreStuck, AreCells}
use Rattle.die_sim.proofs.TableLemmas.{row_is, bit}
use Rattle.die_sim.proofs.OrderLemmas.{gate_in_order}
use Rattle.bench_net.proofs.SortLemmas.{gate_within}

-- what was cut from a list is cut from a longer one
pub cut_kept : (xs ys : List ℕ) (from to : ℕ) → from ≤ to → to ≤ length xs
    → take (to - from) (drop from (xs ++ ys)) ≡ take (to - from) (drop from xs)
cut_kept xs ys from to a b =
    ap (take (to - from)) (drop-append-le from xs ys (omega (arith, a, b)))
    ∙ take-append-le (to - from) (drop from xs) ys (omega (arith, a, b, length-drop from xs))

-- a gate keeps its pins where more are put behind them
holds_kept : (pins rest nets : List ℕ) (c : Cell) → HoldsPins pins nets c → HoldsPins (pins ++ rest) nets c
holds_kept pins rest nets (Pair row a b) h = h
holds_kept pins rest nets (Many row from to) h = record {
  rises = h.rises;
  within = let w = h.within in omega (arith, w, length-append pins rest);
  is = cut_kept pins rest from to h.rises h.within ∙ h.is;
}

pub HoldsPins-front : (pins whole nets : List ℕ) (more : ℕ) (c : Cell) → IsFront pins whole more
    → HoldsPins pins nets c → HoldsPins whole nets c
HoldsPins-front pins whole nets more c f h = subst (λ (ps : List ℕ). HoldsPins ps nets c) (sym f.is) (holds_kept pins f.rest nets c h)

-- one more does
pub AreWiredTo-more : (c : Circuit) (cells : List Cell) (pins whole : List ℕ) (k more : ℕ) (cell : Cell)
    → AreWiredTo c cells pins k → IsFront pins whole more
    → HoldsPins whole (pins_at c.net.drivers (get_or c.order k 0)) cell → AreWiredTo c (cells ++ cell ∷ []) whole (k + 1)
AreWiredTo-more c cells pins whole k more cell h f holds = record {
  count = length-append cells (cell ∷ []) ∙ ap (λ n. n + 1) h.count;
  each = λ j l. elim (cases_eq j k) [
    | inl q ↦
        let is : get_or (cells ++ cell ∷ []) j no_cell ≡ cell = get_or_push cells cell no_cell j (h.count ∙ sym q) in
        subst (λ (x : Cell). HoldsPins whole (pins_at c.net.drivers (get_or c.order j 0)) x) (sym is)
        (subst (λ (i : ℕ). HoldsPins whole (pins_at c.net.drivers (get_or c.order i 0)) cell) (sym q) holds)
    | inr ne ↦
        let before : j < k = omega (arith, l, ne) in
        let front : j < length cells = omega (arith, before, h.count) in
        subst (λ (x : Cell). HoldsPins whole (pins_at c.net.drivers (get_or c.order j 0)) x) (sym (get_or_append_left cells (cell ∷ []) no_cell j front))
        (HoldsPins-front pins whole (pins_at c.net.drivers (get_or c.order j 0)) more (get_or cells j no_cell) f (h.each j before))
  ];
}

-- another row changes no pins
HoldsPins-with_row : (pins nets : List ℕ) (c : Cell) (r : Row) → HoldsPins pins nets c → HoldsPins pins nets (with_row c r)
HoldsPins-with_row pins nets (Pair row a b) r h = h
HoldsPins-with_row pins nets (Many row from to) r h = h

row_in-with_row : (c : Cell) (r : Row) → row_in (with_row c r) ≡ r
row_in-with_row (Pair row a b) r = refl
row_in-with_row (Many row from to) r = refl

pub SamePins-set : (old cells : List Cell) (k : ℕ) (x : Cell) (r : Row) → k < length cells
    → x ≡ with_row (get_or cells k no_cell) r → SamePins old cells → SamePins old (set cells k x)
SamePins-set old cells k x r l x_is h = record {
  count = length-set cells k x ∙ h.count;
  each = λ j pins nets p. elim (cases_eq j k) [
    | inl q ↦
        let was = subst (λ (i : ℕ). HoldsPins pins nets (get_or cells i no_cell)) q (h.each j pins nets p) in
        let is : get_or (set cells k x) j no_cell ≡ with_row (get_or cells k no_cell) r =
        ap (λ (i : ℕ). get_or (set cells k x) i no_cell) q ∙ get_or-set_same cells k x no_cell l ∙ x_is in
        subst (λ (y : Cell). HoldsPins pins nets y) (sym is) (HoldsPins-with_row pins nets (get_or cells k no_cell) r was)
    | inr ne ↦ subst (λ (y : Cell). HoldsPins pins nets y) (sym (get_or-set_other cells k j x no_cell ne)) (h.each j pins nets p)
  ];
}

pub HaveRows-more : (c : Circuit) (fixed : List (Option Level)) (cells : List Cell) (k : ℕ) (x y : Cell) (r : Row)
    → k < length cells → x ≡ with_row y r
    → r ≡ row_for (get_or fixed (get_or c.order k 0) None) (driver_at c.net.drivers (get_or c.order k 0))
    → HaveRows c fixed cells k → HaveRows c fixed (set cells k x) (k + 1)
HaveRows-more c fixed cells k x y r l x_is r_is h = record {
  each = λ j jl. elim (cases_eq j k) [
    | inl q ↦ subst (λ (i : ℕ). row_in (get_or (set cells k x) i no_cell) ≡ row_for (get_or fixed (get_or c.order i 0) None) (driver_at c.net.drivers (get_or c.order i 0))) (sym q)
        (ap row_in (get_or-set_same cells k x no_cell l) ∙ ap row_in x_is ∙ row_in-with_row y r ∙ r_is)
    | inr ne ↦ ap row_in (get_or-set_other cells k j x no_cell ne) ∙ h.each j (omega (arith, jl, ne))
  ];
}

-- gates that read what they read before still stand at their places
pub AreWired-same : (c : Circuit) (old new : List Cell) (pins : List ℕ) → AreWired c old pins → SamePins old new → AreWired c new pins
AreWired-same c old new pins h s = record {
  count = s.count ∙ h.count;
  each = λ j l. s.each j pins (pins_at c.net.drivers (get_or c.order j 0)) (h.each j l);
}

-- a gate reads nets of the netlist
first_all : (P : ℕ → Type 0) (nets : List ℕ) (k n : ℕ) → All P nets → k < length nets → get_or nets k 0 ≡ n → P n
first_all P nets k n all l e = subst P e (All-get_or P nets k 0 l all)

pub can_read : (count : ℕ) (pins nets : List ℕ) (c : Cell) → HoldsPins pins nets c → All (λ p. p < count) nets → CanRead count pins c
can_read count pins nets (Pair row a b) h all =
    let some = h.some in
    (first_all (λ p. p < count) nets 0 a all some h.first_is, first_all (λ p. p < count) nets (length nets - 1) b all (omega (arith, some)) h.last_is)
can_read count pins nets (Many row from to) h all =
    (h.rises, h.within, subst (λ (ns : List ℕ). All (λ p. p < count) ns) (sym h.is) all)

-- what a row gives for one level once, another gives for it twice
single_is : (r : Row) (l : Level) → pair_of (single_row r) l l ≡ gives r (0 + bit (is_zero l)) (0 + bit (is_one l)) 1
single_is And level.Zero = refl
single_is And level.One = refl
single_is And level.X = refl
single_is And level.Z = refl
single_is Nand level.Zero = refl
single_is Nand level.One = refl
single_is Nand level.X = refl
single_is Nand level.Z = refl
single_is Or level.Zero = refl
single_is Or level.One = refl
single_is Or level.X = refl
single_is Or level.Z = refl
single_is Nor level.Zero = refl
single_is Nor level.One = refl
single_is Nor level.X = refl
single_is Nor level.Z = refl
single_is Xor level.Zero = refl
single_is Xor level.One = refl
single_is Xor level.X = refl
single_is Xor level.Z = refl
single_is Xnor level.Zero = refl
single_is Xnor level.One = refl
single_is Xnor level.X = refl
single_is Xnor level.Z = refl
single_is Low l = refl
single_is High l = refl

single_once : (r : Row) (l : Level) → gives (single_row r) (0 + bit (is_zero l)) (0 + bit (is_one l)) 1 ≡ gives r (0 + bit (is_zero l)) (0 + bit (is_one l)) 1
single_once And l = refl
single_once Nand l = refl
single_once Or level.Zero = refl
single_once Or level.One = refl
single_once Or level.X = refl
single_once Or level.Z = refl
single_once Nor level.Zero = refl
single_once Nor level.One = refl
single_once Nor level.X = refl
single_once Nor level.Z = refl
single_once Xor level.Zero = refl
single_once Xor level.One = refl
single_once Xor level.X = refl
single_once Xor level.Z = refl
single_once Xnor level.Zero = refl
single_once Xnor level.One = refl
single_once Xnor level.X = refl
single_once Xnor level.Z = refl
single_once Low l = refl
single_once High l = refl

-- the row of a gate by how many pins it has
abbrev pub by_count : Row → ℕ → Row
by_count r n = if eqb n 1 then single_row r else r

-- a gate of one pin or two
pair_gives : (r : Row) (v : List Level) (nets : List ℕ) (a b : ℕ) → IsPair nets a b
    → pair_of (by_count r (length nets)) (level_at v a) (level_at v b) ≡ gives_at r v nets
pair_gives r v [] a b h = absurd (let s = h.some in omega (arith, s))
pair_gives r v (p ∷ []) a b h =
    ap (λ (n : ℕ). pair_of (single_row r) (level_at v n) (level_at v b)) (sym h.first_is)
    ∙ ap (λ (n : ℕ). pair_of (single_row r) (level_at v p) (level_at v n)) (sym h.last_is)
    ∙ single_is r (level_at v p)
pair_gives r v (p ∷ q ∷ []) a b h =
    ap (λ (n : ℕ). pair_of r (level_at v n) (level_at v b)) (sym h.first_is)
    ∙ ap (λ (n : ℕ). pair_of r (level_at v p) (level_at v n)) (sym h.last_is)
pair_gives r v (p ∷ q ∷ s ∷ ps) a b h = absurd (let f = h.few in omega (arith, f))

-- a gate of more
many_gives : (r : Row) (v : List Level) (nets : List ℕ) → gives_at (by_count r (length nets)) v nets ≡ gives_at r v nets
many_gives r v [] = refl
many_gives r v (p ∷ []) = single_once r (level_at v p)
many_gives r v (p ∷ q ∷ ps) =
    ap (λ (b : Bool). gives_at (if b then single_row r else r) v (p ∷ q ∷ ps)) (ne_eqb (length (p ∷ q ∷ ps)) 1 (λ e. omega (arith, e)))

-- a gate that isn't stuck
plain_is : (pins nets : List ℕ) (r : Row) (c : Cell) (v : List Level) → HoldsPins pins nets c
    → row_in c ≡ by_count r (length nets) → cell_gives pins c v ≡ gives_at r v nets
plain_is pins nets r (Pair row a b) v h e =
    ap (λ (x : Row). pair_of x (level_at v a) (level_at v b)) e ∙ pair_gives r v nets a b h
plain_is pins nets r (Many row from to) v h e =
    ap (λ (ns : List ℕ). gives_at row v ns) h.is ∙ ap (λ (x : Row). gives_at x v nets) e ∙ many_gives r v nets

-- a gate that is
low_is : (pins : List ℕ) (c : Cell) (v : List Level) → row_in c ≡ Low → cell_gives pins c v ≡ level.Zero
low_is pins (Pair row a b) v e = ap (λ (x : Row). pair_of x (level_at v a) (level_at v b)) e
low_is pins (Many row from to) v e = ap (λ (x : Row). gives_at x v (take (to - from) (drop from pins))) e

high_is : (pins : List ℕ) (c : Cell) (v : List Level) → row_in c ≡ High → cell_gives pins c v ≡ level.One
high_is pins (Pair row a b) v e = ap (λ (x : Row). pair_of x (level_at v a) (level_at v b)) e
high_is pins (Many row from to) v e = ap (λ (x : Row). gives_at x v (take (to - from) (drop from pins))) e

gate_is : (nets : ℕ) (d : Driver) (pins : List ℕ) (c : Cell) (own : Level) (v : List Level) → is_gate d ≡ true
    → IsWired nets d → HoldsPins pins (pins_of d) c → row_in c ≡ plain_row d → cell_gives pins c v ≡ driven d own v
gate_is nets Input pins c own v g w h e = cc
gate_is nets (Dff p) pins c own v g w h e = cc
gate_is nets (Gate kind ps) pins c own v g w h e = plain_is pins ps (row_of kind) c v h e ∙ row_is kind v ps w.2

cell_is : (nets : ℕ) (f : Option Level) (d : Driver) (pins : List ℕ) (c : Cell) (own : Level) (v : List Level)
    → is_gate d ≡ true → IsWired nets d → IsStuck f → HoldsPins pins (pins_of d) c → row_in c ≡ row_for f d
    → cell_gives pins c v ≡ unwrap_or f (driven d own v)
cell_is nets None d pins c own v g w s h e = gate_is nets d pins c own v g w h e
cell_is nets (Some level.Zero) d pins c own v g w s h e = low_is pins c v e
cell_is nets (Some level.One) d pins c own v g w s h e = high_is pins c v e
cell_is nets (Some level.X) d pins c own v g w s h e = absurd s
cell_is nets (Some level.Z) d pins c own v g w s h e = absurd s

-- a gate at its place
module _ (c : Circuit) (whole : IsWhole c) (fixed : List (Option Level)) (cells : List Cell) (pins : List ℕ)
    (h : AreCells c fixed cells pins) (k : ℕ) (within : k < length c.order) where
  is_gate_there : gate_at c.net.drivers (get_or c.order k 0) ≡ true
  is_gate_there = gate_in_order c.net.drivers c.order whole.order k within

  wired_there : IsWired (length c.net.drivers) (driver_at c.net.drivers (get_or c.order k 0))
  wired_there = whole.wired (get_or c.order k 0) (gate_within c.net.drivers (get_or c.order k 0) is_gate_there)

  -- it gives what its net must have
  pub cell_wanted : (held v : List Level) → cell_gives pins (get_or cells k no_cell) v ≡ wanted c.net.drivers fixed held v (get_or c.order k 0)
  cell_wanted held v =
      cell_is (length c.net.drivers) (get_or fixed (get_or c.order k 0) None) (driver_at c.net.drivers (get_or c.order k 0)) pins
      (get_or cells k no_cell) (level_at held (get_or c.order k 0)) v is_gate_there wired_there (h.stuck.each (get_or c.order k 0))
      (h.wired.each k within) (h.rows.each k within)

  -- it reads nets of the netlist
  pub cell_reads : CanRead (length c.net.drivers) pins (get_or cells k no_cell)
  cell_reads = can_read (length c.net.drivers) pins (pins_at c.net.drivers (get_or c.order k 0)) (get_or cells k no_cell) (h.wired.each k within)
      (gate_pins (driver_at c.net.drivers (get_or c.order k 0)) wired_there is_gate_there)
    where
      gate_pins : (d : Driver) → IsWired (length c.net.drivers) d → is_gate d ≡ true → All (λ p. p < length c.net.drivers) (pins_of d)
      gate_pins Input w e = cc
      gate_pins (Dff p) w e = cc
      gate_pins (Gate kind ps) w e = w.3

-- faults fix nets at 0 and 1
stuck_is : (b : Bool) → IsStuck (Some (stuck b))
stuck_is true = tt
stuck_is false = tt

AreStuck-set : (fixed : List (Option Level)) (n : ℕ) (x : Option Level) → IsStuck x → AreStuck fixed → AreStuck (set fixed n x)
AreStuck-set fixed n x s h = record {
  each = λ m. elim (cases_eq m n) [
    | inl q ↦ elim (cases_lt n (length fixed)) [
      | inl l ↦ subst (λ (o : Option Level). IsStuck o) (sym (ap (λ (i : ℕ). get_or (set fixed n x) i None) q ∙ get_or-set_same fixed n x None l)) s
      | inr l ↦ subst (λ (o : Option Level). IsStuck o) (sym (get_or_past (set fixed n x) m None (omega (arith, l, q, length-set fixed n x)))) tt
    ]
    | inr ne ↦ subst (λ (o : Option Level). IsStuck o) (sym (get_or-set_other fixed n m x None ne)) (h.each m)
  ];
}

AreStuck-none : (nets : ℕ) → AreStuck (replicate nets None)
AreStuck-none nets = record {
  each = λ m. elim (cases_lt m nets) [
    | inl l ↦ subst (λ (o : Option Level). IsStuck o) (sym (get_or-replicate nets m None None l)) tt
    | inr l ↦ subst (λ (o : Option Level). IsStuck o) (sym (get_or_past (replicate nets None) m None (omega (arith, l, length-replicate {A = Option Level} nets None)))) tt
  ];
}

AreStuck-each : (fixed : List (Option Level)) (faults : List StuckAt) → AreStuck fixed → AreStuck (fold with_fault fixed faults)
AreStuck-each fixed [] h = h
AreStuck-each fixed (f ∷ fs) h = AreStuck-each (with_fault fixed f) fs (AreStuck-set fixed f.net (Some (stuck f.value)) (stuck_is f.value) h)

pub fixed_is_stuck : (nets : ℕ) (faults : List StuckAt) → AreStuck (fixed_of nets faults)
fixed_is_stuck nets faults = AreStuck-each (replicate nets None) faults (AreStuck-none nets)

pub AreStuck-of : (nets : ℕ) (faults : List StuckAt) (fixed : List (Option Level)) → fixed ≡ fixed_of nets faults → AreStuck fixed
AreStuck-of nets faults fixed e = subst (λ (f : List (Option Level)). AreStuck f) (sym e) (fixed_is_stuck nets faults)

-- a gate of the order is a net of the netlist
pub net_within : (c : Circuit) → IsWhole c → (k : ℕ) → k < length c.order → get_or c.order k 0 < length c.net.names
net_within c w k l =
    let b = gate_within c.net.drivers (get_or c.order k 0) (gate_in_order c.net.drivers c.order w.order k l) in
    omega (arith, b, w.drivers)

-- it has a pin at least and few at most
pins_few : (nets : ℕ) (d : Driver) → is_gate d ≡ true → IsWired nets d → (0 < length (pins_of d)) × (length (pins_of d) ≤ 1024)
pins_few nets Input e w = cc
pins_few nets (Dff p) e w = cc
pins_few nets (Gate kind ps) e w = (w.0, w.1)

pub gate_pins_few : (c : Circuit) → IsWhole c → (k : ℕ) → k < length c.order
    → (0 < length (pins_at c.net.drivers (get_or c.order k 0))) × (length (pins_at c.net.drivers (get_or c.order k 0)) ≤ 1024)
gate_pins_few c w k l =
    let g = gate_in_order c.net.drivers c.order w.order k l in
    pins_few (length c.net.drivers) (driver_at c.net.drivers (get_or c.order k 0)) g (w.wired (get_or c.order k 0) (gate_within c.net.drivers (get_or c.order k 0) g))

-- the first levels of inputs and flip-flops are their own
pub first_is_own : (drivers : List Driver) (fixed : List (Option Level)) (held levels : List Level)
    → length fixed ≡ length drivers → (names : ℕ) → length drivers ≡ names → held ≡ replicate names level.X
    → levels ≡ map (λ f. unwrap_or f level.X) fixed → (n : ℕ) → n < length drivers → gate_at drivers n ≡ false
    → level_at levels n ≡ own_level fixed held n
first_is_own drivers fixed held levels count names all held_is levels_is n l e =
    let here : level_at held n ≡ level.X = ap (λ (v : List Level). level_at v n) held_is ∙ get_or-replicate names n level.X level.Zero (omega (arith, l, all)) in
    ap (λ (v : List Level). level_at v n) levels_is
    ∙ get_or-map (λ f. unwrap_or f level.X) fixed n None level.Zero (omega (arith, l, count))
    ∙ ap (λ (x : Level). unwrap_or (get_or fixed n None) x) (sym here)
