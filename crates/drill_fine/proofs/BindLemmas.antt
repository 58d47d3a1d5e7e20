-- A drill's plan is bound to its code and its netlist.
use Rattle.std.proofs.Common.{◌≡◌, ℕ, zero, suc, ◌+◌, ◌≤◌, Bool, true, false, ◌||◌, cond, List, [], ◌∷◌, ◌++◌, length, map, Option, Some, None, refl, sym, ap, subst, ◌∙◌, arith, append_assoc, append-nil}
use Rattle.std.specs.Prelude.{codes, decimal, fold, nat_lt}
use Rattle.std.specs.List.{list_any, filter_map, flat_map, range_with_len}
use Rattle.std.specs.Option.{option_map, option_or}
use Rattle.std.specs.Str.{bytes_eq}
use Rattle.std.proofs.lemmas.Bool.{lt-ltb}
use Rattle.std.proofs.lemmas.Fmt.{decimal_digit}
use Rattle.std.proofs.lemmas.List.Elements.{All-head, All-tail}
use Rattle.text_bytes.specs.Texts.{added}
use Rattle.bench_net.specs.declared.gate.Driver.{Driver}
use Rattle.bench_net.specs.declared.gate.Driver.TheVariants.{Input}
use Rattle.bench_net.specs.Circuit.{Net, Circuit, number}
use Rattle.bench_net.specs.Line.{Form}
use Rattle.bench_net.specs.Net.{names, named, shown, driver_for}
use Rattle.bench_net.proofs.NamesLemmas.{numbers_within, number-within}
use Rattle.packed_code.specs.Program.{Program}
use Rattle.lot_plan.specs.Needs.{needs_of}
use Rattle.lot_plan.specs.Binds.{binds_of, unbound_in}
use Rattle.lot_plan.specs.Refusal.{is_net, first_unbound, refused_row, refusal}
use Rattle.plan_rows.specs.declared.row.Row.{Row}
use Rattle.plan_rows.specs.declared.row.Row.TheVariants as row
use Rattle.plan_rows.specs.declared.fault.PlanFault.{PlanFault}
use Rattle.plan_rows.specs.declared.fault.PlanFault.TheVariants.{Unbound}
use Rattle.drill_fine.specs.Nets.{net_at, register_form, drill_forms}
use Rattle.drill_fine.specs.Rows.{last_net, die_row, drill_rows}
use Rattle.drill_fine.specs.Bindings.{code_signals}
use Rattle.drill_fine.proofs.NameLemmas.{net_same, net_differs}
use Rattle.drill_fine.proofs.NetLemmas.{drill_net}

-- names that are there stay in front
pub record Grown (z xs : List (List ℕ)) : Type 0 where
  pub more : List (List ℕ)
  pub are : fold added z xs ≡ z ++ more

grown_one : (z : List (List ℕ)) (x : List ℕ) (xs : List (List ℕ)) → Grown (added z x) xs → Grown z (x ∷ xs)
grown_one z x xs g = by (list_any (bytes_eq x) z) g.more g.are
  where
    by : (b : Bool) (more : List (List ℕ)) → fold added (added z x) xs ≡ cond b z (z ++ x ∷ []) ++ more → Grown z (x ∷ xs)
    by true more are = record { more = more; are = are }
    by false more are = record { more = x ∷ more; are = are ∙ append_assoc z (x ∷ []) more }

grown : (z xs : List (List ℕ)) → Grown z xs
grown z [] = record { more = []; are = sym (append-nil z) }
grown z (x ∷ xs) = grown_one z x xs (grown (added z x) xs)

-- the first names of a drill's netlist
pub record Begun (n : ℕ) : Type 0 where
  pub more : List (List ℕ)
  pub are : names (drill_forms n) ≡ net_at 0 ∷ net_at n ∷ more

begun : (n : ℕ) → 1 ≤ n → n ≤ 500 → Begun n
begun n some few =
    let rest = flat_map named (map register_form (range_with_len 0 n)) in
    let g = grown (net_at 0 ∷ net_at n ∷ []) rest in
    let apart : bytes_eq (net_at n) (net_at 0) ≡ false = net_differs n 0 (omega (arith, few)) (omega arith) (λ e. omega (arith, e, some)) in
    record {
      more = g.more;
      are = ap (λ (b : Bool). fold added (cond (b || false) (net_at 0 ∷ []) (net_at 0 ∷ net_at n ∷ [])) rest) apart ∙ g.are;
    }

-- the first register's net is there
first_there : (n : ℕ) → 1 ≤ n → list_any (bytes_eq (codes "f1")) (names (drill_forms n)) ≡ true
first_there zero some = absurd (omega (arith, some))
first_there (suc m) some =
    let P = λ (x : List ℕ). list_any (bytes_eq x) (names (drill_forms (suc m))) ≡ true in
    let Q = λ (f : Form). Rattle.std.specs.Prelude.All P (named f) in
    let registers = map register_form (range_with_len 1 m) in
    let all = numbers_within (drill_forms (suc m)) in
    let third = All-head Q (register_form 0) registers
    (All-tail Q (Rattle.bench_net.specs.Line.output (net_at (suc m))) (register_form 0 ∷ registers)
    (All-tail Q (Rattle.bench_net.specs.Line.input (net_at 0)) (Rattle.bench_net.specs.Line.output (net_at (suc m)) ∷ register_form 0 ∷ registers) all)) in
    let one : decimal 1 ≡ 49 ∷ [] = decimal_digit 1 (omega arith) in
    subst (λ (ds : List ℕ). list_any (bytes_eq (codes "f" ++ ds)) (names (drill_forms (suc m))) ≡ true) one
    (All-head P (net_at 1) (net_at 0 ∷ []) third)

-- the rows of a plan that binds the output to a net
abbrev rows_with : List ℕ → List Row
rows_with name =
    row.Lot (record { batch = 256; tries = 1; keep = 0 }) ∷ row.Clock (codes "ck")
    ∷ row.Bind (record { signal = codes "q"; net = Some name })
    ∷ die_row 0 (codes "a") ∷ die_row 1 (codes "b") ∷ die_row 2 (codes "c") ∷ die_row 3 (codes "d")
    ∷ row.Fault (record { site = 1; die = 0; net = codes "f1"; value = false; tries = None }) ∷ []

-- a netlist of these parts
abbrev net_with : List ℕ → List (List ℕ) → List Driver → Bool → Bool → List Bool → Net
net_with name more ds o p os = record { names = codes "d" ∷ name ∷ more; drivers = Input ∷ ds; outputs = o ∷ p ∷ os }

-- what the signals need is there
binds_fine : (order : List ℕ) (readers : List (List ℕ)) (name : List ℕ) (more : List (List ℕ)) (ds : List Driver) (o : Bool) (os : List Bool)
    → bytes_eq name (codes "d") ≡ false → bytes_eq name name ≡ true
    → unbound_in (binds_of (record { net = net_with name more ds o true os; order = order; readers = readers }) (needs_of (rows_with name) code_signals)) ≡ None
binds_fine order readers name more ds o os apart same = rw (apart, same) refl

-- the name of the last net
last_is : (n : ℕ) → 1 ≤ n → last_net n ≡ net_at n
last_is zero some = absurd (omega (arith, some))
last_is (suc m) some = refl

-- nothing refuses the rows
rows_fine : (code : Program) (c : Circuit) (n : ℕ) → code.signals ≡ code_signals → is_net c (codes "f1") ≡ true
    → refused_row (record { rows = drill_rows n; program = code; circuits = c ∷ [] }) ≡ None
rows_fine code c n signals there = rw (signals, there) refl

-- what a net's name is among the outputs
abbrev is_shown : ℕ → List ℕ → Bool
is_shown n name = list_any (bytes_eq name) (filter_map shown (drill_forms n))

shown_none : (a m : ℕ) → filter_map shown (map register_form (range_with_len a m)) ≡ []
shown_none a zero = refl
shown_none a (suc m) = shown_none (a + 1) m

-- the last net is
last_shown : (n : ℕ) → is_shown n (net_at n) ≡ true
last_shown n =
    ap (λ (ns : List (List ℕ)). list_any (bytes_eq (net_at n)) (net_at n ∷ ns)) (shown_none 0 n) ∙ ap (λ (b : Bool). b || false) (net_same n)

-- the netlist by its first two nets
net_begun : (n : ℕ) (more : List (List ℕ)) → names (drill_forms n) ≡ net_at 0 ∷ net_at n ∷ more
    → drill_net n ≡ net_with (net_at n) more (map (driver_for (drill_forms n)) (net_at n ∷ more)) (is_shown n (net_at 0)) true (map (is_shown n) more)
net_begun n more are =
    ap (λ (ns : List (List ℕ)). record { names = ns; drivers = map (driver_for (drill_forms n)) ns; outputs = map (is_shown n) ns }) are
    ∙ ap (λ (b : Bool). net_with (net_at n) more (map (driver_for (drill_forms n)) (net_at n ∷ more)) (is_shown n (net_at 0)) b (map (is_shown n) more)) (last_shown n)

-- nothing refuses the binding
pub drill_is_bound : (n : ℕ) → 1 ≤ n → n ≤ 500 → (code : Program) (c : Circuit) → code.signals ≡ code_signals → c.net ≡ drill_net n
    → refusal (record { rows = drill_rows n; program = code; circuits = c ∷ [] }) ≡ None
drill_is_bound n some few code c signals net_is =
    let g = begun n some few in
    let there : is_net c (codes "f1") ≡ true =
    ap (λ (x : Net). nat_lt (number x.names (codes "f1")) (length x.names)) net_is
    ∙ lt-ltb (number (names (drill_forms n)) (codes "f1")) (length (names (drill_forms n))) (number-within (drill_forms n) (codes "f1") (first_there n some)) in
    let bound : unbound_in (binds_of c (needs_of (drill_rows n) code_signals)) ≡ None =
    ap (λ (name : List ℕ). unbound_in (binds_of c (needs_of (rows_with name) code_signals))) (last_is n some)
    ∙ ap (λ (x : Net). unbound_in (binds_of (record { net = x; order = c.order; readers = c.readers }) (needs_of (rows_with (net_at n)) code_signals)))
    (net_is ∙ net_begun n g.more g.are)
    ∙ binds_fine c.order c.readers (net_at n) g.more (map (driver_for (drill_forms n)) (net_at n ∷ g.more)) (is_shown n (net_at 0)) (map (is_shown n) g.more)
    (net_differs n 0 (omega (arith, few)) (omega arith) (λ e. omega (arith, e, some))) (net_same n) in
    ap (λ (o : Option PlanFault). option_or o (option_map Unbound (first_unbound (needs_of (drill_rows n) code.signals) (c ∷ [])))) (rows_fine code c n signals there)
    ∙ ap (λ s. option_map Unbound (first_unbound (needs_of (drill_rows n) s) (c ∷ []))) signals
    ∙ ap (λ (o : Option (List ℕ)). option_map Unbound (option_or o None)) bound
