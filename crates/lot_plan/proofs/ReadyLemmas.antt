-- A plan that nothing refuses has sound images, and what is built of its rows is what it stores.
use Rattle.std.proofs.Common.{◌≡◌, ℕ, suc, ◌==◌, ◌+◌, ◌<◌, Bool, true, ◌&&◌, not, ◌||◌, cond, List, [], ◌∷◌, length, map, get_or, Option, Some, None, slice_get, refl, sym, ap, ◌∙◌, subst, arith, inl, inr}
use Rattle.std.specs.Prelude.{All, fold, filter, nat_lt}
use Rattle.std.specs.List.{list_any, position_or_len}
use Rattle.std.specs.Option.{option_or, option_map, option_map_or, option_and_then}
use Rattle.std.specs.Str.{bytes_eq}
use Rattle.std.specs.Cmp.Lexicographic.{bytes_decides}
use Rattle.std.proofs.lemmas.Bool.{cases_Bool, and_parts, eqb-true, ltb-true, or_left, or_right}
use Rattle.std.proofs.lemmas.List.{get_or-map, length-map}
use Rattle.std.proofs.lemmas.Option.{slice_get-get_or}
use Rattle.bench_net.specs.Circuit.{Circuit, number, IsWhole}
use Rattle.die_sim.specs.Die.{IsSound}
use Rattle.die_sim.specs.declared.image.Binding.{Binding}
use Rattle.die_sim.specs.declared.image.StuckAt.{StuckAt}
use Rattle.plan_rows.specs.declared.row.Row.{Row}
use Rattle.plan_rows.specs.declared.row.DieRow.{DieRow}
use Rattle.plan_rows.specs.declared.row.FaultRow.{FaultRow}
use Rattle.plan_rows.specs.Rows.{AreKept, each_of, as_fault, dies_of, dies_at, faults_at, files_of, lot_of}
use Rattle.plan_rows.specs.declared.row.SkewRow.{SkewRow}
use Rattle.plan_rows.specs.declared.fault.PlanFault.{PlanFault}
use Rattle.lot_plan.specs.declared.bound_die.BoundDie.{BoundDie}
use Rattle.lot_plan.specs.declared.bound_die.DieFault.{DieFault}
use Rattle.lot_plan.specs.Needs.{PinNeed, needs_of, clock_of}
use Rattle.lot_plan.specs.Binds.{binds_of, list_of, unbound_in}
use Rattle.lot_plan.specs.Bound.{Bound, signals_of, no_circuit, die_at, file_of, circuit_of, binding_to, binding_of, numbered, is_active, active_at, faults_of, loaded}
use Rattle.lot_plan.specs.Building.{circuit_no, binding_no, no_binding, IsBuilt, AreBuilt, IsReady, AreReady}
use Rattle.lot_plan.specs.Groups.{DieRows, no_rows, group_at, rows_at, circuit_in, IsGroup, AreGroups}
use Rattle.lot_plan.specs.Skews.{skew_refusal}
use Rattle.lot_plan.specs.Refusal.{refused_row, is_signal, is_net, rows_refusal, first_unbound, refusal, IsBound}
use Rattle.lot_plan.specs.Stored.{stored_at, IsStored, AreStored}
use Rattle.lot_plan.proofs.ApartLemmas.{Apart, ApartAt, apart-from, apart-at, apart-filter, apart-map, All-passing, All-filter, All-map}
use Rattle.std.proofs.lemmas.List.Elements.{All-cons}
use Rattle.text_bytes.specs.Texts.{added}
use Rattle.lot_plan.proofs.GroupLemmas.{site-below}
use Rattle.lot_plan.proofs.NameLemmas.{any-with_file}
use Rattle.lot_plan.proofs.RefusalLemmas.{none_both, faults-accepted, each-bound, none-mapped, same_refusal}
use Rattle.plan_rows.specs.declared.fault.PlanFault.TheVariants as refused
use Rattle.lot_plan.proofs.WiredLemmas.{wired}

-- a name that has a number is that of its net
pub number-at : (names : List (List ℕ)) (x : List ℕ) → number names x < length names → get_or names (number names x) [] ≡ x
number-at [] x within = absurd (omega (arith, within))
number-at (k ∷ ks) x within =
    elim (cases_Bool (bytes_eq x k)) [
      | inl b ↦ ap (λ t. get_or (k ∷ ks) (cond {A = ℕ} (not t) (1 + number ks x) 0) []) b ∙ sym ((bytes_decides x k).0 b)
      | inr b ↦
          let step : number (k ∷ ks) x ≡ 1 + number ks x = ap (λ t. cond {A = ℕ} (not t) (1 + number ks x) 0) b in
          let one : 1 + number ks x ≡ suc (number ks x) = omega arith in
          ap (λ n. get_or (k ∷ ks) n []) (step ∙ one) ∙ number-at ks x (omega (arith, within, step))
    ]

-- names of one number are one
same-number : (names : List (List ℕ)) (x y : List ℕ) → number names x < length names → number names x ≡ number names y → x ≡ y
same-number names x y within same =
    sym (number-at names x within) ∙ ap (λ n. get_or names n []) same ∙ number-at names y (omega (arith, within, same))

-- a circuit has the net of a fault
abbrev HasNet : Circuit → FaultRow → Type 0
HasNet c f = number c.net.names f.net < length c.net.names

less-true : (m n : ℕ) → nat_lt m n ≡ true → m < n
less-true m n is = ltb-true m n is

-- the faults of a die, where its rows are accepted
faults-have : (known : List ℕ → Bool) (skewed : ℕ → SkewRow → Option PlanFault) (execs : ℕ) (circuit : ℕ → ℕ → Circuit) (rows : List Row) (s d : ℕ) →
    rows_refusal known skewed execs circuit 1 rows ≡ None →
    All (HasNet (circuit s d)) (faults_at s d rows)
faults-have known skewed execs circuit rows s d accepted k f within =
    let both = All-passing (λ (f : FaultRow). is_net (circuit f.site f.die) f.net ≡ true) (λ f. (f.site == s) && (f.die == d))
    (each_of as_fault rows)
    (faults-accepted known skewed execs circuit rows 1 accepted) k f within in
    let g : FaultRow = get_or (faults_at s d rows) k f in
    let parts = and_parts (g.site == s) (g.die == d) both.1 in
    less-true (number (circuit s d).net.names g.net) (length (circuit s d).net.names)
    (sym (ap (λ t. is_net (circuit t g.die) g.net) (eqb-true g.site s parts.0)
    ∙ ap (λ t. is_net (circuit s t) g.net) (eqb-true g.die d parts.1)) ∙ both.0)

-- what a try loads is sound
loaded-sound : (c : Circuit) (clock : Option ℕ) (needs : List PinNeed) (faults : List FaultRow) (n : ℕ) → IsWhole c →
    unbound_in (binds_of c needs) ≡ None →
    All (HasNet c) faults → ApartAt (λ f. f.net) faults →
    IsSound (loaded c (record { clock = clock; nets = list_of (binds_of c needs) }) n (map (numbered c) faults))
loaded-sound c clock needs faults n whole bound have apart =
    let w = wired c needs whole bound in
    let numbers : All (λ (d : DieFault). d.stuck.net < length c.net.drivers) (map (numbered c) faults) =
    All-map (λ (d : DieFault). d.stuck.net < length c.net.drivers) (numbered c) faults
    (λ k f within. omega (arith, have k f within, whole.drivers)) in
    let stuck : Apart (λ (d : DieFault). d.stuck.net) (map (numbered c) faults) =
    apart-map (λ f. f.net) (λ d. d.stuck.net) (numbered c) (HasNet c) faults
    (λ f g f_has g_has same. same-number c.net.names f.net g.net f_has same) have
    (apart-from (λ f. f.net) faults apart) in
    record {
      bound = w.each;
      one_driver = w.one;
      faults = All-map (λ (s : StuckAt). s.net < length c.net.drivers) (λ (d : DieFault). d.stuck)
          (filter (is_active n) (map (numbered c) faults))
          (All-filter (λ (d : DieFault). d.stuck.net < length c.net.drivers) (is_active n) (map (numbered c) faults) numbers);
      one_fault = apart-at (λ (s : StuckAt). s.net) (active_at n (map (numbered c) faults))
          (apart-map (λ (d : DieFault). d.stuck.net) (λ (s : StuckAt). s.net) (λ (d : DieFault). d.stuck) (λ d. Unit {0})
          (filter (is_active n) (map (numbered c) faults))
          (λ d e d_in e_in same. same) (λ k d within. tt)
          (apart-filter (λ (d : DieFault). d.stuck.net) (is_active n) (map (numbered c) faults) stuck));
    }

-- a file of a die is one of the plan's
number-there : (ks : List (List ℕ)) (n : List ℕ) → list_any (bytes_eq n) ks ≡ true → position_or_len (bytes_eq n) ks < length ks
number-there [] n e = cc
number-there (k ∷ ks) n e =
    elim (cases_Bool (bytes_eq n k)) [
      | inl b ↦ subst (λ (x : Bool). cond {A = ℕ} (not x) (1 + number ks n) 0 < suc (length ks)) (sym b) (omega arith)
      | inr b ↦ subst (λ (x : Bool). cond {A = ℕ} (not x) (1 + number ks n) 0 < suc (length ks)) (sym b)
          (omega (arith, number-there ks n (sym (ap (λ x. x || list_any (bytes_eq n) ks) b) ∙ e)))
    ]

there-added : (files : List (List ℕ)) (file n : List ℕ) → (list_any (bytes_eq n) files || bytes_eq n file) ≡ true →
    list_any (bytes_eq n) (added files file) ≡ true
there-added files file n e = any-with_file files file n ∙ e

there-fold : (ds : List DieRow) (files : List (List ℕ)) (n : List ℕ) → list_any (bytes_eq n) files ≡ true →
    list_any (bytes_eq n) (fold (λ named d. added named d.file) files ds) ≡ true
there-fold [] files n e = e
there-fold (d ∷ ds) files n e = there-fold ds (added files d.file) n
    (there-added files d.file n (or_left (list_any (bytes_eq n) files) (bytes_eq n d.file) e))

all-files : (ds : List DieRow) (files : List (List ℕ)) →
    All (λ d. list_any (bytes_eq d.file) (fold (λ named d. added named d.file) files ds) ≡ true) ds
all-files [] files = λ k d within. absurd (omega (arith, within))
all-files (x ∷ ds) files =
    All-cons (λ d. list_any (bytes_eq d.file) (fold (λ named d. added named d.file) files (x ∷ ds)) ≡ true) x ds
    (there-fold ds (added files x.file) x.file
    (there-added files x.file x.file (or_right (list_any (bytes_eq x.file) files) (bytes_eq x.file x.file)
    ((bytes_decides x.file x.file).1 refl))))
    (all-files ds (added files x.file))

pub file-below : (rows : List Row) (s d : ℕ) → d < length (dies_at s rows) → file_of rows s d < length (files_of rows)
file-below rows s d within =
    number-there (files_of rows) (die_at rows s d).file
    (All-filter (λ (d : DieRow). list_any (bytes_eq d.file) (files_of rows) ≡ true) (λ d. d.site == s) (dies_of rows)
    (all-files (dies_of rows) []) d
    (record { site = 0; name = []; file = [] }) within)

-- what a bound plan says of a die's circuit
pub circuit-whole : (b : Bound) (s d : ℕ) → IsBound b → d < length (dies_at s b.rows) → IsWhole (circuit_of b s d)
circuit-whole b s d bound within = bound.whole (file_of b.rows s d) no_circuit
    (omega (arith, bound.files, file-below b.rows s d within))

refusals : (b : Bound) → refusal b ≡ None → (refused_row b ≡ None)
    × (first_unbound (needs_of b.rows (signals_of b)) b.circuits ≡ None)
refusals b accepted =
    let both = none_both (refused_row b) _ accepted in
    (both.0, none-mapped _ (first_unbound (needs_of b.rows (signals_of b)) b.circuits) both.1)

pub circuit-bound : (b : Bound) (s d : ℕ) → IsBound b → d < length (dies_at s b.rows) →
    unbound_in (binds_of (circuit_of b s d) (needs_of b.rows (signals_of b))) ≡ None
circuit-bound b s d bound within =
    each-bound (needs_of b.rows (signals_of b)) b.circuits (refusals b bound.accepted).1 (file_of b.rows s d) no_circuit
    (omega (arith, bound.files, file-below b.rows s d within))

-- what a try of a die loads is sound
pub image-sound : (b : Bound) (s d n : ℕ) → IsBound b → d < length (dies_at s b.rows) →
    IsSound (loaded (circuit_of b s d) (binding_of b s d) n (faults_of b s d))
image-sound b s d n bound within =
    loaded-sound (circuit_of b s d) (clock_of b.rows (signals_of b)) (needs_of b.rows (signals_of b)) (faults_at s d b.rows) n
    (circuit-whole b s d bound within)
    (circuit-bound b s d bound within)
    (faults-have (is_signal (signals_of b)) (skew_refusal (signals_of b) b.program.tables) (length b.program.execs) (circuit_of b) b.rows s d (refusals b bound.accepted).0)
    (λ k l f g. bound.kept.one_fault s d k l f g)

-- the binding of a die's file
binding-there : (b : Bound) (bindings : List Binding) (s d : ℕ) → bindings ≡ map (binding_to b) b.circuits →
    file_of b.rows s d < length b.circuits →
    binding_no bindings (file_of b.rows s d) ≡ binding_of b s d
binding-there b bindings s d all within =
    ap (λ bs. binding_no bs (file_of b.rows s d)) all
    ∙ get_or-map (binding_to b) b.circuits (file_of b.rows s d) no_circuit no_binding within

group-ready : (b : Bound) (bindings : List Binding) (s d : ℕ) (r : DieRows) → IsBound b →
    bindings ≡ map (binding_to b) b.circuits → d < length (dies_at s b.rows) →
    IsGroup b.rows s d r → IsReady b.circuits bindings r
group-ready b bindings s d r bound all within group =
    let there : file_of b.rows s d < length b.circuits = omega (arith, bound.files, file-below b.rows s d within) in
    let count : length bindings ≡ length b.circuits = ap length all ∙ length-map b.circuits (binding_to b) in
    record {
      net = omega (arith, group.file, there);
      bind = omega (arith, group.file, there, count);
      sound = λ n.
          subst (λ f. IsSound (loaded (circuit_no b.circuits f) (binding_no bindings f) n
          (map (numbered (circuit_no b.circuits f)) r.faults))) (sym group.file)
          (subst (λ fs. IsSound (loaded (circuit_of b s d) (binding_no bindings (file_of b.rows s d)) n
          (map (numbered (circuit_of b s d)) fs))) (sym group.faults)
          (subst (λ x. IsSound (loaded (circuit_of b s d) x n (faults_of b s d)))
          (sym (binding-there b bindings s d all there)) (image-sound b s d n bound within)));
    }

-- the rows of all dies are ready
pub all-ready : (b : Bound) (bindings : List Binding) (sites : List (List DieRows)) → IsBound b →
    bindings ≡ map (binding_to b) b.circuits → AreGroups b.rows sites →
    AreReady b.circuits bindings sites
all-ready b bindings sites bound all groups s s_in d d_in =
    group-ready b bindings s d (rows_at sites s d) bound all (omega (arith, d_in, groups.dies s s_in))
    (groups.each s d s_in d_in)

-- what was built of a die's rows is what is to be stored
built-stored : (b : Bound) (bindings : List Binding) (s d : ℕ) (r : DieRows) (x : BoundDie) → IsBound b →
    bindings ≡ map (binding_to b) b.circuits →
    d < length (dies_at s b.rows) → IsGroup b.rows s d r →
    IsBuilt (circuit_no b.circuits r.file) (binding_no bindings r.file) (lot_of b.rows).tries r x → IsStored b s d x
built-stored b bindings s d r x bound all within group built =
    let there : file_of b.rows s d < length b.circuits = omega (arith, bound.files, file-below b.rows s d within) in
    record {
      name = built.name ∙ ap (λ (e : DieRow). e.name) group.die;
      file = built.file ∙ group.file;
      there = omega (arith, built.file, group.file, there);
      tries = built.images.count;
      images = λ k k_in.
          built.images.each k k_in
          ∙ ap (λ f. Some (loaded (circuit_no b.circuits f) (binding_no bindings f) (k + 1)
          (map (numbered (circuit_no b.circuits f)) r.faults))) group.file
          ∙ ap (λ fs. Some (loaded (circuit_of b s d) (binding_no bindings (file_of b.rows s d)) (k + 1)
          (map (numbered (circuit_of b s d)) fs))) group.faults
          ∙ ap (λ y. Some (loaded (circuit_of b s d) y (k + 1) (faults_of b s d))) (binding-there b bindings s d all there);
      stops = built.stops ∙ group.stops;
    }

-- what was built of all rows is what is to be stored
pub all-stored : (b : Bound) (bindings : List Binding) (sites : List (List DieRows)) (dies : List (List BoundDie)) →
    IsBound b → bindings ≡ map (binding_to b) b.circuits →
    AreGroups b.rows sites → AreBuilt b.circuits bindings (lot_of b.rows).tries sites dies → AreStored b dies
all-stored b bindings sites dies bound all groups built =
    let site_in : (s : ℕ) → s < length dies → s < length sites = λ s within. omega (arith, within, built.count) in
    record {
      count = built.count ∙ groups.count;
      dies = λ s within. (built.each s within).count ∙ groups.dies s (site_in s within);
      each = λ s d s_in d_in.
          let in_site : d < length (group_at sites s) = omega (arith, d_in, (built.each s s_in).count) in
          built-stored b bindings s d (rows_at sites s d) (stored_at dies s d) bound all
          (omega (arith, in_site, groups.dies s (site_in s s_in))) (groups.each s d (site_in s s_in) in_site)
          ((built.each s s_in).each d d_in);
    }

-- the circuit that is found by groups is that of the die
pub circuit-found : (b : Bound) (sites : List (List DieRows)) (s d : ℕ) → AreGroups b.rows sites →
    d < length (dies_at s b.rows) →
    circuit_in sites b.circuits s d ≡ circuit_of b s d
circuit-found b sites s d groups within =
    let s_in : s < length sites = omega (arith, groups.count, site-below b.rows s d within) in
    let d_in : d < length (group_at sites s) = omega (arith, groups.dies s s_in, within) in
    ap (λ o. option_map_or (λ file. get_or b.circuits file no_circuit)
    (option_and_then (λ dies. option_map (λ (r : DieRows). r.file) (slice_get dies d)) o) no_circuit)
    (slice_get-get_or sites s [] s_in)
    ∙ ap (λ o. option_map_or (λ file. get_or b.circuits file no_circuit) (option_map (λ (r : DieRows). r.file) o) no_circuit)
    (slice_get-get_or (group_at sites s) d no_rows d_in)
    ∙ ap (λ f. get_or b.circuits f no_circuit) (groups.each s d s_in d_in).file

-- rows are refused alike by what the code looks up
pub rows-same : (b : Bound) (known : List ℕ → Bool) (sites : List (List DieRows)) → AreKept b.rows → AreGroups b.rows sites →
    ((name : List ℕ) → known name ≡ is_signal (signals_of b) name) →
    rows_refusal known (skew_refusal (signals_of b) b.program.tables) (length b.program.execs) (circuit_in sites b.circuits) 1 b.rows ≡ refused_row b
rows-same b known sites kept groups names =
    same_refusal known (is_signal (signals_of b)) (skew_refusal (signals_of b) b.program.tables) (length b.program.execs) (circuit_in sites b.circuits) (circuit_of b) b.rows 1 names
    (λ k f within. circuit-found b sites _ _ groups (kept.faults k f within))

-- a plan that nothing refuses is bound
pub is-bound : (b : Bound) → AreKept b.rows → length b.circuits ≡ length (files_of b.rows) → All IsWhole b.circuits →
    refused_row b ≡ None →
    first_unbound (needs_of b.rows (signals_of b)) b.circuits ≡ None → IsBound b
is-bound b kept files whole rows bound = record {
  kept = kept;
  files = files;
  whole = whole;
  accepted = ap (λ o. option_or o
      (option_map (λ name. refused.Unbound name) (first_unbound (needs_of b.rows (signals_of b)) b.circuits))) rows
      ∙ ap (option_map (λ name. refused.Unbound name)) bound;
}

pub ready-in : (b : Bound) (bindings made : List Binding) (sites groups : List (List DieRows)) → IsBound b →
    made ≡ map (binding_to b) b.circuits → AreGroups b.rows groups →
    bindings ≡ made → sites ≡ groups → AreReady b.circuits bindings sites
ready-in b bindings made sites groups bound all are same_bindings same_sites =
    subst (λ bs. AreReady b.circuits bs sites) (sym same_bindings)
    (subst (AreReady b.circuits made) (sym same_sites) (all-ready b made groups bound all are))

pub stored-in : (b : Bound) (bindings made : List Binding) (sites groups : List (List DieRows)) (tries : ℕ)
    (dies : List (List BoundDie)) → IsBound b →
    made ≡ map (binding_to b) b.circuits → AreGroups b.rows groups → bindings ≡ made → sites ≡ groups →
    tries ≡ (lot_of b.rows).tries →
    AreBuilt b.circuits bindings tries sites dies → AreStored b dies
stored-in b bindings made sites groups tries dies bound all are same_bindings same_sites same_tries built =
    all-stored b made groups dies bound all are
    (subst (λ bs. AreBuilt b.circuits bs (lot_of b.rows).tries groups dies) same_bindings
    (subst (λ ss. AreBuilt b.circuits bindings (lot_of b.rows).tries ss dies) same_sites
    (subst (λ t. AreBuilt b.circuits bindings t sites dies) same_tries built)))
