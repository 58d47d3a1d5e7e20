-- The dies that are built of ready rows.
use Rattle.std.proofs.Common.{◌≡◌, ℕ, ◌+◌, ◌<◌, List, [], ◌∷◌, ◌++◌, length, map, get_or, sym, ap, ◌∙◌, subst, arith, inl, inr}
use Rattle.std.proofs.lemmas.List.{get_or-map, get_or_read, get_or_append_left, get_or_at, length-map}
use Rattle.std.proofs.lemmas.Bool.{cases_lt}
use Rattle.lot_plan.specs.declared.bound_die.BoundDie.{BoundDie}
use Rattle.lot_plan.specs.Stored.{no_die}
use Rattle.bench_net.specs.Circuit.{Circuit}
use Rattle.die_sim.specs.Die.{IsSound}
use Rattle.die_sim.specs.declared.image.Binding.{Binding}
use Rattle.lot_plan.specs.Bound.{no_circuit, numbered, loaded}
use Rattle.lot_plan.specs.Building.{circuit_no, binding_no, no_binding, IsReady, IsSiteReady, AreReady, IsBuilt}
use Rattle.lot_plan.specs.Groups.{DieRows, no_rows, rows_of}

-- the rows at hand are ready
pub ready-now : (circuits : List Circuit) (bindings : List Binding) (site : List DieRows) (i : ℕ) (g : DieRows) →
    IsSiteReady circuits bindings site →
    i < length site → g ≡ get_or site i g → IsReady circuits bindings g
ready-now circuits bindings site i g ready within is = subst (IsReady circuits bindings)
    (sym (get_or_read site i g within is no_rows)) (ready i within)

pub site-ready-now : (circuits : List Circuit) (bindings : List Binding) (sites : List (List DieRows)) (i : ℕ)
    (g : List DieRows) →
    AreReady circuits bindings sites → i < length sites → g ≡ get_or sites i g → IsSiteReady circuits bindings g
site-ready-now circuits bindings sites i g ready within is =
    subst (IsSiteReady circuits bindings) (sym (get_or_read sites i g within is [])) (ready i within)

pub file-within : {A : Type 0} (f : A → Circuit) (nets : List A) (bindings : List Binding) (g : DieRows) →
    IsReady (map f nets) bindings g → g.file < length nets
file-within f nets bindings g ready = omega (arith, ready.net, length-map nets f)

pub bind-within : {A : Type 0} (f : A → Binding) (circuits : List Circuit) (bindings : List A) (g : DieRows) →
    IsReady circuits (map f bindings) g →
    g.file < length bindings
bind-within f circuits bindings g ready = omega (arith, ready.bind, length-map bindings f)

-- the item at hand is that of its file
pub circuit-now : {A : Type 0} (f : A → Circuit) (nets : List A) (file : ℕ) (item : A) → file < length nets →
    item ≡ get_or nets file item →
    f item ≡ circuit_no (map f nets) file
circuit-now f nets file item within is = ap f is ∙ sym (get_or-map f nets file item no_circuit within)

pub binding-now : {A : Type 0} (f : A → Binding) (bindings : List A) (file : ℕ) (item : A) → file < length bindings →
    item ≡ get_or bindings file item →
    f item ≡ binding_no (map f bindings) file
binding-now f bindings file item within is = ap f is ∙ sym (get_or-map f bindings file item no_binding within)

pub sound-now : (circuits : List Circuit) (bindings : List Binding) (g : DieRows) (c : Circuit) (b : Binding) (number : ℕ) →
    IsReady circuits bindings g →
    c ≡ circuit_no circuits g.file → b ≡ binding_no bindings g.file → IsSound (loaded c b number (map (numbered c) g.faults))
sound-now circuits bindings g c b number ready net bind =
    subst (λ x. IsSound (loaded x b number (map (numbered x) g.faults))) (sym net)
    (subst (λ y. IsSound (loaded (circuit_no circuits g.file) y number
    (map (numbered (circuit_no circuits g.file)) g.faults))) (sym bind) (ready.sound number))

built-here : (circuits : List Circuit) (bindings : List Binding) (tries : ℕ) (site : List DieRows) (d i : ℕ) (g : DieRows)
    (x y : BoundDie) → d ≡ i → i < length site →
    g ≡ get_or site i g → y ≡ x → IsBuilt (circuit_no circuits g.file) (binding_no bindings g.file) tries g x →
    IsBuilt (circuit_no circuits (rows_of site d).file) (binding_no bindings (rows_of site d).file) tries (rows_of site d) y
built-here circuits bindings tries site d i g x y same within is at built =
    subst (λ z. IsBuilt (circuit_no circuits (rows_of site d).file) (binding_no bindings (rows_of site d).file) tries
    (rows_of site d) z) (sym at)
    (subst (λ r. IsBuilt (circuit_no circuits r.file) (binding_no bindings r.file) tries r x)
    (get_or_read site i g within is no_rows ∙ ap (rows_of site) (sym same)) built)

-- one more die is built
pub built-more : (circuits : List Circuit) (bindings : List Binding) (tries : ℕ) (site : List DieRows)
    (dies made : List BoundDie) (i : ℕ) (g : DieRows) (x : BoundDie) →
    length dies ≡ i → made ≡ dies ++ x ∷ [] → i < length site → g ≡ get_or site i g →
    ((d : ℕ) → d < i → IsBuilt (circuit_no circuits (rows_of site d).file) (binding_no bindings (rows_of site d).file) tries
    (rows_of site d) (get_or dies d no_die)) →
    IsBuilt (circuit_no circuits g.file) (binding_no bindings g.file) tries g x → (d : ℕ) → d < i + 1 →
    IsBuilt (circuit_no circuits (rows_of site d).file) (binding_no bindings (rows_of site d).file) tries (rows_of site d)
    (get_or made d no_die)
built-more circuits bindings tries site dies made i g x count put within is before here d below =
    elim (cases_lt d i) [
      | inl h ↦
          let at : get_or made d no_die ≡ get_or dies d no_die = ap (λ m. get_or m d no_die) put
          ∙ get_or_append_left dies (x ∷ []) no_die d (omega (arith, h, count)) in
          subst (λ z. IsBuilt (circuit_no circuits (rows_of site d).file) (binding_no bindings (rows_of site d).file) tries
          (rows_of site d) z) (sym at) (before d h)
      | inr h ↦
          let same : d ≡ i = omega (arith, h, below) in
          let at : get_or made d no_die ≡ x = ap (λ m. get_or m d no_die) put
          ∙ get_or_at dies x [] no_die d (count ∙ sym same) in
          built-here circuits bindings tries site d i g x (get_or made d no_die) same within is at here
    ]
