-- What is read from the store of a bound plan.
use Rattle.std.proofs.Common.{◌≡◌, ℕ, ◌<◌, ◌≤◌, List, [], length, map, get_or, sym, ap, ◌∙◌, arith}
use Rattle.std.proofs.lemmas.List.{get_or-map, get_or_default, length-map}
use Rattle.die_sim.specs.declared.image.Binding.{Binding}
use Rattle.plan_rows.specs.Rows.{sites_of}
use Rattle.lot_plan.specs.declared.bound_die.BoundDie.{BoundDie}
use Rattle.lot_plan.specs.Bound.{Bound, no_circuit, binding_to, binding_of, file_of}
use Rattle.lot_plan.specs.Refusal.{IsBound}
use Rattle.lot_plan.specs.Stored.{AreStored}
use Rattle.lot_plan.proofs.PlanLemmas.{length-dies_at}

-- a site in store has at most 4,096 dies
pub stored_dies-within : (b : Bound) (sites : List (List BoundDie)) (site : ℕ) (item : List BoundDie) → IsBound b →
    AreStored b sites →
    site < sites_of b.rows → item ≡ get_or sites site item → length item ≤ 4096
stored_dies-within b sites site item bound stored within is =
    let there : site < length sites = omega (arith, stored.count) in
    let same : length item ≡ length (get_or sites site []) = ap length (is ∙ get_or_default sites site item [] there) in
    omega (arith, same, stored.dies site there, length-dies_at b.rows site bound.kept)

-- the binding that is stored at a die's file
pub stored_binding : {A : Type 0} (f : A → Binding) (b : Bound) (bindings : List A) (site die file : ℕ) (item : A) →
    map f bindings ≡ map (binding_to b) b.circuits → file ≡ file_of b.rows site die → file < length b.circuits →
    item ≡ get_or bindings file item → f item ≡ binding_of b site die
stored_binding f b bindings site die file item all at there is =
    let within : file < length bindings = omega (
      arith,
      there,
      sym (length-map bindings f) ∙ ap length all
          ∙ length-map b.circuits (binding_to b),
    ) in
    ap f is
    ∙ sym (get_or-map f bindings file item (binding_to b no_circuit) within)
    ∙ ap (λ (bs : List Binding). get_or bs file (binding_to b no_circuit)) all
    ∙ get_or-map (binding_to b) b.circuits file no_circuit (binding_to b no_circuit) there
    ∙ ap (λ k. binding_to b (get_or b.circuits k no_circuit)) at
