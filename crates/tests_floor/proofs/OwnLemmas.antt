-- The binding of the tests: an image with it is sound, and drives of inputs and the clock are drives of its die.
use Rattle.std.proofs.Common.{◌≡◌, ℕ, ◌+◌, ◌<◌, ◌≤◌, ◌⊎◌, Bool, true, false, cond, Some, List, length, get_or, take, refl, sym, ap, ◌∙◌, subst, arith, inl, inr}
use Rattle.std.proofs.lemmas.List.{get_or-take, length-take-le, get_or_default}
use Rattle.std.proofs.lemmas.Bool.{cases_Bool, cases_eq}
use Rattle.tester_types.specs.declared.level.Drive.{Drive}
use Rattle.bench_net.specs.declared.gate.Driver.{Driver}
use Rattle.bench_net.specs.declared.gate.Driver.TheVariants.{Input, Dff, Gate}
use Rattle.bench_net.specs.Wiring.{driver_at}
use Rattle.bench_net.specs.Circuit.{Circuit}
use Rattle.die_sim.specs.declared.image.Bind.{Bind}
use Rattle.die_sim.specs.declared.image.Bind.TheVariants as bind
use Rattle.die_sim.specs.declared.image.StuckAt.{StuckAt}
use Rattle.die_sim.specs.Die.{Image, Device, device_of, bind_at, is_clock, IsNetBind, IsSound, IsBoundTo}
use Rattle.tests_floor.specs.Own.{is_input, own_bind, AreOwn, IsOwnImage, IsOwnDevice, AreOwnDrives}

input_driver : (d : Driver) → is_input d ≡ true → d ≡ Input
input_driver Input e = refl
input_driver (Dff p) e = cc
input_driver (Gate kind pins) e = cc

module _ (drivers : List Driver) (n : ℕ) where
  own_input : is_input (driver_at drivers n) ≡ true → own_bind drivers n ≡ bind.Input n
  own_input e = ap (λ (b : Bool). cond b (bind.Input n) (bind.Output n)) e

  own_output : is_input (driver_at drivers n) ≡ false → own_bind drivers n ≡ bind.Output n
  own_output e = ap (λ (b : Bool). cond b (bind.Input n) (bind.Output n)) e

  own_net : n < length drivers → IsNetBind drivers (own_bind drivers n)
  own_net l = elim (cases_Bool (is_input (driver_at drivers n))) [
    | inl e ↦ subst (λ (b : Bind). IsNetBind drivers b) (sym (own_input e)) (l, input_driver (driver_at drivers n) e)
    | inr e ↦ subst (λ (b : Bind). IsNetBind drivers b) (sym (own_output e)) l
  ]

  own_bound : IsBoundTo (own_bind drivers n)
  own_bound = elim (cases_Bool (is_input (driver_at drivers n))) [
    | inl e ↦ subst (λ (b : Bind). IsBoundTo b) (sym (own_input e)) tt
    | inr e ↦ subst (λ (b : Bind). IsBoundTo b) (sym (own_output e)) tt
  ]

  -- what drives a net drives its own
  own_itself : (m : ℕ) → own_bind drivers n ≡ bind.Input m → n ≡ m
  own_itself m q = elim (cases_Bool (is_input (driver_at drivers n))) [
    | inl e ↦ let p : bind.Input n ≡ bind.Input m = sym (own_input e) ∙ q in cc
    | inr e ↦ let p : bind.Output n ≡ bind.Input m = sym (own_output e) ∙ q in cc
  ]

-- the image is sound
pub IsSound-own : (i : Image) → AreOwn i.circuit.net.drivers i.binds (length i.circuit.net.drivers)
    → length i.faults ≤ 1 → ((d : StuckAt) → 0 < length i.faults
    → (get_or i.faults 0 d).net < length i.circuit.net.drivers) → IsSound i
IsSound-own i own one fault = record {
  bound = λ s l. let b : s < length i.circuit.net.drivers = omega (arith, l, own.count) in
      subst (λ (x : Bind). IsNetBind i.circuit.net.drivers x) (sym (own.each s b)) (own_net i.circuit.net.drivers s b);
  one_driver = λ s t n sl tl a b.
      let x = own_itself i.circuit.net.drivers s n (sym (own.each s (omega (arith, sl, own.count))) ∙ a) in
      let y = own_itself i.circuit.net.drivers t n (sym (own.each t (omega (arith, tl, own.count))) ∙ b) in
      x ∙ sym y;
  faults = λ k d l. let z : k ≡ 0 = omega (arith, l, one) in
      subst (λ (j : ℕ). (get_or i.faults j d).net < length i.circuit.net.drivers) (sym z) (fault d (omega (arith, l)));
  one_fault = λ k l d e kl ll q. omega (arith, kl, ll, one);
}

-- each net's signal shows it
pub bound_own : (c : Circuit) (clock : ℕ) (d : Device) → IsOwnDevice c clock d → (n : ℕ) → n < length c.net.drivers → IsBoundTo (bind_at d.binds n)
bound_own c clock d h n l = subst (λ (b : Bind). IsBoundTo b) (sym (h.own.each n l)) (own_bound c.net.drivers n)

-- the die that an image with this binding gives has it too
pub IsOwnDevice-of : (number : ℕ) (i : Image) → IsOwnImage number i → IsOwnDevice i.circuit number (device_of i)
IsOwnDevice-of number i h = record { circuit = refl; clock = h.clock; own = h.own }

pub bound_of : (number : ℕ) (i : Image) → IsOwnImage number i → (n : ℕ) → n < length i.circuit.net.drivers → IsBoundTo (bind_at (device_of i).binds n)
bound_of number i h n l = bound_own i.circuit number (device_of i) (IsOwnDevice-of number i h) n l

-- one more drive fits
pub AreOwnDrives-more : (drivers : List Driver) (clock : ℕ) (drives : List (ℕ × Drive)) (place : ℕ) (d : ℕ × Drive) → place < length drives
    → (is_clock (Some clock) (get_or drives place d).0 ≡ true)
    ⊎ (((get_or drives place d).0 < length drivers) × (is_input (driver_at drivers (get_or drives place d).0) ≡ true))
    → ((k : ℕ) (a b : ℕ × Drive) → k + 1 ≡ place → (get_or drives k a).0 < (get_or drives place b).0)
    → AreOwnDrives drivers clock (take place drives) → AreOwnDrives drivers clock (take (place + 1) drives)
AreOwnDrives-more drivers clock drives place d l fits behind h = record {
  rising = λ k a b kl. rising k a b (omega (arith, kl, length-take-le (place + 1) drives (omega arith)));
  each = λ k a kl. each k a (omega (arith, kl, length-take-le (place + 1) drives (omega arith)));
}
  where
    front : (k : ℕ) (a : ℕ × Drive) → k < place → get_or (take (place + 1) drives) k a ≡ get_or (take place drives) k a
    front k a b = get_or-take (place + 1) drives k a (omega arith) ∙ sym (get_or-take place drives k a b)

    rising : (k : ℕ) (a b : ℕ × Drive) → k + 1 < place + 1 → (get_or (take (place + 1) drives) k a).0 < (get_or (take (place + 1) drives) (k + 1) b).0
    rising k a b kl = elim (cases_eq (k + 1) place) [
      | inl q ↦ omega (arith, behind k a b q, ap (λ (e : ℕ × Drive). e.0) (get_or-take (place + 1) drives k a (omega arith)), ap (λ (e : ℕ × Drive). e.0) (get_or-take (place + 1) drives (k + 1) b kl), ap (λ (i : ℕ). (get_or drives i b).0) q)
      | inr ne ↦
          let inside : k + 1 < place = omega (arith, kl, ne) in
          omega (arith, h.rising k a b (omega (arith, inside, length-take-le place drives (omega arith))), ap (λ (e : ℕ × Drive). e.0) (front k a (omega arith)), ap (λ (e : ℕ × Drive). e.0) (front (k + 1) b inside))
    ]

    each : (k : ℕ) (a : ℕ × Drive) → k < place + 1
        → (is_clock (Some clock) (get_or (take (place + 1) drives) k a).0 ≡ true)
        ⊎ (((get_or (take (place + 1) drives) k a).0 < length drivers)
        × (is_input (driver_at drivers (get_or (take (place + 1) drives) k a).0) ≡ true))
    each k a kl = elim (cases_eq k place) [
      | inl q ↦ subst (λ (e : ℕ × Drive). (is_clock (Some clock) e.0 ≡ true) ⊎ ((e.0 < length drivers) × (is_input (driver_at drivers e.0) ≡ true)))
          (get_or_default drives place d a l ∙ ap (λ (i : ℕ). get_or drives i a) (sym q) ∙ sym (get_or-take (place + 1) drives k a kl)) fits
      | inr ne ↦
          let inside : k < place = omega (arith, kl, ne) in
          subst (λ (e : ℕ × Drive). (is_clock (Some clock) e.0 ≡ true) ⊎ ((e.0 < length drivers) × (is_input (driver_at drivers e.0) ≡ true))) (sym (front k a inside))
          (h.each k a (omega (arith, inside, length-take-le place drives (omega arith))))
    ]
