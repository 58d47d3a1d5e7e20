-- An image with one signal, which drives the first net.
use Rattle.std.proofs.Common.{◌≡◌, ℕ, zero, suc, ◌<◌, ◌⊎◌, List, [], ◌∷◌, length, get_or, true, sym, ap, subst, arith, inr}
use Rattle.tester_types.specs.declared.level.Drive.{Drive}
use Rattle.bench_net.specs.declared.gate.Driver.TheVariants.{Input}
use Rattle.bench_net.specs.Wiring.{driver_at}
use Rattle.die_sim.specs.declared.image.Bind.{Bind}
use Rattle.die_sim.specs.declared.image.Bind.TheVariants as bind
use Rattle.die_sim.specs.declared.image.StuckAt.{StuckAt}
use Rattle.die_sim.specs.Die.{Image, Device, bind_at, is_clock, IsNetBind, IsSound}
use Rattle.die_sim.specs.Moment.{AreDrives, IsInputBind}

-- it is sound
pub IsSound-one : (i : Image) → i.binds ≡ bind.Input 0 ∷ [] → i.faults ≡ [] → 0 < length i.circuit.net.drivers
    → driver_at i.circuit.net.drivers 0 ≡ Input → IsSound i
IsSound-one i binds faults some input = record {
  bound = λ s l.
      let z : s ≡ 0 = omega (arith, l, ap (λ (b : List Bind). length b) binds) in
      subst (λ (b : List Bind). IsNetBind i.circuit.net.drivers (bind_at b s)) (sym binds) (subst (λ (k : ℕ). IsNetBind i.circuit.net.drivers (bind_at (bind.Input 0 ∷ []) k)) (sym z) (some, input));
  one_driver = λ s t n sl tl a b. omega (arith, sl, tl, ap (λ (l : List Bind). length l) binds);
  faults = λ k d l. absurd (omega (arith, l, ap (λ (f : List StuckAt). length f) faults));
  one_fault = λ k l d e kl. absurd (omega (arith, kl, ap (λ (f : List StuckAt). length f) faults));
}

one_each : (device : Device) (d : Drive) → bind_at device.binds 0 ≡ bind.Input 0 → (k : ℕ) (a : ℕ × Drive) → k < 1
    → (is_clock device.clock (get_or ((0, d) ∷ []) k a).0 ≡ true)
    ⊎ IsInputBind (bind_at device.binds (get_or ((0, d) ∷ []) k a).0)
one_each device d h zero a l = inr (subst (λ (b : Bind). IsInputBind b) (sym h) tt)
one_each device d h (suc k) a l = absurd (omega (arith, l))

-- a drive of that signal fits
pub AreDrives-one : (device : Device) (d : Drive) → bind_at device.binds 0 ≡ bind.Input 0 → AreDrives device ((0, d) ∷ [])
AreDrives-one device d h = record {
  rising = λ k a b l. absurd (omega (arith, l));
  each = one_each device d h;
}
