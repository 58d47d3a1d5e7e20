-- Binds that were found one after another are sound: each drives an input or shows a net, and no input is driven twice.
use Rattle.std.proofs.Common.{◌≡◌, ℕ, suc, zero, ◌<◌, ◌≤◌, Bool, true, false, ◌||◌, List, [], ◌∷◌, ◌++◌, length, get_or, Option, Some, None, Result, Ok, Err, refl, sym, ap, ◌∙◌, subst, arith, inl, inr, length-append}
use Rattle.std.specs.Option.{option_map_or}
use Rattle.std.proofs.lemmas.Bool.{cases_lt, eq-eqb}
use Rattle.std.proofs.lemmas.List.{get_or_append_left, get_or_at}
use Rattle.std.proofs.lemmas.Option.{slice_get-get_or}
use Rattle.std.proofs.Math.Bool.{or-true}
use Rattle.bench_net.specs.Circuit.{Circuit, IsWhole}
use Rattle.bench_net.specs.Wiring.{driver_at}
use Rattle.bench_net.specs.declared.gate.Driver.{Driver}
use Rattle.bench_net.specs.declared.gate.Driver.TheVariants as driver
use Rattle.die_sim.specs.Die.{bind_at, IsNetBind}
use Rattle.die_sim.specs.declared.image.Bind.{Bind}
use Rattle.die_sim.specs.declared.image.Bind.TheVariants as bind
use Rattle.lot_plan.specs.Needs.{PinNeed}
use Rattle.lot_plan.specs.Binds.{is_open, is_input, drives, bind_to, is_driven, bound_or, binds_from, binds_of, unbound_in, list_of}
use Rattle.lot_plan.proofs.BindLemmas.{Fits, bind_to-fits, is_input-within, is_output-within}

-- binds to nets of a circuit, no two of which drive one input
pub record AreWired (c : Circuit) (binds : List Bind) : Type 0 where
  pub each : (s : ℕ) → s < length binds → IsNetBind c.net.drivers (bind_at binds s)
  pub one : (s t n : ℕ) → s < length binds → t < length binds → bind_at binds s ≡ bind.Input n →
      bind_at binds t ≡ bind.Input n → s ≡ t

open-input : (d : Driver) → is_open d ≡ true → d ≡ driver.Input
open-input driver.Input is = refl
open-input (driver.Dff d) is = cc
open-input (driver.Gate kind pins) is = cc

-- an input is an input
input-is : (c : Circuit) (n : ℕ) → is_input c n ≡ true → driver_at c.net.drivers n ≡ driver.Input
input-is c n is =
    let within = is_input-within c n is in
    open-input (get_or c.net.drivers n driver.Input)
    (sym (ap (λ o. option_map_or is_open o false) (slice_get-get_or c.net.drivers n driver.Input within)) ∙ is)

fits-net : (c : Circuit) (driven : ℕ → Bool) (b : Bind) → IsWhole c → Fits c driven b → IsNetBind c.net.drivers b
fits-net c driven bind.Free whole fits = tt
fits-net c driven (bind.Input n) whole fits = (is_input-within c n fits.0, input-is c n fits.0)
fits-net c driven (bind.Output n) whole fits =
    let within = is_output-within c n fits in
    let same : n < length c.net.drivers = omega (arith, within, whole.outputs, whole.drivers) in same

-- where a signal drives a net, the net is driven
driven-at : (before : List Bind) (s n : ℕ) → s < length before → bind_at before s ≡ bind.Input n → is_driven before n ≡ true
driven-at [] s n within at = absurd (omega (arith, within))
driven-at (b ∷ bs) zero n within at = ap (λ x. drives n x || is_driven bs n) at
    ∙ ap (λ x. x || is_driven bs n) (eq-eqb n n refl)
driven-at (b ∷ bs) (suc s) n within at =
    let rest : is_driven bs n ≡ true = driven-at bs s n (omega (arith, within)) at in
    ap (λ x. drives n b || x) rest ∙ or-true (drives n b)

left-at : (before : List Bind) (b : Bind) (s : ℕ) → s < length before → bind_at (before ++ b ∷ []) s ≡ bind_at before s
left-at before b s within = get_or_append_left before (b ∷ []) bind.Free s within

last-at : (before : List Bind) (b : Bind) (s : ℕ) → s < length (before ++ b ∷ []) → length before ≤ s →
    (bind_at (before ++ b ∷ []) s ≡ b) × (s ≡ length before)
last-at before b s within past =
    let same : length before ≡ s = omega (arith, within, past, length-append before (b ∷ [])) in
    (get_or_at before b [] bind.Free s same, sym same)

-- an input that is driven can't be given again
not_again : (c : Circuit) (before : List Bind) (b : Bind) (s n : ℕ) → Fits c (is_driven before) b → s < length before →
    bind_at before s ≡ bind.Input n →
    b ≡ bind.Input n → ⊥
not_again c before b s n fits within at is =
    let free : is_driven before n ≡ false = (subst (Fits c (is_driven before)) is fits).1 in
    let taken : is_driven before n ≡ true = driven-at before s n within at in
    let both : true ≡ false = sym taken ∙ free in cc

-- one more bind that fits
wired-push : (c : Circuit) (before : List Bind) (b : Bind) → IsWhole c → AreWired c before → Fits c (is_driven before) b →
    AreWired c (before ++ b ∷ [])
wired-push c before b whole wired fits = record {
  each = λ s within. elim (cases_lt s (length before)) [
    | inl h ↦ subst (IsNetBind c.net.drivers) (sym (left-at before b s h)) (wired.each s h)
    | inr h ↦ subst (IsNetBind c.net.drivers) (sym (last-at before b s within h).0) (fits-net c (is_driven before) b whole fits)
  ];
  one = λ s t n s_within t_within s_at t_at. elim (cases_lt s (length before)) [
    | inl h ↦ elim (cases_lt t (length before)) [
      | inl k ↦ wired.one s t n h k (sym (left-at before b s h) ∙ s_at) (sym (left-at before b t k) ∙ t_at)
      | inr k ↦ absurd (not_again c before b s n fits h (sym (left-at before b s h)
          ∙ s_at) (sym (last-at before b t t_within k).0 ∙ t_at))
    ]
    | inr h ↦ elim (cases_lt t (length before)) [
      | inl k ↦ absurd (not_again c before b t n fits k (sym (left-at before b t k)
          ∙ t_at) (sym (last-at before b s s_within h).0 ∙ s_at))
      | inr k ↦ (last-at before b s s_within h).1 ∙ sym (last-at before b t t_within k).1
    ]
  ];
}

wired-next : (c : Circuit) (w : PinNeed) (needs : List PinNeed) (before binds : List Bind) (o : Option Bind) →
    bind_to c (is_driven before) w.role w.net ≡ o →
    ((b : Bind) → Fits c (is_driven before) b → binds_from c (before ++ b ∷ []) needs ≡ Ok binds → AreWired c binds) →
    bound_or w.name o (λ b. binds_from c (before ++ b ∷ []) needs) ≡ Ok binds → AreWired c binds
wired-next c w needs before binds None found rest is = cc
wired-next c w needs before binds (Some b) found rest is = rest b (bind_to-fits c (is_driven before) w.role w.net b found) is

wired-from : (c : Circuit) (needs : List PinNeed) (before binds : List Bind) → IsWhole c → AreWired c before →
    binds_from c before needs ≡ Ok binds → AreWired c binds
wired-from c [] before binds whole wired is = let same : before ≡ binds = cc in subst (AreWired c) same wired
wired-from c (w ∷ needs) before binds whole wired is =
    wired-next c w needs before binds (bind_to c (is_driven before) w.role w.net) refl
    (λ b fits next. wired-from c needs (before ++ b ∷ []) binds whole (wired-push c before b whole wired fits) next) is

ok-list : (r : Result (List Bind) (List ℕ)) → unbound_in r ≡ None → r ≡ Ok (list_of r)
ok-list (Ok binds) is = refl
ok-list (Err name) is = cc

-- the binds of a circuit that leaves no signal unbound
pub wired : (c : Circuit) (needs : List PinNeed) → IsWhole c → unbound_in (binds_of c needs) ≡ None →
    AreWired c (list_of (binds_of c needs))
wired c needs whole bound =
    wired-from c needs [] (list_of (binds_of c needs)) whole
    (record {
      each = λ s within. absurd (omega (arith, within));
      one = λ s t n s_within t_within s_at t_at. absurd (omega (arith, s_within));
    })
    (ok-list (binds_of c needs) bound)
