-- The drives that a die gets at a moment: they rise, and each is of a signal that can be driven.
use Rattle.std.proofs.Common.{◌≡◌, ℕ, zero, suc, ◌+◌, ◌<◌, Bool, true, false, cond, List, [], ◌∷◌, length, get_or, map, filter, Option, Some, refl, sym, ap, ◌∙◌, subst, arith, inl, inr}
use Rattle.std.specs.Prelude.{◌⊎◌}
use Rattle.std.specs.List.{AllByRecursion}
use Rattle.std.proofs.lemmas.Bool.{or_cases}
use Rattle.text_bytes.proofs.ListLemmas.{all_filter}
use Rattle.tester_types.specs.declared.wave.Push.{Push}
use Rattle.tester_types.specs.declared.level.Drive.{Drive}
use Rattle.tester_types.specs.declared.cycle.Moment.{Moment}
use Rattle.die_sim.specs.declared.image.Bind.{Bind}
use Rattle.die_sim.specs.declared.image.Bind.TheVariants as bind
use Rattle.die_sim.specs.Die.{Device, bind_at, is_clock, is_input}
use Rattle.die_sim.specs.Moment.{AreDrives, IsInputBind}
use Rattle.die_sim.specs.Socket.{CanDrive}
use Rattle.site_meaning.specs.Playing.{handed, is_driven, driven}
use Rattle.cycle_run.specs.Step.{Rises, IsMomentOf}

-- ---- elements of lists

pub all_at : {X : Type 0} (P : X → Type 0) (xs : List X) → AllByRecursion P xs → (k : ℕ) (d : X) → k < length xs
    → P (get_or xs k d)
all_at P [] all k d within = absurd (omega (arith, within))
all_at P (x ∷ xs) all zero d within = all.0
all_at P (x ∷ xs) all (suc k) d within = all_at P xs all.1 k d (omega (arith, within))

-- what passes a test passes it
all_passed : {X : Type 0} (p : X → Bool) (xs : List X) → AllByRecursion (λ x. p x ≡ true) (filter p xs)
all_passed p [] = tt
all_passed {X} p (x ∷ xs) = by (p x) refl (all_passed p xs)
  where
    by : (b : Bool) → p x ≡ b → AllByRecursion (λ y. p y ≡ true) (filter p xs)
        → AllByRecursion (λ y. p y ≡ true) (cond b (x ∷ filter p xs) (filter p xs))
    by true is rest = (is, rest)
    by false is rest = rest

rises_filtered : {A : Type 0} (p : ℕ × A → Bool) (xs : List (ℕ × A)) → Rises xs → Rises (filter p xs)
rises_filtered p [] rises = tt
rises_filtered {A} p (x ∷ xs) rises = by (p x) (rises_filtered p xs rises.1)
  where
    by : (b : Bool) → Rises (filter p xs) → Rises (cond b (x ∷ filter p xs) (filter p xs))
    by true rest = (all_filter (λ (next : ℕ × A). x.0 < next.0) p xs rises.0, rest)
    by false rest = rest

one_more : (k : ℕ) → suc k + 1 ≡ suc (k + 1)
one_more k = omega arith

rises_at : {A : Type 0} (xs : List (ℕ × A)) → Rises xs → (k : ℕ) (a b : ℕ × A) → k + 1 < length xs
    → (get_or xs k a).0 < (get_or xs (k + 1) b).0
rises_at [] rises k a b within = absurd (omega (arith, within))
rises_at (x ∷ []) rises k a b within = absurd (omega (arith, within))
rises_at (x ∷ y ∷ xs) rises zero a b within = rises.0.0
rises_at (x ∷ y ∷ xs) rises (suc k) a b within =
    subst (λ (n : ℕ). (get_or (y ∷ xs) k a).0 < (get_or (x ∷ y ∷ xs) n b).0) (sym (one_more k))
    (rises_at (y ∷ xs) rises.1 k a b (omega (arith, within)))

-- ---- the drives that the die gets

all_below_handed : (n : ℕ) (priors : List Drive) (xs : List (ℕ × Push)) → AllByRecursion (λ next. n < next.0) xs
    → AllByRecursion (λ next. n < next.0) (map (handed priors) xs)
all_below_handed n priors [] all = tt
all_below_handed n priors (x ∷ xs) all = (all.0, all_below_handed n priors xs all.1)

rises_handed : (priors : List Drive) (xs : List (ℕ × Push)) → Rises xs → Rises (map (handed priors) xs)
rises_handed priors [] rises = tt
rises_handed priors (x ∷ xs) rises = (all_below_handed x.0 priors xs rises.0, rises_handed priors xs rises.1)

driven_handed : (device : Device) (priors : List Drive) (xs : List (ℕ × Push))
    → AllByRecursion (λ x. is_driven device x.0 ≡ true) xs
    → AllByRecursion (λ x. is_driven device x.0 ≡ true) (map (handed priors) xs)
driven_handed device priors [] all = tt
driven_handed device priors (x ∷ xs) all = (all.0, driven_handed device priors xs all.1)

input_bound : (b : Bind) → is_input b ≡ true → IsInputBind b
input_bound bind.Free e = cc
input_bound (bind.Input n) e = tt
input_bound (bind.Output n) e = cc

can_be_driven : (device : Device) (signal : ℕ) → is_driven device signal ≡ true
    → (is_clock device.clock signal ≡ true) ⊎ IsInputBind (bind_at device.binds signal)
can_be_driven device signal e =
    elim (or_cases (is_clock device.clock signal) (is_input (bind_at device.binds signal)) e) [
      | inl clock ↦ inl clock
      | inr input ↦ inr (input_bound (bind_at device.binds signal) input)
    ]

-- they rise, and their signals can be driven
driven_are_drives : (device : Device) (priors : List Drive) (moment : Moment) → Rises moment.drives
    → AreDrives device (driven device priors moment)
driven_are_drives device priors moment rises =
    let test = λ (x : ℕ × Push). is_driven device x.0 in
    record {
      rising = rises_at (driven device priors moment)
          (rises_handed priors (filter test moment.drives) (rises_filtered test moment.drives rises));
      each = λ k a within. can_be_driven device (get_or (driven device priors moment) k a).0
          (all_at (λ (x : ℕ × Drive). is_driven device x.0 ≡ true) (driven device priors moment)
          (driven_handed device priors (filter test moment.drives) (all_passed test moment.drives)) k a within);
    }

-- the loaded die can be driven by them
pub can_drive : (device : Device) (loaded : Option Device) (priors : List Drive) (moment : Moment) (drives : List (ℕ × Drive))
    (signals : ℕ)
    → loaded ≡ Some device → drives ≡ driven device priors moment → IsMomentOf signals moment → CanDrive loaded drives
can_drive device loaded priors moment drives signals is are of =
    subst (λ (o : Option Device). CanDrive o drives) (sym is)
    (subst (λ (l : List (ℕ × Drive)). CanDrive (Some device) l) (sym are) (driven_are_drives device priors moment of.rising))

-- the drives that were collected are those of the moment
pub hands_over : (device : Device) (moment : Moment) {last last' : List Drive} {given : List (ℕ × Push)} {drives : List (ℕ × Drive)}
    → last ≡ last' → given ≡ moment.drives
    → drives ≡ map (handed last) (filter (λ x. is_driven device x.0) given) → drives ≡ driven device last' moment
hands_over device moment {last' = l} {given = g} a b e =
    e ∙ ap (λ (p : List Drive). map (handed p) (filter (λ (x : ℕ × Push). is_driven device x.0) g)) a
    ∙ ap (λ (x : List (ℕ × Push)). map (handed l) (filter (λ (y : ℕ × Push). is_driven device y.0) x)) b
