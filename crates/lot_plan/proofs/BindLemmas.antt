-- How signals are bound one after another: each bind fits, and no input is driven twice.
use Rattle.std.proofs.Common.{◌≡◌, ℕ, ◌<◌, Bool, true, false, not, ◌||◌, ◌&&◌, cond, List, [], ◌∷◌, ◌++◌, length, get_or, map, Option, Some, None, Result, Ok, refl, sym, ap, ◌∙◌, subst, arith, inl, inr}
use Rattle.std.specs.Prelude.{◌⊎◌, unwrap_or, All}
use Rattle.std.specs.Option.{option_map_or, option_map, option_or}
use Rattle.std.proofs.lemmas.Bool.{cases_Bool, cases_lt}
use Rattle.std.proofs.lemmas.Option.{slice_get_past}
use Rattle.std.proofs.lemmas.List.{get_or_past, append_assoc}
use Rattle.std.proofs.lemmas.List.Folds.{list_any-append}
use Rattle.bench_net.specs.Circuit.{Circuit, number, IsWhole}
use Rattle.die_sim.specs.declared.image.Bind.{Bind}
use Rattle.die_sim.specs.declared.image.Bind.TheVariants as bind
use Rattle.plan_rows.specs.declared.fault.PlanFault.{PlanFault}
use Rattle.plan_rows.specs.declared.fault.PlanFault.TheVariants as refused
use Rattle.lot_plan.specs.declared.pin.Pin.{Pin}
use Rattle.lot_plan.specs.declared.pin.Role.{Role}
use Rattle.lot_plan.specs.declared.pin.Role.TheVariants as role
use Rattle.lot_plan.specs.Needs.{PinNeed}
use Rattle.lot_plan.specs.Binds.{is_open, is_input, is_output, drives, as_input, as_output, bind_as, bind_to, is_driven, bound_or, binds_from, binds_of, list_of, unbound_in, IsMarkable, Marks}
use Rattle.lot_plan.specs.Refusal.{first_unbound, binding_by}
use Rattle.die_sim.specs.declared.image.Binding.{Binding}
use Rattle.std.proofs.lemmas.List.Elements.{All-cons}
use Rattle.std.proofs.Math.Bool.{or-false}

-- what a read past the last pin counts as
abbrev pub no_pin : Pin
no_pin = record { name = record { ref_ptr = (0, 0); now = [] }; role = role.Nothing; net = None }

-- two tests that agree everywhere are one
pub same_tests : (f g : ℕ → Bool) → ((n : ℕ) → f n ≡ g n) → f ≡ g
same_tests f g h = λ j n. h n j

-- a bind that fits its net
abbrev pub Fits : Circuit → (ℕ → Bool) → Bind → Type 0
Fits c driven bind.Free = Unit {0}
Fits c driven (bind.Input n) = (is_input c n ≡ true) × (driven n ≡ false)
Fits c driven (bind.Output n) = is_output c n ≡ true

as_input-fits : (c : Circuit) (driven : ℕ → Bool) (n : ℕ) (b : Bind) → as_input c driven n ≡ Some b → Fits c driven b
as_input-fits c driven n b is =
    elim (cases_Bool (is_input c n)) [
      | inl i ↦ elim (cases_Bool (driven n)) [
        | inl d ↦ let none : None ≡ Some b = sym (ap (λ x. cond (x && not (driven n)) (Some (bind.Input n)) None) i
            ∙ ap (λ x. cond (not x) (Some (bind.Input n)) None) d) ∙ is in absurd cc
        | inr d ↦ let some : Some (bind.Input n) ≡ Some b = sym
            (ap (λ x. cond (x && not (driven n)) (Some (bind.Input n)) None) i
            ∙ ap (λ x. cond (not x) (Some (bind.Input n)) None) d) ∙ is in
            let same : bind.Input n ≡ b = cc in
            subst (Fits c driven) same (i, d)
      ]
      | inr i ↦ let none : None ≡ Some b = sym (ap (λ x. cond (x && not (driven n)) (Some (bind.Input n)) None) i)
          ∙ is in absurd cc
    ]

as_output-fits : (c : Circuit) (driven : ℕ → Bool) (n : ℕ) (b : Bind) → as_output c n ≡ Some b → Fits c driven b
as_output-fits c driven n b is =
    elim (cases_Bool (is_output c n)) [
      | inl i ↦ let some : Some (bind.Output n) ≡ Some b = sym (ap (λ x. cond x (Some (bind.Output n)) None) i) ∙ is in
          let same : bind.Output n ≡ b = cc in
          subst (Fits c driven) same i
      | inr i ↦ let none : None ≡ Some b = sym (ap (λ x. cond x (Some (bind.Output n)) None) i) ∙ is in absurd cc
    ]

clock-fits : (c : Circuit) (driven : ℕ → Bool) (o : Option Bind) (b : Bind) → ((x : Bind) → o ≡ Some x → Fits c driven x) →
    Some (unwrap_or o bind.Free) ≡ Some b → Fits c driven b
clock-fits c driven None b fits is = let same : bind.Free ≡ b = cc in subst (Fits c driven) same tt
clock-fits c driven (Some x) b fits is = let same : x ≡ b = cc in subst (Fits c driven) same (fits x refl)

free-fits : (c : Circuit) (driven : ℕ → Bool) (b : Bind) → Some bind.Free ≡ Some b → Fits c driven b
free-fits c driven b is = let same : bind.Free ≡ b = cc in subst (Fits c driven) same tt

bind_as-fits : (c : Circuit) (driven : ℕ → Bool) (r : Role) (n : ℕ) (b : Bind) → bind_as c driven r n ≡ Some b → Fits c driven b
bind_as-fits c driven role.Nothing n b is = free-fits c driven b is
bind_as-fits c driven role.Clock n b is = clock-fits c driven (as_input c driven n) b (λ x. as_input-fits c driven n x) is
bind_as-fits c driven role.Input n b is = as_input-fits c driven n b is
bind_as-fits c driven role.Output n b is = as_output-fits c driven n b is
bind_as-fits c driven role.Either n b is =
    elim (cases_Bool (is_input c n)) [
      | inl i ↦ as_input-fits c driven n b (sym (ap (λ x. cond x (as_input c driven n) (as_output c n)) i) ∙ is)
      | inr i ↦ as_output-fits c driven n b (sym (ap (λ x. cond x (as_input c driven n) (as_output c n)) i) ∙ is)
    ]

-- a bind that was found fits
pub bind_to-fits : (c : Circuit) (driven : ℕ → Bool) (r : Role) (net : Option (List ℕ)) (b : Bind) →
    bind_to c driven r net ≡ Some b → Fits c driven b
bind_to-fits c driven r None b is = free-fits c driven b is
bind_to-fits c driven r (Some name) b is = bind_as-fits c driven r (number c.net.names name) b is

-- an input is a net
pub is_input-within : (c : Circuit) (n : ℕ) → is_input c n ≡ true → n < length c.net.drivers
is_input-within c n is =
    elim (cases_lt n (length c.net.drivers)) [
      | inl h ↦ h
      | inr h ↦ let none : false ≡ true = sym (ap (λ o. option_map_or is_open o false) (slice_get_past c.net.drivers n h))
          ∙ is in absurd cc
    ]

-- an output is a net
pub is_output-within : (c : Circuit) (n : ℕ) → is_output c n ≡ true → n < length c.net.outputs
is_output-within c n is =
    elim (cases_lt n (length c.net.outputs)) [
      | inl h ↦ h
      | inr h ↦ let none : false ≡ true = sym (get_or_past c.net.outputs n false h) ∙ is in absurd cc
    ]

markable : (c : Circuit) (driven : ℕ → Bool) (b : Bind) → IsWhole c → Fits c driven b → IsMarkable (length c.net.names) b
markable c driven bind.Free whole fits = tt
markable c driven (bind.Input n) whole fits = omega (arith, whole.drivers, is_input-within c n fits.0)
markable c driven (bind.Output n) whole fits = tt

-- the net of a bind that was found can be marked
pub is_markable : (c : Circuit) (driven : ℕ → Bool) (r : Role) (net : Option (List ℕ)) (b : Bind) (o : Option Bind)
    (nets : ℕ) → IsWhole c →
    nets ≡ length c.net.names → o ≡ bind_to c driven r net → o ≡ Some b → IsMarkable nets b
is_markable c driven r net b o nets whole count found is =
    subst (λ k. IsMarkable k b) (sym count) (markable c driven b whole (bind_to-fits c driven r net b (sym found ∙ is)))

-- a signal that can't be bound is the answer
pub stops_here : (c : Circuit) (driven : ℕ → Bool) (before : List Bind) (w : PinNeed) (needs : List PinNeed)
    (whole : Result (List Bind) (List ℕ)) (e : PlanFault) →
    driven ≡ is_driven before → binds_from c before (w ∷ needs) ≡ whole →
    (e ≡ refused.NoMemory) ⊎ ((bind_to c driven w.role w.net ≡ None) × (e ≡ refused.Unbound w.name)) →
    (e ≡ refused.NoMemory) ⊎ (option_map refused.Unbound (unbound_in whole) ≡ Some e)
stops_here c driven before w needs whole e same all (inl none) = inl none
stops_here c driven before w needs whole e same all (inr (none, is)) =
    inr (ap (λ r. option_map refused.Unbound (unbound_in r)) (sym all
    ∙ ap (λ t. bound_or w.name (bind_to c t w.role w.net) (λ b. binds_from c (before ++ b ∷ []) needs)) (sym same)
    ∙ ap (λ o. bound_or w.name o (λ b. binds_from c (before ++ b ∷ []) needs)) none)
    ∙ ap Some (sym is))

-- a signal that is bound leaves the rest
pub goes_on : (c : Circuit) (driven : ℕ → Bool) (before : List Bind) (w : PinNeed) (needs : List PinNeed)
    (whole : Result (List Bind) (List ℕ)) (b : Bind) →
    driven ≡ is_driven before → binds_from c before (w ∷ needs) ≡ whole → bind_to c driven w.role w.net ≡ Some b →
    binds_from c (before ++ b ∷ []) needs ≡ whole
goes_on c driven before w needs whole b same all found =
    sym (ap (λ t. bound_or w.name (bind_to c t w.role w.net) (λ b. binds_from c (before ++ b ∷ []) needs)) (sym same)
    ∙ ap (λ o. bound_or w.name o (λ b. binds_from c (before ++ b ∷ []) needs)) found) ∙ all

-- what is driven with one more bind
pub driven-more : (old new : List Bool) (before : List Bind) (b : Bind) (n : ℕ) → Marks old new b →
    get_or old n false ≡ is_driven before n →
    get_or new n false ≡ is_driven (before ++ b ∷ []) n
driven-more old new before b n marks is =
    marks.each n ∙ ap (λ x. x || drives n b) is ∙ ap (λ x. is_driven before n || x) (sym (or-false (drives n b)))
    ∙ sym (list_any-append (drives n) before (b ∷ []))

-- one more circuit is whole, and its signals are bound
pub whole-more : (rest : List Circuit) (c : Circuit) (all : List Circuit) → all ≡ c ∷ rest → IsWhole c → All IsWhole rest →
    All IsWhole all
whole-more rest c all is here behind = subst (All IsWhole) (sym is) (All-cons IsWhole c rest here behind)

bound_ok : (r : Result (List Bind) (List ℕ)) (binds : List Bind) (rest : Option (List ℕ)) → r ≡ Ok binds →
    option_or (unbound_in r) rest ≡ rest
bound_ok r binds rest is = ap (λ x. option_or (unbound_in x) rest) is

pub bound-more : (needs : List PinNeed) (rest : List Circuit) (c : Circuit) (all : List Circuit) (binds : List Bind)
    (whole : Option (List ℕ)) →
    all ≡ c ∷ rest → binds_of c needs ≡ Ok binds → first_unbound needs all ≡ whole → first_unbound needs rest ≡ whole
bound-more needs rest c all binds whole is found before =
    sym (bound_ok (binds_of c needs) binds (first_unbound needs rest) found) ∙ ap (first_unbound needs) (sym is) ∙ before

pub each-more : (clock : Option ℕ) (needs : List PinNeed) (made more : List Binding) (rest : List Circuit) (c : Circuit)
    (all : List Circuit)
    (binds : List Bind) (whole : List Binding) (binding : Binding) → all ≡ c ∷ rest → binds_of c needs ≡ Ok binds →
    binding ≡ record { clock = clock; nets = binds } → more ≡ made ++ binding ∷ [] →
    made ++ map (binding_by clock needs) all ≡ whole →
    more ++ map (binding_by clock needs) rest ≡ whole
each-more clock needs made more rest c all binds whole binding is found made_is put before =
    ap (λ m. m ++ map (binding_by clock needs) rest) put
    ∙ append_assoc made (binding ∷ []) (map (binding_by clock needs) rest)
    ∙ ap (λ b. made ++ b ∷ map (binding_by clock needs) rest)
    (made_is ∙ ap (λ r. record { clock = clock; nets = list_of r }) (sym found))
    ∙ ap (λ cs. made ++ map (binding_by clock needs) cs) (sym is)
    ∙ before
