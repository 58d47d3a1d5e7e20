-- The states in which moments are judged are those, and no others, that a die goes through step by step.
use Rattle.std.proofs.Common.{◌≡◌, List, [], ◌∷◌, length, map, refl, sym, ap, ◌∙◌, subst}
use Rattle.std.specs.Prelude.{◌↔◌, zip}
use Rattle.tester_types.specs.declared.cycle.Moment.{Moment}
use Rattle.bench_net.specs.Circuit.{IsWhole}
use Rattle.die_sim.specs.Die.{Device, State}
use Rattle.die_sim.specs.Stepped.{stepped}
use Rattle.die_sim.proofs.SteppedLemmas.{step_is_stepped, length-step}
use Rattle.strobe_check.specs.Entry.{Entry}
use Rattle.site_meaning.specs.Playing.{Along, Whose, priors_after, driven, after_moment, entry_of, entries_in}
use Rattle.site_meaning.specs.Steps.{GoesThrough, states_in, judged_of}

-- a state has a level for each net
abbrev pub HasSize : Device → State → Type 0
HasSize device state = length state.held ≡ length device.circuit.net.drivers

-- the next state has one too
next_size : (device : Device) (along : Along) (moment : Moment) → IsWhole device.circuit → HasSize device along.die
    → HasSize device (after_moment device along moment).die
next_size device along moment whole size =
    let drives = driven device along.priors moment in
    let step = (step_is_stepped device along.die (stepped device along.die drives) drives whole size).1 refl in
    length-step device along.die (stepped device along.die drives) drives step ∙ size

-- the die goes through these states
goes_through : (device : Device) (along : Along) (moments : List Moment) → IsWhole device.circuit → HasSize device along.die
    → GoesThrough device along moments (states_in device along moments)
unfolding states_in
goes_through device along [] whole size = tt
goes_through device along (moment ∷ later) whole size =
    let drives = driven device along.priors moment in (
      (step_is_stepped device along.die (stepped device along.die drives) drives whole size).1 refl,
      goes_through device (after_moment device along moment) later whole (next_size device along moment whole size),
    )

-- it goes through no others
only_these : (device : Device) (along : Along) (moments : List Moment) (states : List State) → IsWhole device.circuit
    → HasSize device along.die → GoesThrough device along moments states → states ≡ states_in device along moments
unfolding states_in
only_these device along [] [] whole size goes = refl
only_these device along [] (next ∷ states) whole size goes = absurd goes
only_these device along (moment ∷ later) [] whole size goes = absurd goes
only_these device along (moment ∷ later) (next ∷ states) whole size goes =
    let drives = driven device along.priors moment in
    let is = (step_is_stepped device along.die next drives whole size).0 goes.0 in
    let rest = only_these device (record { die = next; priors = priors_after along.priors moment }) later states whole
    (length-step device along.die next drives goes.0 ∙ size) goes.1 in
    ap (λ (l : List State). next ∷ l) rest
    ∙ ap (λ (s : State). s ∷ states_in device (record { die = s; priors = priors_after along.priors moment }) later) is

pub goes_through_these : (device : Device) (along : Along) (moments : List Moment) (states : List State) → IsWhole device.circuit
    → length along.die.held ≡ length device.circuit.net.drivers
    → GoesThrough device along moments states ↔ (states ≡ states_in device along moments)
goes_through_these device along moments states whole size = (
  only_these device along moments states whole size,
  λ e. subst (GoesThrough device along moments) (sym e) (goes_through device along moments whole size),
)

-- entries are moments with these states
pub entries_are : (device : Device) (whose : Whose) (along : Along) (moments : List Moment)
    → entries_in device whose along moments
    ≡ map (judged_of device whose) (zip moments (states_in device along moments))
unfolding entries_in states_in
entries_are device whose along [] = refl
entries_are device whose along (moment ∷ later) =
    ap (λ (l : List Entry). entry_of device whose moment (after_moment device along moment).die ∷ l)
    (entries_are device whose (after_moment device along moment) later)
