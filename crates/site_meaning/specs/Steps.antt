-- The states of a die as it goes through moments: after each it is one step away from where it was before.
use Rattle.std.specs.Prelude.{List, [], ◌∷◌}
use Rattle.tester_types.specs.declared.cycle.Moment.{Moment}
use Rattle.die_sim.specs.Die.{Device, State}
use Rattle.die_sim.specs.Moment.{IsStep}
use Rattle.strobe_check.specs.Entry.{Entry}
use Rattle.site_meaning.specs.Playing.{Along, Whose, priors_after, driven, after_moment, entry_of}

-- a die with the last Down or Up of each signal goes through moments, and is in one state after each
abbrev pub GoesThrough : Device → Along → List Moment → List State → Type 0
GoesThrough device along [] [] = Unit {0}
GoesThrough device along [] (next ∷ states) = ⊥
GoesThrough device along (moment ∷ later) [] = ⊥
GoesThrough device along (moment ∷ later) (next ∷ states) =
    IsStep device along.die next (driven device along.priors moment)
    × GoesThrough device (record { die = next; priors = priors_after along.priors moment }) later states

-- the states in which the moments of a cycle that is played are judged
unfoldable pub states_in : Device → Along → List Moment → List State
states_in device along [] = []
states_in device along (moment ∷ later) =
    (after_moment device along moment).die ∷ states_in device (after_moment device along moment) later

-- a moment as it is judged in the state after it
abbrev pub judged_of : Device → Whose → Moment × State → Entry
judged_of device whose judged = entry_of device whose judged.0 judged.1
