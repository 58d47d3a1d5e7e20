-- How a run ends.
use Rattle.std.specs.Prelude.{◌≡◌, ◌⊎◌, ℕ, ◌≤◌, List, Option}
use Rattle.tester_types.specs.Outside.{HasRisen, gained, GainsFront}
use Rattle.tool_inputs.specs.declared.status.Status.TheVariants.{WriteFault}
use Rattle.lot_parts.specs.declared.call.TheConstants.{USAGE}
use Rattle.lot_parts.specs.declared.outcome.Outcome.{Outcome}
use Rattle.lot_parts.specs.declared.outcome.Outcome.TheVariants.{Ended}

-- what is written where the words are none of the forms
abbrev pub usage_line : List ℕ
usage_line = USAGE.now

-- a run ends with the outcome and its text written whole, or as a write fault with a front of that text; the sink's
-- count of faults doesn't fall
pub record EndsAs (held : Option (List ℕ)) (faults : ℕ) (outcome : Outcome) (text : List ℕ)
    (result : Outcome) (held' : Option (List ℕ)) (faults' : ℕ) : Type 0 where
  pub ends : ((result ≡ outcome) × (held' ≡ gained held text))
      ⊎ ((result ≡ Ended WriteFault) × GainsFront held text held' × HasRisen faults faults')
  pub count : faults ≤ faults'

-- a run's answer has its cause, and its text
pub record AnswersAs (wants : Outcome → List ℕ → Type 0)
    (held : Option (List ℕ)) (faults : ℕ) (result : Outcome) (held' : Option (List ℕ)) (faults' : ℕ) : Type 0 where
  pub outcome : Outcome
  pub text : List ℕ
  pub wanted : wants outcome text
  pub ends : EndsAs held faults outcome text result held' faults'
