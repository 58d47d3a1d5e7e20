-- Where a poll loses contact: at an instant of the batch that it runs, or at 0 where the die can't be loaded.
use Rattle.std.specs.Prelude.{◌≡◌, ℕ, true, false, Some, is_some}
use Rattle.tester_types.specs.declared.record.Verdict.TheVariants as verdict
use Rattle.site_meaning.specs.Part.{Part}
use Rattle.site_meaning.specs.Trials.{reached}
use Rattle.site_meaning.specs.Polls.{Seat, Step, goes, ends, try_now, rests, arrived, stepped_try, next_played}

-- a poll's step ends its try with contact lost at this instant
abbrev pub EndsAtContact : Step → ℕ → Type 0
EndsAtContact (goes running) at = ⊥
EndsAtContact (ends trial) at = trial.verdict ≡ verdict.Contact at

-- contact at this instant is lost in this poll: the site doesn't rest, and the try of the poll ends in it
pub record IsLostInPoll (part : Part) (seat : Seat) (at : ℕ) : Type 0 where
  pub works : rests part seat ≡ false
  pub ends_there : EndsAtContact (stepped_try part (Some at) seat (arrived part (Some at) seat)) at

-- an instant is that of a call of the next batch of a try that has arrived before it, or 0 for one that has ended
abbrev pub IsInBatch : Part → Seat → ℕ → Step → Type 0
IsInBatch part seat at (goes running) =
    is_some (reached at (next_played part seat.die (try_now seat) running)) ≡ true
IsInBatch part seat at (ends trial) = at ≡ 0
