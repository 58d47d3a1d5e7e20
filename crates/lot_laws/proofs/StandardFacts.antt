-- What the work of a site leaves whose only die is stopped by two stops before its first batch: its seat was polled once, and
-- has seen both.
use Rattle.std.proofs.Common.{◌≡◌, [], ◌∷◌, refl, sym, ◌∙◌, arith}
use Rattle.tester_types.specs.declared.record.By.TheVariants as by
use Rattle.tester_types.specs.declared.record.Record.{Record}
use Rattle.tester_types.specs.declared.record.Trial.{Trial}
use Rattle.tester_types.specs.declared.record.Verdict.TheVariants as verdict
use Rattle.die_sim.specs.Socket.{Told}
use Rattle.stop_board.specs.Seats.{SiteFacts}
use Rattle.site_meaning.specs.Part.{Part}
use Rattle.site_meaning.specs.Counting.{polls_in, polls_of}
use Rattle.site_meaning.specs.Polls.{live_numbers}
use Rattle.tester_run.specs.Work.{HasCycle, IsWork}

-- the try that two stops end before it has a cycle
stopped_try : Trial
stopped_try = record { number = 1; cycles = 0; fails = 0; kept = []; verdict = verdict.Stopped 0 (by.Desk 2) }

-- its record
stopped : Record
stopped = record { site = 0; die = 0; trials = stopped_try ∷ [] }

-- one poll
polls_known : (part : Part) → polls_of part stopped ≡ 1
unfolding polls_in stopped stopped_try
polls_known part = refl

module _ (part : Part) (before now : SiteFacts) (told told' : Told) (work : IsWork part before now told told' (stopped ∷ []))
    (cycles : HasCycle part.code) (unseen : before.seen ≡ 0) (unpolled : before.polls ≡ 0) where
  polled_once : now.polls ≡ 1
  polled_once = omega (arith, work.polls, polls_known part, unpolled)

  saw_both : now.seen ≡ 2
  unfolding stopped stopped_try live_numbers
  saw_both = sym (work.lives.caught unseen cycles ((not_at_load, tt), tt)) ∙ work.lives.rise.1
    where
      not_at_load : verdict.Stopped 0 (by.Desk 2) ≡ verdict.Contact 0 → ⊥
      not_at_load e = cc
