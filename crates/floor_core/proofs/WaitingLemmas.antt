-- A poll leaves the waiting record as it is, or has one of its own site wait.
use Rattle.std.proofs.Common.{◌≡◌, ℕ, ◌&&◌, true, false, nat_lt, [], ◌∷◌, ◌++◌, Option, None, IfSome, cond, refl}
use Rattle.tester_types.specs.declared.record.Trial.{Trial}
use Rattle.tester_types.specs.declared.record.Record.{Record}
use Rattle.site_meaning.specs.Part.{Part, lot_in}
use Rattle.site_meaning.specs.Records.{is_fail}
use Rattle.site_meaning.specs.Polls.{Seat, Step, goes, ends, try_now, rests, arrived, stepped_try, with_record, with_trial, moved, polled_from, poll}

-- the waiting record of a seat, if there is one, is of this site
abbrev pub WaitsAt : ℕ → Seat → Type 0
WaitsAt site seat = IfSome seat.waiting (λ (r : Record). r.site ≡ site)

waits_at_trial : (part : Part) (seat : Seat) (trial : Trial) → WaitsAt part.site seat → WaitsAt part.site (with_trial part seat trial)
unfolding with_trial
waits_at_trial part seat trial waits =
    elim (is_fail trial.verdict && nat_lt (try_now seat) (lot_in part).tries) as
    (λ b. WaitsAt part.site (cond b (record seat { trials = seat.trials ++ trial ∷ []; running = None }) (with_record part seat trial)))
    [ true ↦ waits | false ↦ refl ]

waits_at_moved : (part : Part) (seat : Seat) (step : Step) → WaitsAt part.site seat → WaitsAt part.site (moved part seat step)
waits_at_moved part seat (goes running) waits = waits
waits_at_moved part seat (ends trial) waits = waits_at_trial part seat trial waits

pub waits_at_poll : (part : Part) (contact : Option ℕ) (seat : Seat) → WaitsAt part.site seat → WaitsAt part.site (poll part contact seat)
unfolding poll
waits_at_poll part contact seat waits =
    elim (rests part seat) as (λ b. WaitsAt part.site (cond b seat (polled_from part contact seat (arrived part contact seat))))
    [ true ↦ waits | false ↦ waits_at_moved part seat (stepped_try part contact seat (arrived part contact seat)) waits ]
