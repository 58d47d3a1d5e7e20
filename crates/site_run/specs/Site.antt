-- A site as a poll sees it, and what is so of it between two calls.
use Rattle.std.specs.Prelude.{◌≡◌, ℕ, ◌+◌, ◌<◌, ◌≤◌, ◌==◌, if◌then◌else◌, Option, Some, None, IfSome, length, nat_lt, false}
use Rattle.std.specs.Option.{option_map}
use Rattle.packed_code.specs.Conditions.{IsProgram}
use Rattle.packed_code.specs.Cycles.{cycles_of}
use Rattle.pattern_mem.specs.Memory.{Memory}
use Rattle.die_sim.specs.Die.{device_of}
use Rattle.die_sim.specs.Socket.{Told}
use Rattle.plan_rows.specs.Rows.{sites_of, lot_of, dies_at}
use Rattle.lot_plan.specs.Bound.{Bound, image_of}
use Rattle.lot_plan.specs.Refusal.{IsBound}
use Rattle.lot_plan.specs.Skews.{site_skews}
use Rattle.site_meaning.specs.Polls.{Running, Seat, Step, goes, ends, unloaded, before_batch, arrived, stepped_try, taken_at, poll}
use Rattle.site_meaning.specs.Part.{Part, part_of}
use Rattle.tester_types.specs.Outside.{HasRisen}
use Rattle.tester_types.specs.declared.record.Verdict.TheVariants as verdict
use Rattle.site_run.specs.declared.trial.Outcome.{Outcome}
use Rattle.site_run.specs.declared.trial.Outcome.TheVariants as outcome
use Rattle.site_run.specs.declared.run.Run.{Run}
use Rattle.site_run.specs.declared.run.Move.{Move}
use Rattle.site_run.specs.declared.run.Move.TheVariants as move
use Rattle.site_run.specs.declared.task.Task.{Task}
use Rattle.site_run.specs.declared.site.Site.{Site}
use Rattle.site_run.specs.declared.site.BatchEnd.{BatchEnd}
use Rattle.site_run.specs.declared.site.BatchEnd.TheVariants as end
use Rattle.cycle_run.specs.Step.{HoldsSchedules}
use Rattle.site_run.specs.Taped.{IsTaped, calls_of_next, calls_of_step, calls_of_poll}
use Rattle.site_run.specs.Contact.{IsLostInPoll}
use Rattle.site_run.specs.Seat.{running_of, IsRunOn}

-- the site as a poll sees it, with this word, at a socket that tells this
abbrev pub seat_of : ℕ → Told → Site → Seat
seat_of word told site = record {
  word = word;
  taken = site.state.taken;
  die = site.die;
  trials = site.trials.items;
  running = option_map (running_of told) site.running;
  waiting = site.waiting;
}

-- the number of its try that runs or is next
abbrev pub try_of : Site → ℕ
try_of site = length site.trials.items + 1

-- a try that runs at a site of a plan
pub record IsRunAt (mem : Memory) (plan : Bound) (told : Told) (site die number : ℕ) (run : Run) : Type 0 where
  pub runs : IsRunOn mem.code (device_of (image_of plan site die number)) told run
  pub more : run.done < length (cycles_of mem.code run.exec)
  pub later : 0 < run.at.time
  pub keep : run.at.bench.checker.count.keep ≡ (lot_of plan.rows).keep

-- what is so of a site that isn't spent: it was started over this memory and this plan, of one program, and where a try
-- runs, the socket holds its die
pub record IsSiteOf (mem : Memory) (plan : Bound) (told : Told) (site : Site) : Type 0 where
  pub within : site.site < sites_of plan.rows
  pub pass : site.pass ≡ mem
  pub one_program : plan.program ≡ mem.code
  pub held : HoldsSchedules mem.code (site_skews plan site.site) site.schedules
  pub dies : site.dies ≡ length (dies_at site.site plan.rows)
  pub tries : length site.trials.items < (lot_of plan.rows).tries
  pub runs : IfSome site.running (IsRunAt mem plan told site.site site.die (try_of site))

-- how far a batch came: whether a try runs behind it, and whether it stands at the beginning of an executive
abbrev pub end_of : Option Running → BatchEnd
end_of None = end.TryDone
end_of (Some running) = if running.done == 0 then end.ExecDone else end.More

-- ---- a try in a poll

-- a poll's step is this outcome of the code
abbrev pub IsOutcome : Told → Outcome → Step → Type 0
IsOutcome told (outcome.Goes run) step = step ≡ goes (running_of told run)
IsOutcome told (outcome.Ends trial) step = step ≡ ends trial

-- the try has ended with contact lost at this instant
abbrev pub HasLost : Outcome → ℕ → Type 0
HasLost (outcome.Goes run) at = ⊥
HasLost (outcome.Ends trial) at = trial.verdict ≡ verdict.Contact at

-- a site as a poll sees it, but for the try that runs
pub record IsSeatOf (word : ℕ) (site : Site) (seat : Seat) : Type 0 where
  pub word_is : seat.word ≡ word
  pub taken : seat.taken ≡ site.state.taken
  pub die : seat.die ≡ site.die
  pub trials : seat.trials ≡ site.trials.items

-- a try that stood before its next batch came to this outcome, with this contact lost, if any was: to that of a poll.
-- Contact at the instant 0 is lost as at a load
pub record Advances (plan : Bound) (stops : ℕ) (site : Site) (told told' : Told) (run : Run) (come : Outcome) : Type 0
  where
    pub contact : Option ℕ
    pub cause : IfSome contact (λ at. HasRisen told.count told'.count)
    pub on : (part : Part) (seat : Seat) → part ≡ part_of plan site.site → IsSeatOf stops site seat
        → (contact ≡ Some 0 → ⊥)
        → IsOutcome told' come (before_batch part contact seat (running_of told run))
    pub tape : (part : Part) (seat : Seat) → part ≡ part_of plan site.site → IsSeatOf stops site seat
        → IsTaped contact (calls_of_next part seat (running_of told run)) told.tape told'.tape
    pub lost : IfSome contact (HasLost come)
    pub none : contact ≡ Some 0
        → (come ≡ outcome.Ends (unloaded (try_of site))) × (nat_lt site.state.taken stops ≡ false)
    pub late : IfSome contact (λ at. run.at.time ≤ at)

-- the try of a site came to this outcome, and the site has taken this number: as in a poll, where some contact was
-- lost, or none
pub record Steps (plan : Bound) (stops : ℕ) (site : Site) (told told' : Told) (come : Outcome) (taken : ℕ) : Type 0
  where
    pub contact : Option ℕ
    pub cause : IfSome contact (λ at. HasRisen told.count told'.count)
    pub lost : IfSome contact (HasLost come)
    pub steps : (part : Part) → part ≡ part_of plan site.site
        → IsOutcome told' come
        (stepped_try part contact (seat_of stops told site) (arrived part contact (seat_of stops told site)))
    pub tape : (part : Part) → part ≡ part_of plan site.site
        → IsTaped contact (calls_of_step part (seat_of stops told site) (arrived part None (seat_of stops told site)))
        told.tape told'.tape
    pub takes : (part : Part) → part ≡ part_of plan site.site
        → taken ≡ taken_at (seat_of stops told site) (arrived part contact (seat_of stops told site))

-- a try that goes on can be run again
abbrev pub OutcomeFits : Memory → Bound → Told → Site → Outcome → Type 0
OutcomeFits mem plan told site (outcome.Goes run) = IsRunAt mem plan told site.site site.die (try_of site) run
OutcomeFits mem plan told site (outcome.Ends trial) = Unit {0}

-- a site is as before but for its pass, schedules, the try that runs and the number taken
pub record KeepsRest (old new : Site) : Type 0 where
  pub site : new.site ≡ old.site
  pub dies : new.dies ≡ old.dies
  pub die : new.die ≡ old.die
  pub trials : new.trials ≡ old.trials
  pub waiting : new.waiting ≡ old.waiting
  pub spent : new.spent ≡ old.spent

-- A site is seen behind a poll, with contact lost only where the count of faults has risen, at an instant to which the
-- poll comes. A tape that the socket tells has the calls of the poll, up to a contact.
pub record IsPolled (plan : Bound) (stops : ℕ) (old new : Site) (told told' : Told) : Type 0 where
  pub contact : Option ℕ
  pub cause : IfSome contact (λ at. HasRisen told.count told'.count)
  pub lost : IfSome contact (IsLostInPoll (part_of plan old.site) (seat_of stops told old))
  pub polled : seat_of stops told' new ≡ poll (part_of plan old.site) contact (seat_of stops told old)
  pub tape : IsTaped contact (calls_of_poll (part_of plan old.site) (seat_of stops told old)) told.tape told'.tape

-- ---- a poll

-- a site that is handed this task works: it was started over its memory and its plan, and has a die left
pub record Works {R : Type 0} (task : Task R) (told : Told) (site : Site) : Type 0 where
  pub bound : IsBound task.plan.now
  pub program : IsProgram task.mem.now.code
  pub of : IsSiteOf task.mem.now task.plan.now told site
  pub die : site.die < length (dies_at site.site task.plan.now.rows)

-- the number that it has taken behind it
abbrev pub taken_with : ℕ → Site → ℕ
taken_with stops site = if nat_lt site.state.taken stops then stops else site.state.taken

-- it can be polled again, but for the try that runs and the number taken
pub record Leaves {R : Type 0} (task : Task R) (told told' : Told) (old new : Site) : Type 0 where
  pub pass : new.pass ≡ old.pass
  pub held : HoldsSchedules task.mem.now.code (site_skews task.plan.now old.site) new.schedules
  pub rest : KeepsRest old new
  pub count : told.count ≤ told'.count

-- the outcome of a move: a try that goes on does so as it is
abbrev pub IsOutcomeOf : Run → Move → Outcome → Type 0
IsOutcomeOf run move.More end = end ≡ outcome.Goes run
IsOutcomeOf run move.Next end = end ≡ outcome.Goes run
IsOutcomeOf run (move.Ends verdict) (outcome.Goes other) = ⊥
IsOutcomeOf run (move.Ends verdict) (outcome.Ends trial) = Unit {0}

-- the site once its record was taken
abbrev pub without_record : Site → Site
without_record site = record site { waiting = None }
