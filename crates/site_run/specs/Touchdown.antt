-- A touchdown as its polls, and what a site that runs one without a live stop gives.
use Rattle.std.specs.Prelude.{◌≡◌, ℕ, [], Some, None}
use Rattle.tester_types.specs.Outside.{HasRisen}
use Rattle.tester_types.specs.declared.record.Record.{Record}
use Rattle.die_sim.specs.Socket.{Told}
use Rattle.lot_plan.specs.Bound.{Bound}
use Rattle.site_meaning.specs.Part.{Part}
use Rattle.site_meaning.specs.Records.{Sound, touchdown}
use Rattle.site_meaning.specs.Polls.{live_numbers}
use Rattle.site_run.specs.declared.site.Site.{Site}
use Rattle.site_run.specs.Site.{IsPolled, without_record}
use Rattle.cycle_run.specs.Tape.{with_calls}
use Rattle.site_run.specs.Taped.{calls_of}

-- no touchdown of a site is under way, and no record waits
pub record IsIdle (site : Site) : Type 0 where
  pub running : site.running ≡ None
  pub trials : site.trials.items ≡ []
  pub waiting : site.waiting ≡ None

-- Polls of a site one after another, handed the same number of stops: none but the last loses contact or leaves a
-- record, and the last leaves this one.
pub data ArePolls (plan : Bound) (stops : ℕ) (entry : Record) : Site → Site → Told → Told → Type 0 where
  last : (old new : Site) (told told' : Told) → IsPolled plan stops old new told told' → new.waiting ≡ Some entry
      → ArePolls plan stops entry old new told told'
  more : (old between new : Site) (told told_between told' : Told)
      → (polled : IsPolled plan stops old between told told_between) → polled.contact ≡ None
      → between.waiting ≡ None → ArePolls plan stops entry between new told_between told'
      → ArePolls plan stops entry old new told told'

-- a site has run a touchdown by its polls, and its record was taken
pub record RunsPolls (plan : Bound) (old new : Site) (told told' : Told) (entry : Record) : Type 0 where
  pub behind : Site
  pub polls : ArePolls plan old.state.taken entry old behind told told'
  pub taken : new ≡ without_record behind

-- The record of a die's touchdown at a socket that told this before it and this behind it. Where the count of faults
-- hasn't risen, it is the one that the plan makes without a cut, and a tape has its drive calls.
pub record IsTouchdown (part : Part) (die : ℕ) (told told' : Told) (entry : Record) : Type 0 where
  pub sound : Sound part entry
  pub of_die : entry.die ≡ die
  pub no_stop : live_numbers entry ≡ []
  pub uncut : (HasRisen told.count told'.count → ⊥) → entry ≡ touchdown part [] die
  pub tape : (HasRisen told.count told'.count → ⊥) → told'.tape ≡ with_calls told.tape (calls_of part entry)
