-- What comes of a site's try in a poll, from where it arrives on.
use Rattle.std.proofs.Common.{◌≡◌, ℕ, ◌<◌, ◌≤◌, Bool, true, false, cond, [], length, Option, Some, None, IfSome, refl, sym, ap, ◌∙◌, subst, arith, inl, inr}
use Rattle.std.specs.Prelude.{◌⊎◌, ◌&&◌, ◌||◌, nat_lt, nat_le, if◌then◌else◌, is_some, Result, Ok, Err, IfOk}
use Rattle.std.specs.Option.{option_map, option_map_or}
use Rattle.std.proofs.lemmas.Bool.{cases_Bool, eqb-true, lt-leb}
use Rattle.tester_types.specs.Outside.{HasRisen}
use Rattle.tester_types.specs.declared.outside.NoMemory.{NoMemory}
use Rattle.tester_types.specs.declared.record.Trial.{Trial}
use Rattle.tester_types.specs.declared.record.Record.{Record}
use Rattle.tester_types.specs.declared.record.Verdict.{Verdict}
use Rattle.tester_types.specs.declared.record.Verdict.TheVariants as verdict
use Rattle.tester_types.proofs.OutsideLemmas.{risen_behind}
use Rattle.die_sim.specs.Socket.{Told, Calls}
use Rattle.lot_plan.specs.Bound.{Bound}
use Rattle.plan_rows.specs.Rows.{dies_at}
use Rattle.site_meaning.specs.Part.{Part, part_of, lot_in, dies_in}
use Rattle.site_meaning.specs.Records.{is_fail}
use Rattle.site_meaning.proofs.PartLemmas.{dies_in-part_of}
use Rattle.site_run.proofs.SiteLemmas.{ended_so}
use Rattle.site_meaning.specs.Polls.{Running, Seat, Step, goes, ends, unloaded, try_now, fresh_try, onward, is_at_load, arrived, stepped_try, taken_at, rests, poll, polled_from, moved, with_taken, with_trial}
use Rattle.site_run.specs.declared.site.Site.{Site}
use Rattle.site_run.specs.declared.run.Run.{Run}
use Rattle.site_run.specs.declared.trial.Outcome.{Outcome}
use Rattle.site_run.specs.declared.trial.Outcome.TheVariants as outcome
use Rattle.cycle_run.specs.Tape.{with_calls}
use Rattle.site_run.specs.Taped.{calls_of_step, calls_of_poll, IsTaped}
use Rattle.site_run.specs.Seat.{running_of, without_cycles, contact_by}
use Rattle.cycle_run.specs.BatchLaws.{with-none}
use Rattle.site_run.proofs.TapeLemmas.{before_zero, poll_calls}
use Rattle.site_run.specs.Contact.{EndsAtContact, IsLostInPoll}
use Rattle.site_run.specs.Site.{seat_of, try_of, IsSeatOf, IsOutcome, HasLost, Advances, Steps, KeepsRest, IsPolled}

risen_if : (o : Option ℕ) (a b c : ℕ) → a ≤ b → b ≤ c → IfSome o (λ at. HasRisen b c) → IfSome o (λ at. HasRisen a c)
risen_if None a b c low up risen = tt
risen_if (Some at) a b c low up risen = risen_behind a b c low up risen

risen_more : (o : Option ℕ) (a b c : ℕ) → b ≤ c → IfSome o (λ at. HasRisen a b) → IfSome o (λ at. HasRisen a c)
risen_more None a b c up risen = tt
risen_more (Some at) a b c up risen = λ small. let r = risen small in omega (arith, r, up)

-- ---- where a try arrives

arrived_running : (part : Part) (contact : Option ℕ) (seat : Seat) (r : Running) → seat.running ≡ Some r
    → arrived part contact seat ≡ goes r
unfolding arrived
arrived_running part contact seat r is =
    ap (λ (o : Option Running). option_map_or goes o
    (cond (is_at_load contact) (ends (unloaded (try_now seat))) (onward part (try_now seat) (fresh_try part seat.die (try_now seat)) 0))) is

arrived_loading : (part : Part) (contact : Option ℕ) (seat : Seat) (b : Bool) → seat.running ≡ None → is_at_load contact ≡ b
    → arrived part contact seat
    ≡ cond b (ends (unloaded (try_now seat))) (onward part (try_now seat) (fresh_try part seat.die (try_now seat)) 0)
unfolding arrived
arrived_loading part contact seat b none is =
    ap (λ (o : Option Running). option_map_or goes o
    (cond (is_at_load contact) (ends (unloaded (try_now seat))) (onward part (try_now seat) (fresh_try part seat.die (try_now seat)) 0))) none
    ∙ ap (λ (c : Bool). cond c (ends (unloaded (try_now seat))) (onward part (try_now seat) (fresh_try part seat.die (try_now seat)) 0)) is

load_zero : (o : Option ℕ) → is_at_load o ≡ true → o ≡ Some 0
load_zero None is = cc
load_zero (Some at) is = ap (λ (n : ℕ). Some n) (eqb-true at 0 is)

not_zero : (o : Option ℕ) → is_at_load o ≡ false → o ≡ Some 0 → ⊥
not_zero o no_load zero_is = let yes_load = ap is_at_load zero_is in cc (no_load, yes_load)

-- the site as a poll sees it
own_seat : (stops : ℕ) (told : Told) (site : Site) → IsSeatOf stops site (seat_of stops told site)
own_seat stops told site = record { word_is = refl; taken = refl; die = refl; trials = refl }

-- the site, where another try or none runs
abbrev pub with_run : Site → Option Run → Site
with_run site run = record site { running = run }

-- ---- a try that runs

late_after : (o : Option ℕ) (time : ℕ) → 0 < time → IfSome o (λ at. time ≤ at) → o ≡ Some 0 → ⊥
late_after None time some late zero_is = cc
late_after (Some at) time some late zero_is =
    let e : at ≡ 0 = cc in
    omega (arith, some, late, e)

pub steps_running : (plan : Bound) (stops : ℕ) (site : Site) (other : Option Run) (told told' : Told) (run : Run) (end : Outcome) (taken : ℕ)
    → site.running ≡ Some run → 0 < run.at.time → Advances plan stops (with_run site other) told told' run end
    → taken ≡ (if nat_lt site.state.taken stops then stops else site.state.taken)
    → Steps plan stops site told told' end taken
steps_running plan stops site other told told' run end taken runs some a taken_is =
    let seat = seat_of stops told site in
    let running = ap (option_map (running_of told)) runs in
    let is : IsSeatOf stops (with_run site other) seat = record { word_is = refl; taken = refl; die = refl; trials = refl } in
    record {
      contact = a.contact;
      cause = a.cause;
      lost = a.lost;
      steps = λ part same.
          subst (λ (s : Step). IsOutcome told' end (stepped_try part a.contact seat s))
          (sym (arrived_running part a.contact seat (running_of told run) running))
          (a.on part seat same is (late_after a.contact run.at.time some a.late));
      tape = λ part same.
          subst (λ (s : Step). IsTaped a.contact (calls_of_step part seat s) told.tape told'.tape)
          (sym (arrived_running part None seat (running_of told run) running)) (a.tape part seat same is);
      takes = λ part same. taken_is ∙ ap (taken_at seat) (sym (arrived_running part a.contact seat (running_of told run) running));
    }

-- ---- a try that is loaded

module _ (plan : Bound) (stops : ℕ) (site : Site) (told mid told' : Told) (end : Outcome) (taken : ℕ) (none : site.running ≡ None) where
  none_runs : (seat_of stops told site).running ≡ None
  none_runs = ap (option_map (running_of told)) none

  pub steps_goes : (run : Run)
      → ((part : Part) → part ≡ part_of plan site.site → onward part (try_of site) (fresh_try part site.die (try_of site)) 0 ≡ goes (running_of mid run))
      → Advances plan stops site mid told' run end → taken ≡ (if nat_lt site.state.taken stops then stops else site.state.taken)
      → told.count ≤ mid.count → mid.count ≤ told'.count → mid.tape ≡ told.tape
      → Steps plan stops site told told' end taken
  steps_goes run comes a taken_is low up kept = record {
    contact = a.contact;
    cause = risen_if a.contact told.count mid.count told'.count low up a.cause;
    lost = a.lost;
    steps = λ part same. by part same (cases_Bool (is_at_load a.contact));
    tape = λ part same.
        let seat = seat_of stops told site in
        subst (λ (t : Option Calls). IsTaped a.contact (calls_of_step part seat (arrived part None seat)) t told'.tape) kept
        (subst (λ (s : Step). IsTaped a.contact (calls_of_step part seat s) mid.tape told'.tape)
        (sym (arrived_loading part None seat false none_runs refl ∙ comes part same)) (a.tape part seat same (own_seat stops told site)));
    takes = λ part same. takes_by part same (cases_Bool (is_at_load a.contact));
  }
    where
      seat : Seat
      seat = seat_of stops told site

      by : (part : Part) → part ≡ part_of plan site.site → (is_at_load a.contact ≡ true) ⊎ (is_at_load a.contact ≡ false)
          → IsOutcome told' end (stepped_try part a.contact (seat_of stops told site) (arrived part a.contact (seat_of stops told site)))
      by part same (inl load) =
          let lost = a.none (load_zero a.contact load) in
          subst (λ (s : Step). IsOutcome told' end (stepped_try part a.contact (seat_of stops told site) s))
          (sym (arrived_loading part a.contact (seat_of stops told site) true none_runs load))
          (subst (λ (o : Outcome). IsOutcome told' o (ends (unloaded (try_of site)))) (sym lost.0) refl)
      by part same (inr load) =
          subst (λ (s : Step). IsOutcome told' end (stepped_try part a.contact (seat_of stops told site) s))
          (sym (arrived_loading part a.contact (seat_of stops told site) false none_runs load ∙ comes part same))
          (a.on part (seat_of stops told site) same (own_seat stops told site) (not_zero a.contact load))

      takes_by : (part : Part) → part ≡ part_of plan site.site → (is_at_load a.contact ≡ true) ⊎ (is_at_load a.contact ≡ false)
          → taken ≡ taken_at (seat_of stops told site) (arrived part a.contact (seat_of stops told site))
      takes_by part same (inl load) =
          let lost = a.none (load_zero a.contact load) in
          taken_is ∙ ap (λ (b : Bool). cond b stops site.state.taken) lost.1
          ∙ ap (taken_at (seat_of stops told site)) (sym (arrived_loading part a.contact (seat_of stops told site) true none_runs load))
      takes_by part same (inr load) =
          taken_is
          ∙ ap (taken_at (seat_of stops told site))
          (sym (arrived_loading part a.contact (seat_of stops told site) false none_runs load ∙ comes part same))

-- a try that has no batch, or whose load failed
pub steps_ends : (plan : Bound) (stops : ℕ) (site : Site) (told told' : Told) (end : Verdict) → site.running ≡ None
    → IfSome (contact_by end) (λ at. end ≡ verdict.Contact 0)
    → IfSome (contact_by end) (λ at. HasRisen told.count told'.count)
    → ((part : Part) → part ≡ part_of plan site.site → contact_by end ≡ None
    → onward part (try_of site) (fresh_try part site.die (try_of site)) 0 ≡ ends (without_cycles (try_of site) end))
    → told'.tape ≡ told.tape
    → Steps plan stops site told told' (outcome.Ends (without_cycles (try_of site) end)) site.state.taken
steps_ends plan stops site told told' end none fails risen comes kept = by (contact_by end) refl
  where
    nothing : (calls : Calls) → calls ≡ [] → told'.tape ≡ with_calls told.tape calls
    nothing calls is = kept ∙ sym (with-none told.tape) ∙ ap (with_calls told.tape) (sym is)

    none_runs' : (seat_of stops told site).running ≡ None
    none_runs' = ap (option_map (running_of told)) none

    by : (o : Option ℕ) → contact_by end ≡ o
        → Steps plan stops site told told' (outcome.Ends (without_cycles (try_of site) end)) site.state.taken
    by None is = record {
      contact = None;
      cause = tt;
      lost = tt;
      steps = λ part same.
          subst (λ (s : Step). IsOutcome told' (outcome.Ends (without_cycles (try_of site) end)) (stepped_try part None (seat_of stops told site) s))
          (sym (arrived_loading part None (seat_of stops told site) false none_runs' refl ∙ comes part same is)) refl;
      tape = λ part same.
          nothing (calls_of_step part (seat_of stops told site) (arrived part None (seat_of stops told site)))
          (ap (calls_of_step part (seat_of stops told site))
          (arrived_loading part None (seat_of stops told site) false none_runs' refl ∙ comes part same is));
      takes = λ part same.
          ap (taken_at (seat_of stops told site))
          (sym (arrived_loading part None (seat_of stops told site) false none_runs' refl ∙ comes part same is));
    }
    by (Some at) is =
        let zero_is : end ≡ verdict.Contact 0 = subst (λ (o : Option ℕ). IfSome o (λ n. end ≡ verdict.Contact 0)) is fails in
        record {
          contact = Some 0;
          cause = subst (λ (o : Option ℕ). IfSome o (λ n. HasRisen told.count told'.count)) is risen;
          lost = zero_is;
          steps = λ part same.
              subst (λ (s : Step). IsOutcome told' (outcome.Ends (without_cycles (try_of site) end)) (stepped_try part (Some 0) (seat_of stops told site) s))
              (sym (arrived_loading part (Some 0) (seat_of stops told site) true none_runs' refl))
              (ap (λ (v : Verdict). ends (without_cycles (try_of site) v)) (sym zero_is));
          tape = λ part same.
              inl (nothing _ (before_zero (calls_of_step part (seat_of stops told site) (arrived part None (seat_of stops told site)))));
          takes = λ part same.
              ap (taken_at (seat_of stops told site)) (sym (arrived_loading part (Some 0) (seat_of stops told site) true none_runs' refl));
        }

-- what is so of each outcome
pub steps_all : (result : Result Outcome NoMemory) (P Q : Outcome → Type 0) → ((o : Outcome) → P o → Q o) → IfOk result P → IfOk result Q
steps_all (Ok o) P Q each p = each o p
steps_all (Err e) P Q each p = tt

-- ---- a poll of a site that isn't done and has no record waiting

pub rests_not : (part : Part) (seat : Seat) → seat.waiting ≡ None → seat.die < dies_in part → rests part seat ≡ false
rests_not part seat none planned =
    ap (λ (o : Option Record). is_some o || nat_le (dies_in part) seat.die) none ∙ lt-leb (dies_in part) seat.die planned

poll_on : (part : Part) (contact : Option ℕ) (seat : Seat) → seat.waiting ≡ None → seat.die < dies_in part
    → poll part contact seat ≡ polled_from part contact seat (arrived part contact seat)
unfolding poll
poll_on part contact seat none planned =
    ap (λ (b : Bool). cond b seat (polled_from part contact seat (arrived part contact seat))) (rests_not part seat none planned)

-- a try that goes on has lost no contact
none_lost : (o : Option ℕ) (run : Run) (P : ℕ → Type 0) → IfSome o (HasLost (outcome.Goes run)) → IfSome o P
none_lost None run P lost = tt
none_lost (Some at) run P lost = absurd lost

-- a try that ends with contact lost does so in a poll
lost_there : (o : Option ℕ) (part : Part) (seat : Seat) (trial : Trial) → rests part seat ≡ false
    → stepped_try part o seat (arrived part o seat) ≡ ends trial → IfSome o (HasLost (outcome.Ends trial))
    → IfSome o (IsLostInPoll part seat)
lost_there None part seat trial works steps lost = tt
lost_there (Some at) part seat trial works steps lost = record {
  works = works;
  ends_there = subst (λ (s : Step). EndsAtContact s at) (sym steps) lost;
}

-- a try goes on
pub polled_goes : (plan : Bound) (stops : ℕ) (old mid new : Site) (told told' : Told) (run : Run) → old.waiting ≡ None
    → old.die < length (dies_at old.site plan.rows) → Steps plan stops old told told' (outcome.Goes run) mid.state.taken → KeepsRest old mid
    → new.running ≡ Some run → new.state.taken ≡ mid.state.taken → new.die ≡ mid.die → new.trials ≡ mid.trials → new.waiting ≡ mid.waiting
    → IsPolled plan stops old new told told'
polled_goes plan stops old mid new told told' run none planned s rest running taken die trials waiting =
    let part = part_of plan old.site in
    let seat = seat_of stops told old in
    let steps = s.steps part refl in
    let takes = s.takes part refl in
    let dies = dies_in-part_of plan old.site in
    record {
      contact = s.contact;
      cause = s.cause;
      lost = none_lost s.contact run (IsLostInPoll part seat) s.lost;
      tape = subst (λ (calls : Calls). IsTaped s.contact calls told.tape told'.tape)
          (sym (poll_calls part seat (rests_not part seat none (omega (arith, dies, planned))))) (s.tape part refl);
      polled =
          (λ i. record {
            word = stops;
            taken = (taken ∙ takes) i;
            die = (die ∙ rest.die) i;
            trials = (ap (λ v. v.items) (trials ∙ rest.trials)) i;
            running = (ap (option_map (running_of told')) running) i;
            waiting = (waiting ∙ rest.waiting) i;
          })
          ∙ ap (λ (x : Step). with_taken (moved part seat x) (taken_at seat (arrived part s.contact seat))) (sym steps)
          ∙ sym (poll_on part s.contact seat none (omega (arith, dies, planned)));
    }

-- a try ends
with_other : (part : Part) (seat : Seat) (trial : Trial) (t : ℕ) (b : Bool)
    → (is_fail trial.verdict && nat_lt (try_now seat) (lot_in part).tries) ≡ b
    → with_trial part (record seat { taken = t; running = None }) trial ≡ with_taken (with_trial part seat trial) t
with_other part seat trial t true is =
    ended_so part (record seat { taken = t; running = None }) trial true is ∙ ap (λ (x : Seat). with_taken x t) (sym (ended_so part seat trial true is))
with_other part seat trial t false is =
    ended_so part (record seat { taken = t; running = None }) trial false is ∙ ap (λ (x : Seat). with_taken x t) (sym (ended_so part seat trial false is))

pub polled_ends : (plan : Bound) (stops : ℕ) (old mid new : Site) (told told' last : Told) (trial : Trial) → old.waiting ≡ None
    → old.die < length (dies_at old.site plan.rows) → Steps plan stops old told told' (outcome.Ends trial) mid.state.taken → KeepsRest old mid
    → mid.running ≡ None → told'.count ≤ last.count → told.count ≤ told'.count → last.tape ≡ told'.tape
    → seat_of stops last new ≡ with_trial (part_of plan old.site) (seat_of stops last mid) trial
    → IsPolled plan stops old new told last
polled_ends plan stops old mid new told told' last trial none planned s rest running up low kept ended =
    let part = part_of plan old.site in
    let seat = seat_of stops told old in
    let steps = s.steps part refl in
    let takes = s.takes part refl in
    let dies = dies_in-part_of plan old.site in
    record {
      contact = s.contact;
      cause = risen_more s.contact told.count told'.count last.count up s.cause;
      lost = lost_there s.contact part seat trial (rests_not part seat none (omega (arith, dies, planned))) steps s.lost;
      tape = subst (λ (t : Option Calls). IsTaped s.contact (calls_of_poll part seat) told.tape t) (sym kept)
          (subst (λ (calls : Calls). IsTaped s.contact calls told.tape told'.tape)
          (sym (poll_calls part seat (rests_not part seat none (omega (arith, dies, planned))))) (s.tape part refl));
      polled =
          ended
          ∙ ap (λ (x : Seat). with_trial part x trial)
          (λ i. record {
            word = stops;
            taken = takes i;
            die = rest.die i;
            trials = (ap (λ v. v.items) rest.trials) i;
            running = (ap (option_map (running_of last)) running) i;
            waiting = rest.waiting i;
          })
          ∙ with_other part seat trial (taken_at seat (arrived part s.contact seat)) _ refl
          ∙ ap (λ (x : Step). with_taken (moved part seat x) (taken_at seat (arrived part s.contact seat))) (sym steps)
          ∙ sym (poll_on part s.contact seat none (omega (arith, dies, planned)));
    }
