-- A batch that was run is the batch of a poll, up to its end or to the moment at which contact was lost.
use Rattle.std.proofs.Common.{◌≡◌, ℕ, ◌+◌, ◌-◌, ◌^◌, ◌<◌, ◌≤◌, List, ◌++◌, length, take, drop, Option, Some, None, refl, sym, ap, ◌∙◌, subst, arith, length-append}
use Rattle.std.specs.Prelude.{min, Result, Ok, Err, IfOk, IfSome}
use Rattle.std.specs.Option.{option_map_or}
use Rattle.std.proofs.lemmas.List.{append_assoc, length-drop, length-take-le, take_min}
use Rattle.tester_types.specs.declared.outside.NoMemory.{NoMemory}
use Rattle.tester_types.specs.declared.record.Fail.{Fail}
use Rattle.tester_types.specs.declared.record.Verdict.TheVariants as verdict
use Rattle.tester_types.specs.declared.cycle.Cycle.{Cycle}
use Rattle.packed_code.specs.Program.{Program}
use Rattle.packed_code.specs.Conditions.{IsProgram}
use Rattle.packed_code.specs.Cycles.{cycles_of}
use Rattle.packed_code.specs.Walk.{entries_left}
use Rattle.pattern_mem.specs.Cursor.{walk_of, cycles_to_come, IsCursorOf}
use Rattle.die_sim.specs.Die.{Device}
use Rattle.die_sim.specs.Socket.{Told}
use Rattle.strobe_check.specs.Count.{Count, HasCounted}
use Rattle.strobe_check.specs.History.{Held, HasSeen}
use Rattle.site_meaning.specs.Playing.{Stand, Going, PlayedCycle}
use Rattle.site_meaning.specs.Part.{Part, lot_in, stand_for}
use Rattle.site_meaning.specs.Trials.{played, after_cycles, fails_in, Lost, reached}
use Rattle.site_meaning.specs.Polls.{Running, Step, ends, ended_now, ended_at, more_fails, more_kept, next_cycles, next_played, after_batch, settled, run_batch}
use Rattle.site_run.specs.declared.run.Run.{Run}
use Rattle.site_run.specs.declared.run.Move.{Move}
use Rattle.site_run.specs.declared.run.Move.TheVariants as move
use Rattle.cycle_run.specs.Cycle.{closed_with, played_behind, IsBetween}
use Rattle.cycle_run.specs.Batch.{Between, going_in, PlaysCycles, LosesContactIn}
use Rattle.cycle_run.specs.Step.{FitCode, FitsBench}
use Rattle.site_run.specs.declared.station.Ground.{Ground}
use Rattle.cycle_run.specs.Seat.{point_of, between_of}
use Rattle.site_run.specs.Station.{code_in, device_in, stand_in}
use Rattle.site_run.specs.Seat.{running_of, IsRunOn, IsSeen, IsPlanned, PlaysBatch, IsMove, contact_of, GoesOnSo, KeepsTime, StandsLater, HasMoved}
use Rattle.site_run.proofs.HitLemmas.{call_late, time_grows, reached_there}
use Rattle.site_run.proofs.TimeLemmas.{time_between}
use Rattle.site_run.proofs.RunLemmas.{counted, counted_open, min_more, take_more_of, drop-both}
use Rattle.site_meaning.proofs.PlayedLemmas.{number-after_cycles}

-- ---- fails that are counted

more_total : (keep : ℕ) (found fails : List Fail) (old new : Count) → HasCounted keep found old → HasCounted keep (found ++ fails) new
    → more_fails old.total fails ≡ new.total
more_total keep found fails old new was is =
    ap (λ (n : ℕ). min (n + length fails) (2 ^ 64 - 1)) was.all
    ∙ sym (min_more (length found) (length fails) (2 ^ 64 - 1))
    ∙ ap (λ (n : ℕ). min n (2 ^ 64 - 1)) (sym (length-append found fails))
    ∙ sym is.all

kept_more : (part : Part) (keep : ℕ) (found fails : List Fail) (old new : Count) → (lot_in part).keep ≡ keep → HasCounted keep found old
    → HasCounted keep (found ++ fails) new
    → more_kept part old.kept fails ≡ new.kept
kept_more part keep found fails old new same was is =
    ap (λ (n : ℕ). take n (old.kept ++ fails)) same
    ∙ ap (λ (l : List Fail). take keep (l ++ fails)) was.first
    ∙ sym (take_more_of keep found fails)
    ∙ sym is.first

-- ---- the cycles of a batch

-- so many as there are to come, and at most those of a batch
pub cycles_are : (ground : Ground) (told : Told) (run : Run) (most all count : ℕ) → IsRunOn (code_in ground) (device_in ground) told run
    → all ≡ length (cycles_of (code_in ground) run.exec) → count ≡ min (all - run.done) most
    → (part : Part) (die number : ℕ) → IsPlanned part die number (stand_in ground) most run.at.bench.checker.count.keep
    → take count (cycles_to_come (code_in ground) run.cursor) ≡ next_cycles part (running_of told run)
unfolding next_cycles
cycles_are ground told run most all count r all_is few part die number planned =
    let left = drop run.done (cycles_of (code_in ground) run.exec) in
    let long = length-drop run.done (cycles_of (code_in ground) run.exec) in
    let count_is : count ≡ min most (length left) = omega (arith, few, long, all_is) in
    ap (take count) r.coming
    ∙ ap (λ (n : ℕ). take n left) count_is
    ∙ take_min most left
    ∙ ap (λ (n : ℕ). take n left) (sym planned.most_is)
    ∙ ap (λ (p : Program). take (lot_in part).batch (drop run.done (cycles_of p run.exec))) (sym planned.code)

module _ (part : Part) (die number most : ℕ) (stand : Stand) (old new : Run) (told told' : Told) (count : ℕ) (cycles : List Cycle)
    (planned : IsPlanned part die number stand most old.at.bench.checker.count.keep)
    (cycles_is : cycles ≡ next_cycles part (running_of told old))
    (keep : ℕ) (found : List Fail) (seen : HasSeen (closed_with stand.device keep found) old.at.bench.checker) where
  old_count : HasCounted keep found old.at.bench.checker.count
  old_count = counted stand.device keep found old.at.bench.checker seen

  same_keep : (lot_in part).keep ≡ keep
  same_keep = planned.keep_is ∙ old_count.most

  abbrev fails : List Fail
  fails = fails_in (played stand old.exec (going_in (between_of told old.at)) cycles)

  played_is : played stand old.exec (going_in (between_of told old.at)) cycles ≡ next_played part die number (running_of told old)
  unfolding next_played
  played_is =
      ap (λ (s : Stand). played s old.exec (going_in (between_of told old.at)) cycles) (sym planned.stand_is)
      ∙ ap (played (stand_for part die number) old.exec (going_in (between_of told old.at))) cycles_is

  -- behind the batch
  pub behind_batch : PlaysCycles stand old.exec cycles (between_of told old.at) (between_of told' new.at)
      → length cycles ≡ count → new.exec ≡ old.exec → new.done ≡ old.done + count → new.batch ≡ old.batch + 1
      → after_batch part die number (running_of told old) ≡ running_of told' new
  unfolding after_batch
  behind_batch plays long exec done batch =
      let after = counted stand.device keep (found ++ fails) new.at.bench.checker (plays.finds keep found seen) in
      let next = next_cycles part (running_of told old) in
      let same = ap (λ (l : List Cycle). length l) cycles_is in
      let exec_is : old.exec ≡ new.exec = sym exec in
      let done_is : old.done + length next ≡ new.done = omega (arith, same, long, done) in
      let batch_is : old.batch + 1 ≡ new.batch = sym batch in
      let going_is : after_cycles (stand_for part die number) (going_in (between_of told old.at)) next ≡ going_in (between_of told' new.at) =
      ap (λ (s : Stand). after_cycles s (going_in (between_of told old.at)) next) planned.stand_is
      ∙ ap (after_cycles stand (going_in (between_of told old.at))) (sym cycles_is) ∙ sym plays.going in
      let total_is = ap (λ (l : List PlayedCycle). more_fails old.at.bench.checker.count.total (fails_in l)) (sym played_is)
      ∙ more_total keep found fails old.at.bench.checker.count new.at.bench.checker.count old_count after in
      let kept_is = ap (λ (l : List PlayedCycle). more_kept part old.at.bench.checker.count.kept (fails_in l)) (sym played_is)
      ∙ kept_more part keep found fails old.at.bench.checker.count new.at.bench.checker.count same_keep old_count after in
      λ i. record {
        exec = exec_is i;
        done = done_is i;
        batch = batch_is i;
        going = going_is i;
        total = total_is i;
        kept = kept_is i;
      }

  -- or where contact was lost
  pub lost_in_batch : FitCode stand.code stand.skews → IsProgram stand.code → (instant : ℕ)
      → LosesContactIn stand old.exec cycles (between_of told old.at) (between_of told' new.at) instant
      → run_batch part die number (Some instant) (running_of told old)
      ≡ ends (ended_now number (running_of told' new) (verdict.Contact instant))
  unfolding run_batch
  lost_in_batch fit program instant l =
      let going = going_in (between_of told old.at) in
      let before = fails_in (played stand old.exec going l.done) in
      let own = (played_behind stand old.exec (going_in l.mid) l.cycle l.loses.at.done l.loses.at.moment).earlier in
      let lost : Lost = record { cycles = length l.done; fails = before ++ own } in
      let there = ap (reached instant) (sym played_is)
      ∙ ap (λ (cs : List Cycle). reached instant (played stand old.exec going cs)) l.split
      ∙ reached_there stand fit program old.exec l.done l.later going (going_in l.mid) l.cycle instant l.plays.going l.loses.at in
      let has = l.loses.finds keep (found ++ before) (l.plays.finds keep found seen) in
      let after = subst (λ (fs : List Fail). HasCounted keep fs new.at.bench.checker.count) (append_assoc found before own)
      (counted_open keep ((found ++ before) ++ own) new.at.bench.checker has) in
      let cycles_is : old.at.number + length l.done ≡ new.at.number =
      let mid = ap (λ (g : Going). g.number) l.plays.going in
      let numbered = number-after_cycles stand going l.done in
      omega (arith, mid, numbered, l.number) in
      let total_is = more_total keep found (before ++ own) old.at.bench.checker.count new.at.bench.checker.count old_count after in
      let kept_is = kept_more part keep found (before ++ own) old.at.bench.checker.count new.at.bench.checker.count same_keep old_count after in
      let ended : ended_at part number (running_of told old) instant lost ≡ ended_now number (running_of told' new) (verdict.Contact instant) =
      (λ i. record {
        number = number;
        cycles = cycles_is i;
        fails = total_is i;
        kept = kept_is i;
        verdict = verdict.Contact instant;
      }) in
      ap (λ (o : Option Lost). option_map_or (λ (x : Lost). ends (ended_at part number (running_of told old) instant x)) o
      (settled part number (after_batch part die number (running_of told old)))) there
      ∙ ap ends ended

-- a batch that is run to its end
pub run_whole : (part : Part) (die number : ℕ) (running : Running)
    → run_batch part die number None running ≡ settled part number (after_batch part die number running)
unfolding run_batch
run_whole part die number running = refl

-- ---- what the code does with them

-- what is so of a try behind a batch is what a poll makes of it
pub polled_now : (stand : Stand) (most keep : ℕ) (told told' : Told) (old mid new : Run) (result : Result Move NoMemory)
    → IfOk result (λ m. (part : Part) (number : ℕ) (t : Told) → part.code ≡ stand.code
    → IsMove number t new m (settled part number (running_of t mid)))
    → IfOk result (λ m. contact_of m ≡ None)
    → ((part : Part) (die number : ℕ) → IsPlanned part die number stand most keep
    → after_batch part die number (running_of told old) ≡ running_of told' mid)
    → IfOk result (λ m. (part : Part) (die number : ℕ) → IsPlanned part die number stand most keep
    → IsMove number told' new m (run_batch part die number (contact_of m) (running_of told old)))
polled_now stand most keep told told' old mid new (Ok m) polled quiet after = λ part die number planned.
    subst (λ (s : Step). IsMove number told' new m s)
    (sym (ap (λ (k : Option ℕ). run_batch part die number k (running_of told old)) quiet
    ∙ run_whole part die number (running_of told old)
    ∙ ap (settled part number) (after part die number planned)))
    (polled part number told' planned.code)
polled_now stand most keep told told' old mid new (Err e) polled quiet after = tt

-- a try behind a batch can be run again
pub plays_batch : (ground : Ground) (told told' : Told) (old new : Run) (count : ℕ)
    → IsRunOn (code_in ground) (device_in ground) told old → 1 ≤ count
    → old.done + count ≤ length (cycles_of (code_in ground) old.exec)
    → PlaysCycles (stand_in ground) old.exec (take count (cycles_to_come (code_in ground) old.cursor)) (between_of told old.at)
    (between_of told' new.at)
    → cycles_to_come (code_in ground) new.cursor ≡ drop count (cycles_to_come (code_in ground) old.cursor)
    → IsCursorOf (code_in ground) new.cursor
    → FitsBench (length ground.image.now.binds) new.at.bench.last.items new.at.bench.levels.items
    → IsBetween (device_in ground) (point_of told' new.at)
    → new.exec ≡ old.exec → new.done ≡ old.done + count → new.batch ≡ old.batch + 1
    → PlaysBatch ground count told told' old new
plays_batch ground told told' old new count r some most plays coming cursor room between exec done batch =
    let stand = stand_in ground in
    let left = cycles_to_come (code_in ground) old.cursor in
    let going = going_in (between_of told old.at) in
    let behind = ap length r.coming ∙ length-drop old.done (cycles_of (code_in ground) old.exec) in
    let long = length-take-le count left (omega (arith, behind, most)) in
    let number = ap (λ (g : Going). g.number) plays.going ∙ number-after_cycles stand going (take count left) in
    let time = ap (λ (g : Going). g.time) plays.going in
    let within = time_between stand r.cursor.placed.program old.cursor.start count
    (entries_left (code_in ground) (walk_of old.cursor)) going r.cursor.over.named in
    record {
      plays = plays;
      runs = record {
        exec = omega (arith, exec, r.exec);
        cursor = cursor;
        coming = coming ∙ ap (drop count) r.coming ∙ drop-both old.done count (cycles_of (code_in ground) old.exec)
            ∙ ap (λ (n : ℕ). drop n (cycles_of (code_in ground) old.exec)) (sym done)
            ∙ ap (λ (e : ℕ). drop new.done (cycles_of (code_in ground) e)) (sym exec);
        room = room;
        loaded = between.loaded;
        state = between.state;
        keep = r.keep;
        found = r.found ++ fails_in (played stand old.exec going (take count left));
        seen = plays.finds r.keep r.found r.seen;
        done = subst (λ (e : ℕ). new.done ≤ length (cycles_of (code_in ground) e)) (sym exec) (omega (arith, done, most));
        number = omega (arith, number, long, exec, done, r.number);
        time = omega (arith, number, long, time, within.1, r.time);
        batch = omega (arith, number, long, batch, some, r.batch);
      };
      exec = exec;
      done = done;
      batch = batch;
      later = omega (arith, time, within.0, long, some);
    }

-- a try that goes on behind a batch stands later
later_now : (old mid new : Run) (count : ℕ) (m : Move) → 1 ≤ count → old.at.time < mid.at.time
    → mid.done ≡ old.done + count → KeepsTime mid new m → StandsLater old new m
later_now old mid new count move.More some later done kept = (omega (arith, later, kept.0), omega (arith, some, done, kept.1))
later_now old mid new count move.Next some later done kept = (omega (arith, later, kept.0), kept.1)
later_now old mid new count (move.Ends verdict) some later done kept =
    subst (λ (o : Option ℕ). IfSome o (λ at. old.at.time ≤ at)) (sym kept) tt

-- contact is lost no earlier than the batch begins
lost_late : (stand : Stand) (exec : ℕ) (cycles : List Cycle) (old new : Between) (instant : ℕ) → FitCode stand.code stand.skews
    → IsProgram stand.code → LosesContactIn stand exec cycles old new instant → old.time ≤ instant
lost_late stand exec cycles old new instant fit program l =
    let mid = ap (λ (g : Going). g.time) l.plays.going in
    let grows = time_grows stand fit program exec (going_in old) l.done in
    let late = call_late stand fit program exec (going_in l.mid) l.cycle instant l.loses.at in
    omega (arith, mid, grows, late)

-- what is so of a try that runs on behind a batch
pub moved_on : (ground : Ground) (told told' : Told) (old mid new : Run) (count : ℕ) (result : Result Move NoMemory)
    → IsRunOn (code_in ground) (device_in ground) told old → 1 ≤ count → PlaysBatch ground count told told' old mid
    → IfOk result (λ m. (d : Device) (t : Told) → IsRunOn (code_in ground) d t mid → GoesOnSo (code_in ground) d t new m)
    → IfOk result (λ m. KeepsTime mid new m) → new.at.bench.checker ≡ mid.at.bench.checker
    → IfOk result (λ m. HasMoved (code_in ground) (device_in ground) told' old new m)
moved_on ground told told' old mid new count (Ok m) r some batch fits kept checker =
    let seen = batch.plays.finds r.keep r.found r.seen in
    let before = counted (device_in ground) r.keep r.found old.at.bench.checker r.seen in
    let after = counted (device_in ground) r.keep _ mid.at.bench.checker seen in
    record {
      fits = fits (device_in ground) told' batch.runs;
      seen = subst IsSeen (sym checker) (_, seen);
      keep = ap (λ (h : Held). h.count.keep) checker ∙ after.most ∙ sym before.most;
      later = later_now old mid new count m some batch.later batch.done kept;
    }
moved_on ground told told' old mid new count (Err e) r some batch fits kept checker = tt

-- and of one that has lost contact in it
pub moved_away : (ground : Ground) (told told' : Told) (old new : Run) (cycles : List Cycle) (instant : ℕ)
    → IsRunOn (code_in ground) (device_in ground) told old → FitCode (code_in ground) ground.skews.now
    → LosesContactIn (stand_in ground) old.exec cycles (between_of told old.at) (between_of told' new.at) instant
    → HasMoved (code_in ground) (device_in ground) told' old new (move.Ends (verdict.Contact instant))
moved_away ground told told' old new cycles instant r fit lost =
    let found = lost.loses.finds r.keep _ (lost.plays.finds r.keep r.found r.seen) in
    let before = counted (device_in ground) r.keep r.found old.at.bench.checker r.seen in
    record {
      fits = tt;
      seen = (found.history, found.seen);
      keep = (counted_open r.keep _ new.at.bench.checker found).most ∙ sym before.most;
      later = lost_late (stand_in ground) old.exec cycles (between_of told old.at) (between_of told' new.at) instant fit r.cursor.placed.program
          lost;
    }
