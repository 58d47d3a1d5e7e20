-- What comes of a try behind a batch, as a poll has it.
use Rattle.std.proofs.Common.{◌≡◌, ℕ, ◌+◌, ◌<◌, ◌≤◌, Bool, cond, length, drop, Option, Some, None, sym, ap, ◌∙◌, subst, arith}
use Rattle.std.specs.Prelude.{Result, Ok, Err, IfOk, nat_lt}
use Rattle.std.specs.Option.{option_map_or}
use Rattle.std.proofs.lemmas.Bool.{lt-ltb, le-ltb}
use Rattle.tester_types.specs.declared.outside.NoMemory.{NoMemory}
use Rattle.tester_types.specs.declared.record.Verdict.TheVariants as verdict
use Rattle.packed_code.specs.Program.{Program}
use Rattle.packed_code.specs.Conditions.{IsProgram}
use Rattle.packed_code.specs.Cycles.{cycles_of}
use Rattle.pattern_mem.specs.Cursor.{cycles_to_come, IsCursorOf}
use Rattle.die_sim.specs.Die.{Device}
use Rattle.die_sim.specs.Socket.{Told}
use Rattle.strobe_check.specs.History.{Held, HasSeen, Answers, total_of}
use Rattle.site_meaning.specs.Part.{Part}
use Rattle.site_meaning.specs.Polls.{Running, Step, goes, ends, ended_now, with_exec, next_exec, onward, settled}
use Rattle.site_run.specs.declared.run.Run.{Run}
use Rattle.site_run.specs.declared.run.Move.{Move}
use Rattle.cycle_run.specs.Cycle.{closed_with}
use Rattle.cycle_run.specs.Step.{FitsBench}
use Rattle.site_run.specs.Seat.{running_of, IsRunOn, IsBefore, IsSeen, IsMove, GoesOnSo}
use Rattle.cycle_run.proofs.FitLemmas.{few_cycles}

-- the count of a checker, whatever it has seen
pub total_is : (held : Held) (total : ℕ) → IsSeen held → Answers total_of held total → total ≡ held.count.total
total_is held total seen answers = answers seen.0 seen.1 ∙ sym seen.1.count.all

-- ---- the next executive

pub onward_some : (part : Part) (number : ℕ) (running : Running) (from exec : ℕ) (code : Program) → part.code ≡ code
    → Some exec ≡ next_exec code from → onward part number running from ≡ goes (with_exec running exec)
unfolding onward
onward_some part number running from exec code is found =
    ap (λ (o : Option ℕ). option_map_or (λ e. goes (with_exec running e)) o (ends (ended_now number running verdict.Pass)))
    (ap (λ (p : Program). next_exec p from) is ∙ sym found)

pub onward_none : (part : Part) (number : ℕ) (running : Running) (from : ℕ) (code : Program) → part.code ≡ code
    → None ≡ next_exec code from → onward part number running from ≡ ends (ended_now number running verdict.Pass)
unfolding onward
onward_none part number running from code is none =
    ap (λ (o : Option ℕ). option_map_or (λ e. goes (with_exec running e)) o (ends (ended_now number running verdict.Pass)))
    (ap (λ (p : Program). next_exec p from) is ∙ sym none)

-- a try that comes to an executive can run it
pub runs_on : (code : Program) (device : Device) (told : Told) (old new : Run) (from : ℕ) → IsBefore device told old from
    → from ≤ new.exec → new.exec < length code.execs → IsCursorOf code new.cursor
    → cycles_to_come code new.cursor ≡ cycles_of code new.exec → new.done ≡ 0 → new.batch ≡ old.batch → new.at.bench ≡ old.at.bench
    → new.at.number ≡ old.at.number → new.at.time ≡ old.at.time
    → IsRunOn code device told new
runs_on code device told old new from b after within cursor coming done batch bench number time = record {
  exec = within;
  cursor = cursor;
  coming = coming ∙ ap (λ (n : ℕ). drop n (cycles_of code new.exec)) (sym done);
  room = subst (λ x. FitsBench (length device.binds) x.last.items x.levels.items) (sym bench) b.room;
  loaded = b.loaded;
  state = b.state;
  keep = b.keep;
  found = b.found;
  seen = subst (λ x. HasSeen (closed_with device b.keep b.found) x.checker) (sym bench) b.seen;
  done = omega (arith, done);
  number = let a = b.number in omega (arith, a, number, after);
  time = let a = b.time in omega (arith, a, number, time);
  batch = let a = b.batch in omega (arith, a, number, batch);
}

-- ---- behind a batch

-- what follows where the executive has ended
abbrev behind_exec : Part → ℕ → Running → Step
behind_exec part number running =
    cond (nat_lt 0 running.total) (ends (ended_now number running (verdict.Fail running.exec)))
    (onward part number running (running.exec + 1))

pub settled_more : (part : Part) (number : ℕ) (running : Running) (code : Program) → part.code ≡ code
    → running.done < length (cycles_of code running.exec) → settled part number running ≡ goes running
unfolding settled
settled_more part number running code is more =
    let all = ap (λ (p : Program). length (cycles_of p running.exec)) is in
    ap (λ (b : Bool). cond b (goes running) (behind_exec part number running))
    (lt-ltb running.done (length (cycles_of part.code running.exec)) (omega (arith, all, more)))

settled_over : (part : Part) (number : ℕ) (running : Running) (code : Program) → part.code ≡ code
    → length (cycles_of code running.exec) ≤ running.done → settled part number running ≡ behind_exec part number running
unfolding settled
settled_over part number running code is over =
    let all = ap (λ (p : Program). length (cycles_of p running.exec)) is in
    ap (λ (b : Bool). cond b (goes running) (behind_exec part number running))
    (le-ltb running.done (length (cycles_of part.code running.exec)) (omega (arith, all, over)))

pub settled_fail : (part : Part) (number : ℕ) (running : Running) (code : Program) → part.code ≡ code
    → length (cycles_of code running.exec) ≤ running.done → 0 < running.total
    → settled part number running ≡ ends (ended_now number running (verdict.Fail running.exec))
settled_fail part number running code is over some =
    settled_over part number running code is over
    ∙ ap (λ (b : Bool). cond b (ends (ended_now number running (verdict.Fail running.exec))) (onward part number running (running.exec + 1)))
    (lt-ltb 0 running.total some)

pub settled_on : (part : Part) (number : ℕ) (running : Running) (code : Program) → part.code ≡ code
    → length (cycles_of code running.exec) ≤ running.done → running.total ≤ 0
    → settled part number running ≡ onward part number running (running.exec + 1)
settled_on part number running code is over none =
    settled_over part number running code is over
    ∙ ap (λ (b : Bool). cond b (ends (ended_now number running (verdict.Fail running.exec))) (onward part number running (running.exec + 1)))
    (le-ltb 0 running.total none)

-- a try whose executive has ended comes to the next one
pub comes_before : (code : Program) (device : Device) (told : Told) (run : Run) → IsProgram code → IsRunOn code device told run
    → IsBefore device told run (run.exec + 1)
comes_before code device told run program r = record {
  room = r.room;
  loaded = r.loaded;
  state = r.state;
  keep = r.keep;
  found = r.found;
  seen = r.seen;
  number = let few = few_cycles code run.exec program r.exec in omega (arith, few, r.done, r.number);
  time = r.time;
  batch = r.batch;
}

-- what is so of the next executive is so behind the batch
pub moves_on : (code : Program) (old new : Run) (from : ℕ) (result : Result Move NoMemory)
    → ((part : Part) (number : ℕ) (told : Told) → part.code ≡ code
    → settled part number (running_of told old) ≡ onward part number (running_of told old) from)
    → IfOk result (λ m. (part : Part) (number : ℕ) (told : Told) → part.code ≡ code
    → IsMove number told new m (onward part number (running_of told old) from))
    → IfOk result (λ m. (part : Part) (number : ℕ) (told : Told) → part.code ≡ code
    → IsMove number told new m (settled part number (running_of told old)))
moves_on code old new from (Ok m) same on = λ part number told is.
    subst (λ (s : Step). IsMove number told new m s) (sym (same part number told is)) (on part number told is)
moves_on code old new from (Err e) same on = tt

pub fits_on : (code : Program) (old new : Run) (from : ℕ) (result : Result Move NoMemory)
    → ((device : Device) (told : Told) → IsRunOn code device told old → IsBefore device told old from)
    → IfOk result (λ m. (device : Device) (told : Told) → IsBefore device told old from → GoesOnSo code device told new m)
    → IfOk result (λ m. (device : Device) (told : Told) → IsRunOn code device told old → GoesOnSo code device told new m)
fits_on code old new from (Ok m) before on = λ device told r. on device told (before device told r)
fits_on code old new from (Err e) before on = tt
