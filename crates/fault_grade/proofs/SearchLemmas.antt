-- A try goes from executive to executive up to its first fail.
use Rattle.std.proofs.Common.{◌≡◌, ℕ, ◌+◌, ◌-◌, ◌<◌, ◌≤◌, ℤ, List, [], ◌∷◌, ◌++◌, length, map, take, Option, Some, None, refl, sym, ap, ◌∙◌, arith}
use Rattle.std.specs.List.{range_with_len}
use Rattle.std.specs.Option.{option_or}
use Rattle.std.proofs.lemmas.List.{append-nil}
use Rattle.tester_types.specs.declared.record.Fail.{Fail}
use Rattle.packed_code.specs.Program.{Program}
use Rattle.packed_code.specs.Cycles.{cycles_of}
use Rattle.strobe_check.specs.History.{HasSeen, Answers, kept_of}
use Rattle.strobe_check.proofs.HistoryLemmas.{fails-none}
use Rattle.die_sim.specs.Die.{Image, Device, device_of}
use Rattle.site_meaning.specs.Playing.{Stand, Going, bound_of, starting}
use Rattle.site_meaning.specs.Trials.{played, after_cycles, fails_in, execs_of}
use Rattle.cycle_run.specs.Cycle.{Point, stand_of, closed_with}
use Rattle.cycle_run.specs.Batch.{Between, going_in}
use Rattle.word_run.specs.First.{first_fail, first_from, first_on}
use Rattle.word_run.specs.Run.{execs_left}
use Rattle.word_run.proofs.RunLemmas.{execs-next, execs-none, first_from-none, first_from-next}
use Rattle.fault_grade.specs.Search.{HasFirst, Finds, Passes}
use Rattle.fault_grade.proofs.FirstLemmas.{first_fail-take}

-- ---- from executive to executive

-- before the first executive
pub begins : (code : Program) (skews : List ℤ) (image : Image) (going : Going) → going ≡ starting (device_of image)
    → first_from (stand_of code skews (device_of image)) 0 going (execs_left code 0) ≡ first_on code skews image
unfolding first_on execs_of
begins code skews image going is =
    let all : length code.execs - 0 ≡ length code.execs = omega arith in
    ap (λ (g : Going). first_from (stand_of code skews (device_of image)) 0 g (execs_left code 0)) is
    ∙ ap (λ (n : ℕ). first_from (stand_of code skews (device_of image)) 0 (starting (device_of image)) (map (cycles_of code) (range_with_len 0 n))) all

-- the first of fails that are there, and others behind them
first-some : (found : List Fail) (later : Option ℕ) → 0 < length found → option_or (first_fail found) later ≡ first_fail found
first-some [] later some = absurd (omega (arith, some))
first-some (fail ∷ found) later some = refl

-- fails are there where their first one is that of others
some-too : (found all : List Fail) → 0 < length found → first_fail found ≡ first_fail all → 0 < length all
some-too [] all some same = absurd (omega (arith, some))
some-too (fail ∷ found) [] some same = absurd (let no : Some fail.cycle ≡ None = same in cc no)
some-too (fail ∷ found) (other ∷ all) some same = omega arith

module _ (code : Program) (stand : Stand) (exec : ℕ) (old new : Between) (first : Option ℕ) (within : exec < length code.execs)
    (rest : first_from stand exec (going_in old) (execs_left code exec) ≡ first) where
  -- what an executive and those behind it come to
  split : option_or (first_fail (fails_in (played stand exec (going_in old) (cycles_of code exec))))
      (first_from stand (exec + 1) (after_cycles stand (going_in old) (cycles_of code exec)) (execs_left code (exec + 1))) ≡ first
  split =
      sym (first_from-next stand exec (going_in old) (cycles_of code exec) (execs_left code (exec + 1)))
      ∙ ap (first_from stand exec (going_in old)) (sym (execs-next code exec within)) ∙ rest

  -- one of its cycles has a fail
  pub ends_here : Finds stand exec (cycles_of code exec) old new → HasFirst stand.device first new.point
  ends_here f =
      let all = fails_in (played stand exec (going_in old) (cycles_of code exec)) in
      record {
        fails = f.fails;
        seen = f.seen;
        is = f.first ∙ sym (first-some all _ (some-too f.fails all f.some f.first)) ∙ split;
      }

  -- or none has, and the next executive follows
  pub goes_on : Passes stand exec (cycles_of code exec) old new
      → first_from stand (exec + 1) (going_in new) (execs_left code (exec + 1)) ≡ first
  goes_on p =
      ap (λ (g : Going). first_from stand (exec + 1) g (execs_left code (exec + 1))) p.going
      ∙ ap (λ (l : List Fail). option_or (first_fail l)
      (first_from stand (exec + 1) (after_cycles stand (going_in old) (cycles_of code exec)) (execs_left code (exec + 1))))
      (sym p.none)
      ∙ split

-- no executive is left, and no fail was found
pub ends_clear : (code : Program) (stand : Stand) (exec : ℕ) (now : Between) (first : Option ℕ) → length code.execs ≤ exec
    → first_from stand exec (going_in now) (execs_left code exec) ≡ first
    → HasSeen (closed_with stand.device 1 []) now.point.held → HasFirst stand.device first now.point
ends_clear code stand exec now first past rest seen = record {
  fails = [];
  seen = seen;
  is = sym (first_from-none stand exec (going_in now))
      ∙ ap (first_from stand exec (going_in now)) (sym (execs-none code exec past)) ∙ rest;
}

-- ---- the end of a try

-- the fails that are kept begin with the first of all
pub kept_first : (device : Device) (first : Option ℕ) (point : Point) (kept : List Fail) → HasFirst device first point
    → Answers kept_of point.held kept → first_fail kept ≡ first
kept_first device first point kept has answers =
    let all = answers (closed_with device 1 has.fails) has.seen in
    let same : has.fails ++ _ ≡ has.fails = ap (λ (l : List Fail). has.fails ++ l) (fails-none (bound_of device)) ∙ append-nil has.fails in
    ap first_fail (all ∙ ap (take 1) same) ∙ first_fail-take has.fails ∙ has.is
