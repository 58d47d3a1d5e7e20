use Rattle.std.proofs.Common.{◌≡◌, ◌+◌, ◌<◌, List, Option, length, false, ap, sym, subst, ◌∙◌, arith}
use Rattle.std.proofs.lemmas.List.{get_or_read, get_or_default, length-set}
use Rattle.tester_types.specs.declared.wave.Look.{Look}
use Rattle.tester_types.specs.declared.level.Level.TheVariants.{X}
use Rattle.tester_types.specs.declared.cycle.Moment.{Moment}
use Rattle.strobe_check.specs.Entry.{Entry}
use Rattle.strobe_check.specs.Step.{looks_of}
use Rattle.strobe_check.specs.History.{Held, HasSeen}
use Rattle.strobe_check.specs.Ahead.{HasLeft}
use Rattle.strobe_check.proofs.PassLemmas.{HasLeft-on, HasLeft-cut}
use Rattle.strobe_check.proofs.UnderwayLemmas.{IsUnderway, IsUnderway-none, IsUnderway-on, IsUnderway-judged, IsUnderway-unbound, HasSeen-entry}
use Rattle.strobe_check.proofs.checker.Checker.look_at.Goals as goal
use Rattle.strobe_check.proofs.checker.Checker.look_at.Goals.{then-index, else-index}

pub loop-signal-init : goal.loop-signal-init
loop-signal-init c =
    let sorted = c.are_sorted-sorted.result in
    let looks = c.args.looks.now in
    let next = c.next_place-signal in
    let all : (moment : Moment) → moment.looks ≡ looks → HasLeft moment sorted 0 looks = λ moment its_looks. record {
      all = λ k a. ap (looks_of k) (sym its_looks);
      ascends = c.are_sorted-sorted.ensures;
    } in
    let long : length c.self.inside.bound.items ≡ length c.self.inside.windows =
    omega (arith, c.self.invariant.0, c.self.inside.bound.ok.0) in
    record {
      same = ap (λ (h : Held). h.bound) c.self.view_is;
      long = long;
      most = c.self.invariant.1;
      levels_len = omega (arith, long, c.requires, ap (λ (h : Held). length h.bound) c.self.view_is);
      within = next.ensures.within;
      left = λ moment its_looks.
          HasLeft-on moment sorted c.self.inside.windows looks 0 next.result next.ensures.passes (all moment its_looks);
      underway = λ moment its_date its_looks history seen.
          IsUnderway-on history _ sorted looks 0 next.result _ _ _ next.ensures.passes (all moment its_looks) (omega (arith, long, next.ensures.within))
          (IsUnderway-none history _ _ (subst (HasSeen history) (sym c.self.view_is) seen));
    }

pub loop-signal-preserved : goal.loop-signal-preserved
loop-signal-preserved c =
    let i = c.loop-signal.signal in
    let now = c.loop-signal.self-inside in
    let before = c.loop-signal.invariant in
    let entry : Moment → Entry = λ moment. record {
      exec = c.args.exec;
      cycle = c.args.cycle;
      mark = c.args.mark;
      moment = moment;
      levels = c.args.levels.now;
    } in
    let sorted = c.are_sorted-sorted.result in
    let later = c.split_run.result.1.now in
    let next = c.next_place-signal-in-loop-signal in
    let left : (moment : Moment) → moment.looks ≡ c.args.looks.now → HasLeft moment sorted (i + 1) later = λ moment its_looks.
    HasLeft-cut moment sorted i c.loop-signal.rest.now c.split_run.result.0.now later c.split_run.ensures
    (before.left moment its_looks) in
    let within : i < length now.bound.items = omega (arith, before.long, c.loop-signal-test.true, c.len.ensures) in
    let read = get_or_read now.bound.items i c.index.result.now within c.index.ensures false in
    elim c.if-index.branch [
      | then-index w ↦
          let lit : i < length c.args.levels.now = omega (arith, before.long, before.levels_len, within) in
          let passes = rw w.self-inside-is at next.ensures.passes in
          let upto = rw w.self-inside-is at next.ensures.within in
          let same_long : length w.put.new.self ≡ length now.windows =
          ap (λ (l : List (Option Look)). length l) w.put.ensures ∙ length-set now.windows i w.judge-left.result in
          rw w.self-inside-is (record {
            same = before.same;
            long = before.long ∙ sym same_long;
            most = omega (arith, before.most, same_long);
            levels_len = omega (arith, before.levels_len, same_long);
            within = upto;
            left = λ moment its_looks.
                HasLeft-on moment sorted w.put.new.self later (i + 1) next.result passes (left moment its_looks);
            underway = λ moment its_date its_looks history seen.
                let was = before.left moment its_looks in
                let own = c.split_run.ensures.here was.ascends ∙ was.all i (omega arith) in
                let counted = rw (own, sym its_date) at w.judge-left.ensures.counted in
                let opened = rw own at w.judge-left.ensures.stays in
                IsUnderway-on history _ sorted later (i + 1) next.result _ _ _ passes (left moment its_looks)
                (omega (arith, upto, before.long, same_long))
                (subst (λ (l : List (Option Look)). IsUnderway history (entry moment) (i + 1) now.bound.items l w.judge-left.new.tally)
                (sym w.put.ensures)
                (IsUnderway-judged history _ i _ _ _ _ _ _ _ (before.underway moment its_date its_looks history seen) within
                (sym read ∙ w.if-index.true) w.get.ensures (get_or_default c.args.levels.now i _ X lit) opened counted));
          })
      | else-index w ↦
          let passes = rw w.self-inside-is at next.ensures.passes in
          let upto = rw w.self-inside-is at next.ensures.within in
          rw w.self-inside-is (record {
            same = before.same;
            long = before.long;
            most = before.most;
            levels_len = before.levels_len;
            within = upto;
            left = λ moment its_looks.
                HasLeft-on moment sorted now.windows later (i + 1) next.result passes (left moment its_looks);
            underway = λ moment its_date its_looks history seen.
                IsUnderway-on history _ sorted later (i + 1) next.result _ _ _ passes (left moment its_looks)
                (omega (arith, upto, before.long))
                (IsUnderway-unbound history _ i _ _ _ (before.underway moment its_date its_looks history seen) within
                (sym read ∙ w.if-index.false));
          })
    ]

pub returns-clause-seen : goal.returns-clause-seen
returns-clause-seen c = λ moment its_date its_looks history seen.
    let after = c.loop-signal.invariant in
    HasSeen-entry history _ _ _ (after.underway moment its_date its_looks history seen)
    (omega (arith, after.long, c.loop-signal-test.false, c.len.ensures))
