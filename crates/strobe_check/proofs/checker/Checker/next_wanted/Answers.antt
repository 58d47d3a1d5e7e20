use Rattle.std.proofs.Common.{◌+◌, ◌≤◌, Bool, List, Option, length, refl, sym, ap, subst, ◌∙◌, arith}
use Rattle.tester_types.specs.declared.wave.Look.{Look}
use Rattle.strobe_check.specs.History.{Held, Answers, sensed}
use Rattle.strobe_check.specs.Windows.{Passes}
use Rattle.strobe_check.specs.Ahead.{HasLeft}
use Rattle.strobe_check.proofs.PassLemmas.{HasLeft-cut}
use Rattle.strobe_check.proofs.AheadLemmas.{IsAsking-starts, IsAsking-goes_on, IsAsking-ends, asked}
use Rattle.strobe_check.proofs.checker.Checker.next_wanted.Goals as goal

pub loop-signal-init : goal.loop-signal-init
loop-signal-init c =
    let held = c.args.self.now in
    let ahead = c.args.ahead.now in
    let next = c.next_place-signal in
    let passes = subst (λ (w : List (Option Look)). Passes ahead.sorted ahead.looks.now w ahead.signal next.result)
    (ap (λ (h : Held). h.windows) c.self.view_is) next.ensures.passes in
    record {
      same = refl;
      within = omega (arith, next.ensures.within, ap (λ (h : Held). length h.windows) c.self.view_is);
      asking = λ moment stands.
          IsAsking-starts moment held ahead.sorted ahead.signal next.result ahead.looks.now passes stands;
    }

pub loop-signal-preserved : goal.loop-signal-preserved
loop-signal-preserved c =
    let held = c.args.self.now in
    let ahead = c.args.ahead.now in
    let signal = c.loop-signal.signal in
    let own = c.split_run.result.0.now in
    let later = c.split_run.result.1.now in
    let next = c.next_place-signal-in-loop-signal in
    let passes = subst (λ (w : List (Option Look)). Passes ahead.sorted later w (signal + 1) next.result)
    (ap (λ (h : Held). h.windows) c.self.view_is) next.ensures.passes in
    record {
      same = c.loop-signal.invariant.same;
      within = omega (arith, next.ensures.within, ap (λ (h : Held). length h.windows) c.self.view_is);
      asking = λ moment stands.
          IsAsking-goes_on moment held ahead.sorted ahead.signal signal next.result c.loop-signal.rest.now own later
          (c.loop-signal.invariant.asking moment stands) c.split_run.ensures (sym c.is_wanted.ensures ∙ c.if-is_wanted.false)
          passes;
    }

pub returns-then-is_wanted : goal.returns-then-is_wanted
returns-then-is_wanted c = λ moment stands.
    let held = c.args.self.now in
    let sorted = c.args.ahead.now.sorted in
    let signal = c.loop-signal.signal in
    let rest = c.loop-signal.rest.now in
    let own = c.split_run.result.0.now in
    let later = c.split_run.result.1.now in
    let asking = c.loop-signal.invariant.asking moment stands in
    let answer = asked moment held sorted c.args.ahead.now.signal signal rest own later asking c.split_run.ensures in
    record {
      onward = asking.onward;
      within = omega (
        arith,
        c.loop-signal-test.true,
        c.len.ensures,
        c.self.invariant.0,
        c.self.inside.bound.ok.0,
        ap (λ (h : Held). length h.bound) c.self.view_is,
      );
      skips = asking.skips;
      wanted = subst (λ (b : Bool). Answers (sensed moment signal) held b) (sym c.is_wanted.ensures ∙ c.if-is_wanted.true) answer;
      at = refl;
      stands = subst (λ (b : Bool). HasLeft moment b (signal + 1) later) (sym c.loop-signal.invariant.same)
          (HasLeft-cut moment sorted signal rest own later c.split_run.ensures asking.left);
    }

pub returns : goal.returns
returns c = λ moment stands.
    let past : length c.args.self.now.bound ≤ c.loop-signal.signal = omega (
      arith,
      c.loop-signal-test.false,
      c.len.ensures,
      c.self.invariant.0,
      c.self.inside.bound.ok.0,
      ap (λ (h : Held). length h.bound) c.self.view_is,
    ) in
    IsAsking-ends moment c.args.self.now c.args.ahead.now.sorted c.args.ahead.now.signal c.loop-signal.signal
    c.loop-signal.rest.now (c.loop-signal.invariant.asking moment stands) past
