use Rattle.std.proofs.Common.{List, sym, ◌∙◌, take, subst}
use Rattle.tester_types.specs.declared.level.Level.{Level}
use Rattle.die_sim.specs.declared.image.Bind.{Bind}
use Rattle.die_sim.specs.Die.{IsNetBind}
use Rattle.die_sim.specs.Moment.{put_all}
use Rattle.die_words.specs.Lane.{IsLane}
use Rattle.die_words.specs.Lanes.{AreOff}
use Rattle.die_words.proofs.DriveLemmas.{put_all-more, put_all-done}
use Rattle.die_words.proofs.drives.put_all.Goals as goal

pub put_at-requires-clause-bind : goal.put_at-requires-clause-bind
put_at-requires-clause-bind c = subst (λ (b : Bind). IsNetBind c.args.net.now.net.drivers b) (sym c.bind_at.ensures) (c.requires.bound _)

pub loop-signal-preserved : goal.loop-signal-preserved
loop-signal-preserved c =
    let i = c.loop-signal.signal-index in
    let binds = c.args.bind.now.nets in
    let drives = c.args.drives.now in
    record {
      fit = c.put_at.ensures.fit;
      forces = c.put_at.ensures.forces ∙ c.loop-signal.invariant.forces;
      lanes = λ k own within lane.
          subst (λ (l : List Level). IsLane c.put_at.new.nets.held.items k l)
          (put_all-more binds own drives i _ c.bind_at.result c.loop-signal-test.true c.bind_at.ensures)
          (c.put_at.ensures.lanes k (put_all binds own (take i drives)) within (c.loop-signal.invariant.lanes k own within lane));
      offs = λ own off.
          subst (λ (l : List Level). AreOff c.put_at.new.nets.offs.items l)
          (put_all-more binds own drives i _ c.bind_at.result c.loop-signal-test.true c.bind_at.ensures)
          (c.put_at.ensures.offs (put_all binds own (take i drives)) (c.loop-signal.invariant.offs own off));
    }

pub returns-clause-lanes : goal.returns-clause-lanes
returns-clause-lanes c = λ k own within lane.
    subst (λ (l : List Level). IsLane c.loop-signal.nets.held.items k l)
    (put_all-done c.args.bind.now.nets own c.args.drives.now c.loop-signal.signal-index c.loop-signal-test.false)
    (c.loop-signal.invariant.lanes k own within lane)

pub returns-clause-offs : goal.returns-clause-offs
returns-clause-offs c = λ own off.
    subst (λ (l : List Level). AreOff c.loop-signal.nets.offs.items l)
    (put_all-done c.args.bind.now.nets own c.args.drives.now c.loop-signal.signal-index c.loop-signal-test.false)
    (c.loop-signal.invariant.offs own off)
