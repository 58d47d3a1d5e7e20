use Rattle.std.proofs.Common.{sym, subst}
use Rattle.die_sim.specs.declared.image.Bind.{Bind}
use Rattle.die_sim.specs.Die.{IsNetBind}
use Rattle.die_sim.specs.Moment.{put_at}
use Rattle.die_words.specs.Lane.{IsLane}
use Rattle.die_words.specs.Lanes.{AreOff}
use Rattle.die_words.proofs.drives.put_at.Goals as goal

pub put_input-requires-clause-within : goal.put_input-requires-clause-within
put_input-requires-clause-within c = (subst (λ (b : Bind). IsNetBind c.args.net.now.net.drivers b) c.in-Input.is c.requires.bind).0

pub put_input-requires-clause-input : goal.put_input-requires-clause-input
put_input-requires-clause-input c = (subst (λ (b : Bind). IsNetBind c.args.net.now.net.drivers b) c.in-Input.is c.requires.bind).1

pub returns-in-Input-clause-lanes : goal.returns-in-Input-clause-lanes
returns-in-Input-clause-lanes c = λ k own within lane.
    subst (λ (b : Bind). IsLane c.put_input.new.nets.held.items k (put_at b c.args.drive own)) (sym c.in-Input.is)
    (c.put_input.ensures.lanes k own within lane)

pub returns-in-Input-clause-offs : goal.returns-in-Input-clause-offs
returns-in-Input-clause-offs c = λ own off.
    subst (λ (b : Bind). AreOff c.put_input.new.nets.offs.items (put_at b c.args.drive own)) (sym c.in-Input.is)
    (c.put_input.ensures.offs own off)
