use Rattle.std.proofs.Common.{◌∙◌, Bool, List, refl, sym, subst}
use Rattle.die_sim.specs.Moment.{edge}
use Rattle.die_sim.specs.Stepped.{captured_levels}
use Rattle.die_words.specs.declared.word.Word.{Word}
use Rattle.die_words.specs.Lane.{AreFaults}
use Rattle.die_words.specs.Lanes.{AreOff}
use Rattle.die_words.specs.Fits.{GatesFit}
use Rattle.die_words.proofs.BoardLemmas.{IsLaneOf-stepped, AreOff-captured}
use Rattle.die_words.proofs.FitLemmas.{SourcesFit-kept, GatesWait-fit, settled_lane}
use Rattle.die_words.proofs.board.step_nets.Goals as goal

pub returns-clause-fit : goal.returns-clause-fit
returns-clause-fit c =
    let net = c.args.net.now in
    let was = c.put_all.ensures.fit in
    let gates = subst (λ (f : List Word). GatesFit net f c.walk.new.words.items) c.as_slice.ensures.value c.walk.ensures.gates in
    record {
      forces = was.forces;
      offs = was.offs;
      held = was.held;
      words = c.walk.ensures.count ∙ was.words;
      inputs = was.inputs;
      sources = SourcesFit-kept net c.put_all.new.nets.forces.items c.put_all.new.nets.held.items c.put_all.new.nets.words.items c.walk.new.words.items c.walk.ensures.kept was.sources;
      gates = GatesWait-fit net c.put_all.new.nets.forces.items c.walk.new.words.items c.walk.new.pending c.walk.ensures.seats gates;
    }

pub returns-clause-lanes : goal.returns-clause-lanes
returns-clause-lanes c = λ k device state within h.
    let net = c.args.net.now in
    let drivers = net.net.drivers in
    let fit = returns-clause-fit c in
    let forces_are = c.put_all.ensures.forces ∙ c.clock_nets.ensures.forces in
    let gates = subst (λ (f : List Word). GatesFit net f c.walk.new.words.items) c.as_slice.ensures.value c.walk.ensures.gates in
    IsLaneOf-stepped _ _ c.args.drives.now k device state c.requires.board.whole refl forces_are c.requires.clock
    (λ v own levels held. c.put_all.ensures.lanes k (captured_levels drivers (edge c.args.was c.args.now) v own) within
    (c.clock_nets.ensures.lanes k v own levels held))
    (λ v own held off. c.put_all.ensures.offs (captured_levels drivers (edge c.args.was c.args.now) v own)
    (subst (λ (o : List Bool). AreOff o (captured_levels drivers (edge c.args.was c.args.now) v own)) (sym c.clock_nets.ensures.offs)
    (AreOff-captured drivers c.args.was c.args.now v own c.args.nets.now.offs.items c.requires.fit.inputs off)))
    (λ fixed own faults held. settled_lane net c.requires.board.whole c.put_all.new.nets.forces.items c.put_all.new.nets.held.items c.walk.new.words.items
    fit.forces fit.held fit.words fit.sources gates k within fixed own
    (subst (λ (f : List Word). AreFaults f k fixed) (sym forces_are) faults) held)
    h
