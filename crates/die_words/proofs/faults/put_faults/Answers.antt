use Rattle.std.proofs.Common.{length, sym, subst, List}
use Rattle.std.proofs.lemmas.List.{get_or_default}
use Rattle.die_words.specs.declared.word.Word.{Word}
use Rattle.die_words.proofs.FaultLemmas.{AreLaid, AreLaid-none, AreLaid-more}
use Rattle.die_words.proofs.faults.put_faults.Goals as goal

pub loop-lane-init : goal.loop-lane-init
loop-lane-init c =
    let nets = length c.args.forces.now.items in
    subst (λ (f : List Word). AreLaid nets c.args.faults.now f 0) (sym c.clear.ensures) (AreLaid-none nets c.args.faults.now)

pub loop-lane-preserved : goal.loop-lane-preserved
loop-lane-preserved c =
    let i = c.loop-lane.lane in
    AreLaid-more (length c.args.forces.now.items) c.args.faults.now c.loop-lane.forces.items c.put_one.new.forces.items i _
    (λ d. get_or_default c.args.faults.now i d _ c.loop-lane-test.true) (c.requires.within.each i _ c.loop-lane-test.true)
    c.put_one.ensures.count c.put_one.ensures.here c.put_one.ensures.lanes c.put_one.ensures.others c.loop-lane.invariant
