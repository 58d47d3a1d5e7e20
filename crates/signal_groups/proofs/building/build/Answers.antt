use Rattle.signal_groups.proofs.FourthLemmas.{fourth-four, fourth-is}
use Rattle.signal_groups.proofs.building.build.Goals as goal

pub returns-clause-found : goal.returns-clause-found
returns-clause-found c = (fourth-four c.args.blocks.now c.built.result c.built.ensures).found

pub returns-clause-only : goal.returns-clause-only
returns-clause-only c = (fourth-four c.args.blocks.now c.built.result c.built.ensures).only

pub returns-clause-fault : goal.returns-clause-fault
returns-clause-fault c =
    fourth-is c.args.blocks.now c.built.result (fourth-four c.args.blocks.now c.built.result c.built.ensures).refuses

pub returns-clause-refused : goal.returns-clause-refused
returns-clause-refused c = (fourth-four c.args.blocks.now c.built.result c.built.ensures).refused
