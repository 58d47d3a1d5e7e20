use Rattle.flat_laws.proofs.LawLemmas.{faults_are_limits}
use Rattle.flat_stil.proofs.FlatLemmas.{only_flat, only_long, only_fine, means_same}
use Rattle.flat_stil.proofs.flattening.flat.Goals as goal

pub returns-clause-same : goal.returns-clause-same
returns-clause-same c = means_same c.args.code.now c.flattened.result c.flattened.ensures.program c.requires c.flattened.ensures.answers

pub returns-clause-limit : goal.returns-clause-limit
returns-clause-limit c = λ fault first. faults_are_limits c.args.code.now fault c.flattened.ensures.program c.requires first

pub returns-clause-long : goal.returns-clause-long
returns-clause-long c = λ long. only_long c.args.code.now c.flattened.result c.flattened.ensures.answers long

pub returns-clause-flat : goal.returns-clause-flat
returns-clause-flat c = λ flat. only_flat c.args.code.now c.flattened.result c.flattened.ensures.answers flat

pub returns-clause-fine : goal.returns-clause-fine
returns-clause-fine c = λ flat. only_fine c.args.code.now c.flattened.result c.flattened.ensures.answers flat
