use Rattle.time_expr.proofs.KeptLemmas.{kept-spells}
use Rattle.time_expr.proofs.texts.TimeTexts.kept.Goals as goal

pub returns : goal.returns
returns c = kept-spells c.self.inside.exprs c.args.text.now c.get.result c.self.invariant c.get.ensures.value
