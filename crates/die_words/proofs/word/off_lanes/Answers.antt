use Rattle.std.proofs.Common.{◌∙◌, arith}
use Rattle.std.proofs.lemmas.Nat.{or_lt}
use Rattle.die_words.proofs.WordLemmas.{off_there, off_nowhere}
use Rattle.die_words.proofs.word.off_lanes.Goals as goal

pub returns-then-off : goal.returns-then-off
returns-then-off c = λ k f x within h e. off_there c.args.force k f x (or_lt 64 c.args.force.zeros c.args.force.ones (omega arith) (omega arith)) within h (e ∙ c.if-off.true)

pub returns-else-off : goal.returns-else-off
returns-else-off c = λ k f x within h e. off_nowhere c.args.force k f x h (e ∙ c.if-off.false)
