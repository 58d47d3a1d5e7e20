use Rattle.die_words.proofs.WordLemmas.{put_one, put_zero, other_one, other_zero}
use Rattle.die_words.proofs.word.put_fault.Goals as goal

pub returns-then-value-clause-here : goal.returns-then-value-clause-here
returns-then-value-clause-here c = put_one c.args.force c.args.lane c.args.value c.requires c.if-value.true

pub returns-then-value-clause-others : goal.returns-then-value-clause-others
returns-then-value-clause-others c = other_one c.args.force c.args.lane c.requires

pub returns-else-value-clause-here : goal.returns-else-value-clause-here
returns-else-value-clause-here c = put_zero c.args.force c.args.lane c.args.value c.requires c.if-value.false

pub returns-else-value-clause-others : goal.returns-else-value-clause-others
returns-else-value-clause-others c = other_zero c.args.force c.args.lane c.requires
