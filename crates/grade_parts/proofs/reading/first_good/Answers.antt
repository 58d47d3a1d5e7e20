use Rattle.std.proofs.Common.{◌∙◌, sym, ap}
use Rattle.grade_parts.specs.Log.{is_good}
use Rattle.grade_parts.proofs.LineLemmas.{one_first}
use Rattle.grade_parts.proofs.reading.first_good.Goals as goal

pub returns-else-is_good : goal.returns-else-is_good
returns-else-is_good c = λ line later e one.
    ap is_good (one_first c.args.text.now c.in_ok-line.line.now line later c.in_ok-line.ensures one e)
    ∙ sym c.is_good.ensures ∙ c.if-is_good.false
