use Rattle.grade_parts.proofs.LineLemmas.{first_found}
use Rattle.grade_parts.proofs.reading.first_line.Goals as goal

pub returns : goal.returns
returns c =
    first_found c.args.text.now c.peek.result (rw c.new.ensures.rest at c.peek.ensures.found)
    (rw c.new.ensures.rest at c.peek.ensures.none)
