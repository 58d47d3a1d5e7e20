use Rattle.std.proofs.Common.{◌∙◌, sym}
use Rattle.grade_parts.specs.Reads.{said_good}
use Rattle.grade_parts.proofs.ReadLemmas.{fault_good, none_there, other_there}
use Rattle.grade_parts.proofs.reading.read_text.Goals as goal
use Rattle.grade_parts.proofs.reading.read_text.Goals.{in_default-via-in-Some+else-may_be, in_default-via-in_default}

pub returns-in_default : goal.returns-in_default
returns-in_default c = λ before knows.
    (let said = said_good c.args.good in
    let text = c.args.text.now in
    elim c.in_default.branch [
      | in_default-via-in-Some+else-may_be w ↦ fault_good said before c.args.last text c.requires.good knows.named
          (other_there said text w.in-Some.line.now w.in-Some.ensures.0 (sym w.may_be.ensures ∙ w.if-may_be.false))
      | in_default-via-in_default w ↦ fault_good said before c.args.last text c.requires.good knows.named
          (none_there said text w.in_default.ensures)
    ])
