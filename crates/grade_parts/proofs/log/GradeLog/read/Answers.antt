use Rattle.grade_parts.specs.Reads.{said_good}
use Rattle.grade_parts.proofs.ReadLemmas.{reads_only, reads_refused}
use Rattle.grade_parts.proofs.log.GradeLog.read.Goals as goal

pub returns-clause-only : goal.returns-clause-only
returns-clause-only c = λ before told log knows is has.
    reads_only (said_good c.args.good) before told c.args.last c.args.text.now log c.read_text.new.told c.read_text.result
    (c.read_text.ensures before knows) is has

pub returns-clause-refused : goal.returns-clause-refused
returns-clause-refused c = λ before n knows at.
    reads_refused (said_good c.args.good) before c.args.last c.args.text.now n c.read_text.new.told c.read_text.result
    (c.read_text.ensures before knows) at
