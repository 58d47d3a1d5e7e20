use Rattle.vcd_text.proofs.LawLemmas.{only_these, refused_there}
use Rattle.vcd_text.proofs.read.read_dump.Goals as goal

pub returns-clause-only : goal.returns-clause-only
returns-clause-only c = only_these c.args.bytes.now c.read_whole.result c.read_whole.ensures

pub returns-clause-refused : goal.returns-clause-refused
returns-clause-refused c = refused_there c.args.bytes.now c.read_whole.result c.read_whole.ensures
