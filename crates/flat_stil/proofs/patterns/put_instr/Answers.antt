use Rattle.flat_stil.proofs.LineLemmas.{no_instr}
use Rattle.flat_stil.proofs.patterns.put_instr.Goals as goal

pub returns-in-Done : goal.returns-in-Done
returns-in-Done c = no_instr c.args.code.now c.args.instr c.args.sheet.now c.in-Done.is
