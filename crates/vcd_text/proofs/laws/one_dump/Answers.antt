use Rattle.vcd_text.proofs.FaultLemmas as law
use Rattle.vcd_text.proofs.laws.one_dump.Goals as goal

pub returns : goal.returns
returns c = law.one_dump
