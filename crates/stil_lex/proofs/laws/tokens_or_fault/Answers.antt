use Rattle.stil_lex.proofs.Readings.{tokens_or_refusal}
use Rattle.stil_lex.proofs.laws.tokens_or_fault.Goals as goal

pub returns : goal.returns
returns c = λ bytes tokens fault reads f. tokens_or_refusal bytes tokens fault reads f.here
