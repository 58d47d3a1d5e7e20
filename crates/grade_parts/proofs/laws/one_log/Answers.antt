use Rattle.grade_parts.proofs.LogLemmas as logs
use Rattle.grade_parts.proofs.laws.one_log.Goals as goal

pub returns : goal.returns
returns c = λ text a b is was. logs.one_log text a b is was
