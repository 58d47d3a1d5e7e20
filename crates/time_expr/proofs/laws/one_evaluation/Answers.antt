use Rattle.time_expr.proofs.TimesLemmas as lemmas
use Rattle.time_expr.proofs.laws.one_evaluation.Goals as goal

pub returns : goal.returns
returns c = lemmas.one_evaluation
