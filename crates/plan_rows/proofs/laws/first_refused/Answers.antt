use Rattle.std.proofs.Common.{[], arith}
use Rattle.plan_rows.specs.Judging.{judge}
use Rattle.answers.proofs.ReadingLemmas.{length-reading}
use Rattle.plan_rows.proofs.FirstLemmas.{fault_is, is_fault}
use Rattle.plan_rows.proofs.laws.first_refused.Goals as goal

pub returns-clause-first : goal.returns-clause-first
returns-clause-first c = λ records fault. (fault_is records fault, is_fault records fault)

pub returns-clause-place : goal.returns-clause-place
returns-clause-place c = λ records rows is. omega (arith, length-reading judge [] rows records is)
