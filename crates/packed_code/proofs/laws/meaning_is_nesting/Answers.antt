use Rattle.packed_code.proofs.NestingLemmas.{Means-Runs, Runs-Means}
use Rattle.packed_code.proofs.laws.meaning_is_nesting.Goals as goal

pub returns-clause-is : goal.returns-clause-is
returns-clause-is c = Means-Runs

pub returns-clause-has : goal.returns-clause-has
returns-clause-has c = Runs-Means
