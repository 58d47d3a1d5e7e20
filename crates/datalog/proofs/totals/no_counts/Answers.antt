use Rattle.std.proofs.Common.{refl}
use Rattle.datalog.proofs.CountLemmas.{counts_start}
use Rattle.datalog.proofs.totals.no_counts.Goals as goal

pub returns : goal.returns
returns c = counts_start 100 _ refl refl
