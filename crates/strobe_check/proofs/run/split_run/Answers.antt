use Rattle.std.proofs.Common.{eqb, arith}
use Rattle.std.proofs.lemmas.List.Sums.{prefix_len-le-length}
use Rattle.strobe_check.proofs.RunLemmas.{SplitsRun-run}
use Rattle.strobe_check.proofs.run.split_run.Goals as goal

pub split_at-requires : goal.split_at-requires
split_at-requires c =
    omega (arith, c.run_len.ensures, prefix_len-le-length (λ look. eqb look.0 c.args.signal) c.args.looks.now)

pub returns-then-sorted : goal.returns-then-sorted
returns-then-sorted c =
    rw (c.split_at.ensures.front, c.split_at.ensures.back)
    (SplitsRun-run c.args.sorted c.args.signal c.run_len.result c.args.looks.now c.if-sorted.true c.run_len.ensures)
