use Rattle.std.proofs.Common.{sym}
use Rattle.std.proofs.lemmas.List.{take_rest}
use Rattle.bench_net.proofs.TextLemmas.{lines-Some, lines-None, drop_whole}
use Rattle.bench_net.proofs.text.first_line.Goals as goal

pub returns-in-Some-clause-line : goal.returns-in-Some-clause-line
returns-in-Some-clause-line c =
    rw (take_rest, c.strip_return.ensures)
    (lines-Some c.args.text.now c.in-Some.end (sym c.in-Some.ensures))

pub returns-in-None-clause-line : goal.returns-in-None-clause-line
returns-in-None-clause-line c =
    rw (take_rest, drop_whole) (lines-None c.args.text.now c.requires (sym c.in-None.ensures))
