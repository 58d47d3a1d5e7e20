use Rattle.std.proofs.Common.{map}
use Rattle.bench_net.specs.Line.{Spells}
use Rattle.bench_net.specs.Views.{lexeme_of}
use Rattle.bench_net.proofs.FormLemmas.{IfOk-said}
use Rattle.bench_net.proofs.line.read_line.Goals as goal

pub returns-in-Some : goal.returns-in-Some
returns-in-Some c =
    let spelled : Spells
    (map lexeme_of c.in-Some.parts.items) c.args.line.now = rw c.in-Some.is at c.in_ok-parts.ensures.parts in
    IfOk-said c.args.line.now (map lexeme_of c.as_slice.result.now)
    (rw c.as_slice.ensures.value spelled) c.said.result c.said.ensures
