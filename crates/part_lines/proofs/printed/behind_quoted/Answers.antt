use Rattle.part_lines.proofs.PrintedLemmas.{behind_quotes}
use Rattle.part_lines.proofs.printed.behind_quoted.Goals as goal

pub returns : goal.returns
returns c =
    behind_quotes c.args.text.now c.in_ok-inner.inner.now c.in_ok-closing.closing.now c.args.name.now c.behind-3.result
    c.in_ok-inner.ensures c.in_ok-closing.ensures c.behind-3.ensures
