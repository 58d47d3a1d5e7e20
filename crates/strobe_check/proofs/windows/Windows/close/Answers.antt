use Rattle.std.proofs.Common.{length, None, ◌∙◌, arith}
use Rattle.strobe_check.proofs.ListLemmas.{all_same}
use Rattle.strobe_check.proofs.windows.Windows.close.Goals as goal

pub returns : goal.returns
returns c =
    let done = c.loop-signal.invariant in
    c.self.view_is
    ∙ all_same c.loop-signal.self (length c.args.self.now) None done.long
    (λ k l. done.none k (omega (arith, l, done.long, c.len.ensures, c.loop-signal-test.false)))
