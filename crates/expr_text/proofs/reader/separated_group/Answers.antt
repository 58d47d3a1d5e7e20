use Rattle.std.proofs.Common.{ap}
use Rattle.expr_text.specs.Tree.{extreme, tree_of}
use Rattle.expr_text.specs.Machine.{some_operands}
use Rattle.expr_text.proofs.TreeLemmas.{others-push}
use Rattle.expr_text.proofs.reader.separated_group.Goals as goal

pub returns-in_ok-push-in-Operands : goal.returns-in_ok-push-in-Operands
returns-in_ok-push-in-Operands c =
    rw c.in-Operands.is (ap some_operands
    (others-push
    (extreme c.in-Operands.bound
    (tree_of c.in-Operands.first)) c.in-Operands.others.items
    c.push.new.self.items c.args.operand c.in_ok-push-in-Operands.ensures.items))
