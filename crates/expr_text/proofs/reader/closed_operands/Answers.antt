use Rattle.std.proofs.Common.{◌∙◌}
use Rattle.expr_text.specs.Tree.{extreme, tree_of}
use Rattle.expr_text.proofs.TreeLemmas.{others-push}
use Rattle.expr_text.proofs.reader.closed_operands.Goals as goal

pub returns : goal.returns
returns c =
    c.in_ok-extreme_expr.ensures
    ∙ others-push (extreme c.args.bound (tree_of c.args.first)) c.args.others.items c.push.new.self.items c.args.operand
    c.in_ok-push.ensures.items
