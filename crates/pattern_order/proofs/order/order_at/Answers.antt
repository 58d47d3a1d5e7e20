use Rattle.std.proofs.Common.{List, get_or, ap, ◌∙◌}
use Rattle.stil_ast.specs.declared.blocks.Blocks.{Blocks}
use Rattle.stil_ast.specs.declared.executive.ExecDecl.{ExecDecl}
use Rattle.pattern_order.proofs.OrderLemmas.{orders-of}
use Rattle.pattern_order.proofs.order.order_at.Goals as goal

pub returns : goal.returns
returns c = λ e at.
    orders-of c.args.names.now c.args.exec e _ c.ordered.result at
    (c.index-as_slice-exec.is
    ∙ ap (λ (xs : List ExecDecl). get_or xs c.args.exec c.index-as_slice-exec.result)
    (c.as_slice.ensures ∙ ap (λ (bs : Blocks). bs.executives) c.blocks-2.ensures)) c.ordered.ensures
