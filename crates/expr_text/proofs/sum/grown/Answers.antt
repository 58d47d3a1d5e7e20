use Rattle.std.proofs.Common.{ap, Some}
use Rattle.expr_text.specs.Tree.{Tree, chain, tree_of}
use Rattle.expr_text.proofs.TreeLemmas.{links-push}
use Rattle.expr_text.proofs.sum.grown.Goals as goal

pub returns : goal.returns
returns c =
    let o = c.in-Some.operands in
    let more =
    links-push (chain
    (tree_of o.first)) o.links.items c.push.new.self.items o.next c.args.last c.in_ok-push.ensures.items in
    rw c.in-Some.is (ap (λ (t : Tree). Some (record { tree = t; next = c.args.next })) more)
