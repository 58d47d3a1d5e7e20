use Rattle.block_forms.proofs.DeclaredLemmas.{indexed-push}
use Rattle.block_forms.proofs.declared.Declared.with.Goals as goal

pub invariant_of-result : goal.invariant_of-result
invariant_of-result c =
    rw (c.in_ok-push.ensures.items)
    (indexed-push c.self.inside.pairs.items c.args.title c.args.called c.self.inside.index c.add_pair.new.index c.self.inside.counts
    c.add_one.new.counts c.self.invariant c.in_ok-add_pair.ensures c.in_ok-add_one.ensures)
