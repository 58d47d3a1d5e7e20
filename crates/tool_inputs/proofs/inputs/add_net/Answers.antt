use Rattle.std.proofs.Common.{ℕ, List, subst}
use Rattle.std.proofs.lemmas.Result.{err_from_is_err_and}
use Rattle.tool_inputs.specs.Inputs.{IsNetRefused}
use Rattle.tool_inputs.proofs.inputs.add_net.Goals as goal

pub returns-in_err-net-clause-reads : goal.returns-in_err-net-clause-reads
returns-in_err-net-clause-reads g c =
    let p = err_from_is_err_and c.from_residual.result c.from_residual.ensures.1 in
    rw (p.1, p.2)
    (subst (λ (name : List ℕ). IsNetRefused (g.F.Shelf.told c.args.shelf.now) (g.F.Shelf.faults c.args.shelf.now)
    (g.F.Shelf.faults c.read_net.new.shelf) name c.in_err-net.field-0.0) c.name_of.ensures c.in_err-net.ensures.reads)
