use Rattle.std.proofs.Common.{List, map, sym, ◌∙◌, subst}
use Rattle.stil_ast.specs.Meaning.Signals.{names_of}
use Rattle.signal_groups.specs.declared.groups.Located.{Located}
use Rattle.signal_groups.specs.Located.{group_at}
use Rattle.signal_groups.specs.Settled.{IsBegun}
use Rattle.signal_groups.proofs.FourthLemmas.{fourth-completed, fourth-refused}
use Rattle.signal_groups.proofs.building.built.Goals as goal

pub returns-in-Ok : goal.returns-in-Ok
returns-in-Ok c =
    fourth-completed c.args.blocks.now (map group_at c.as_slice-in-Ok.result.now) c.in-Ok.table c.complete.result
    c.in-Ok.ensures.begun.0
    (subst (λ (ls : List Located). IsBegun (names_of c.args.blocks.now) (map group_at ls) c.in-Ok.table)
    (c.as_slice-2.ensures.value ∙ sym c.as_slice-in-Ok.ensures.value) c.in-Ok.ensures.begun.1) c.complete.ensures

pub returns : goal.returns
returns c = fourth-refused c.args.blocks.now c.in-Err.refusal c.in-Err.ensures.begun
