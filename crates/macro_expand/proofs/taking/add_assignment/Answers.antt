use Rattle.std.proofs.Common.{ap, map, ◌∙◌}
use Rattle.stil_ast.specs.Data.Assignments.{assignment_said}
use Rattle.stil_ast.specs.Data.Items.{items_of}
use Rattle.stil_ast.specs.Meaning.Members.{members}
use Rattle.macro_expand.specs.Pairs.{taker_of}
use Rattle.macro_expand.proofs.TakingLemmas.{taken_of}
use Rattle.macro_expand.proofs.taking.add_assignment.Goals as goal

pub returns : goal.returns
returns c = λ names named.
    taken_of c.add_takers.new.takers.items c.args.found.now.items c.as_slice.result.now
    (members names (assignment_said c.args.parts.now).reference) (items_of c.args.parts.now.runs.now)
    (map taker_of c.as_slice-2.result.now)
    (c.as_slice.ensures ∙ c.in_ok-signals.ensures names named.signals)
    (ap (map taker_of) c.as_slice-2.ensures.value ∙ c.in_ok-pair_up.ensures)
    c.in_ok-add_takers.ensures
