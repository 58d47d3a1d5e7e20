use Rattle.std.proofs.Common.{ap, sym, ◌∙◌}
use Rattle.packed_code.specs.Count.{capped}
use Rattle.cycle_comp.proofs.CountLemmas.{run-count}
use Rattle.cycle_comp.proofs.counting.cycles.Goals as goal

pub returns : goal.returns
returns c = λ base s. c.list_cycles.ensures ∙ ap capped (sym (run-count c.args.tree.now base s))
