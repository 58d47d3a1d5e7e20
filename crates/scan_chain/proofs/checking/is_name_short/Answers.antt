use Rattle.std.proofs.Common.{◌∙◌}
use Rattle.scan_chain.proofs.NumberLemmas.{all-indexed}
use Rattle.scan_chain.proofs.checking.is_name_short.Goals as goal

pub returns-in-Some : goal.returns-in-Some
returns-in-Some c =
    c.are_short.ensures ∙ all-indexed c.args.cell.now.name _ c.args.cell.now.range c.in-Some.range c.as_slice.ensures c.in-Some.is
