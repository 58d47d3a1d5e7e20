use Rattle.std.proofs.Common.{ap}
use Rattle.std.proofs.lemmas.Bool.{iff_false}
use Rattle.part_lines.specs.declared.fault.LineFault.TheVariants.{Line}
use Rattle.part_lines.proofs.HasReadLemmas.{one_next}
use Rattle.part_lines.proofs.lines.Lines.expect.Goals as goal

pub returns-then-not-is_printed-clause-fault : goal.returns-then-not-is_printed-clause-fault
returns-then-not-is_printed-clause-fault c = (
  ap Line c.number-then-not-is_printed.ensures.number,
  λ next.
      iff_false c.is_printed.ensures c.if-not-is_printed.true (one_next _ _ _ c.in-Some.ensures.found next),
)
