use Rattle.std.proofs.Common.{ap}
use Rattle.part_lines.specs.declared.fault.LineFault.TheVariants.{Line}
use Rattle.part_lines.proofs.HasReadLemmas.{one_next}
use Rattle.log_parts.proofs.die.read_bin.Goals as goal

pub returns-in_default-told_bin : goal.returns-in_default-told_bin
returns-in_default-told_bin c = (
  ap Line c.number-in_default-told_bin.ensures.number,
  λ bin some last next.
      c.in_default-told_bin.ensures.none bin some last (one_next _ _ _ c.in-Some.ensures.found next),
)
