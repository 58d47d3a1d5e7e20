use Rattle.std.proofs.Common.{refl, sym, ap, ◌∙◌}
use Rattle.part_lines.proofs.HasReadLemmas.{one_next}
use Rattle.log_parts.specs.Tries.{is_fail_line}
use Rattle.log_parts.proofs.tries.read_fail.Goals as goal

pub returns-then-not-is_fail-clause-none : goal.returns-then-not-is_fail-clause-none
returns-then-not-is_fail-clause-none c = λ _. (
  refl,
  λ line next.
      ap is_fail_line (one_next _ line c.in-Some.line.now next c.in-Some.ensures.found) ∙ sym c.is_fail.ensures
      ∙ c.if-not-is_fail.true,
)
