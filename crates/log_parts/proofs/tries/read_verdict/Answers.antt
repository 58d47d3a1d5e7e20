use Rattle.std.proofs.Common.{sym, ap, subst, arith, ◌∙◌}
use Rattle.std.proofs.lemmas.Bool.{false≢true}
use Rattle.part_lines.specs.declared.fault.LineFault.TheVariants.{Line}
use Rattle.part_lines.proofs.HasReadLemmas.{one_next}
use Rattle.log_parts.specs.Tries.{IsVerdictLine}
use Rattle.log_parts.proofs.tries.read_verdict.Goals as goal

pub returns-then-not-is_verdict : goal.returns-then-not-is_verdict
returns-then-not-is_verdict c = (
  ap Line c.number-here.ensures.number,
  λ line next is.
      let same = one_next _ line c.in-Some.line.now next c.in-Some.ensures.found in
      false≢true (sym c.if-not-is_verdict.true ∙ c.is_verdict.ensures.1 (subst IsVerdictLine same is)),
)

pub returns : goal.returns
returns c = (
  c.in-Some.line.now,
  c.is_verdict.ensures.0 c.if-not-is_verdict.false,
  record { rest = c.pass.ensures.rest; front = c.pass.ensures.front },
  omega (arith, c.number-here.ensures.number, c.number-here.type_inv),
)
