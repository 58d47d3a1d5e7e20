use Rattle.std.proofs.Common.{refl, sym, subst, ◌∙◌}
use Rattle.std.proofs.lemmas.Bool.{false≢true}
use Rattle.part_lines.proofs.HasReadLemmas.{one_next}
use Rattle.log_parts.specs.Tries.{IsTryLine}
use Rattle.log_parts.proofs.tries.read_head.Goals as goal

pub returns-then-not-is_try-clause-none : goal.returns-then-not-is_try-clause-none
returns-then-not-is_try-clause-none c = λ _. (
  refl,
  λ line next is.
      let same = one_next _ line c.in-Some.line.now next c.in-Some.ensures.found in
      false≢true (sym c.if-not-is_try.true ∙ c.is_try.ensures.1 (subst (IsTryLine c.args.number) same is)),
)
