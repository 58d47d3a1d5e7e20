use Rattle.packed_code.specs.Walk.{IsOver}
use Rattle.measure.proofs.pages.walked.Given as goal

abbrev pub invariant-loop : goal.invariant-loop
invariant-loop l = IsOver l.code l.place
