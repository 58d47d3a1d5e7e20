use Rattle.std.proofs.Common.{ℕ, List, subst}
use Rattle.lot_parts.specs.declared.outcome.Outcome.TheVariants.{RefusedPart}
use Rattle.lot_parts.specs.Refusals.{part_line}
use Rattle.lot_parts.specs.Endings.{EndsAs}
use Rattle.lot_parts.proofs.EndingLemmas.{refusal_ends, part_ends}
use Rattle.lot_parts.proofs.refusal.put_part_refusal.Goals as goal

pub returns-in-Of : goal.returns-in-Of
returns-in-Of g c = refusal_ends _ _ _ _ _ _ _ c.in-Of.is c.put_refusal.ensures

pub returns-in-Part : goal.returns-in-Part
returns-in-Part g c =
    part_ends _ _ _ _ c.in-Part.file c.in-Part.line _ _ c.in-Part.is
    (subst (λ (file : List ℕ). EndsAs (g.K.Sink.told c.args.out.now) (g.K.Sink.faults c.args.out.now) RefusedPart (part_line file c.in-Part.line) c.put_part.result
    (g.K.Sink.told c.put_part.new.out) (g.K.Sink.faults c.put_part.new.out)) c.as_slice.ensures c.put_part.ensures)
