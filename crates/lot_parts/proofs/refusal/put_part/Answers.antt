use Rattle.std.proofs.Common.{arith, refl, inl, inr, append_assoc}
use Rattle.lot_parts.proofs.refusal.put_part.Goals as goal

pub returns-in-Ok : goal.returns-in-Ok
returns-in-Ok g c = record {
  ends = inl (refl, simp append_assoc (rw c.from.ensures at c.in-Ok.ensures.puts));
  count = omega arith;
}

pub returns-in-Err : goal.returns-in-Err
returns-in-Err g c = record {
  ends = inr (refl, simp append_assoc (rw c.from.ensures at c.in-Err.ensures.puts), c.in-Err.ensures.cause);
  count = omega arith;
}
