use Rattle.std.proofs.Common.{arith, length-drop}
use Rattle.std.proofs.lemmas.List.{take_rest}
use Rattle.tester_types.proofs.OutsideLemmas.{gained-more}
use Rattle.tester_types.proofs.printing.put_all.Goals as goal

pub loop-at-preserved : goal.loop-at-preserved
loop-at-preserved g c = record {
  within = omega (arith, simp (take_rest, length-drop) at c.in-Ok.ensures.within);
  held = gained-more _ _ _ c.args.piece.now c.loop-at.at c.in-Ok.taken c.loop-at.invariant.held c.in-Ok.ensures.taken;
  count = omega arith;
}
