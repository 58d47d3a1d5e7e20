use Rattle.std.proofs.Common.{arith, sym, ◌∙◌}
use Rattle.std.proofs.lemmas.List.{take_rest}
use Rattle.stil_lex.proofs.Pairs.{pair_place_more}
use Rattle.stil_lex.proofs.byte.pair_place.Goals as goal

pub loop-at-preserved : goal.loop-at-preserved
loop-at-preserved c =
    let told = sym c.starts_pair.ensures ∙ c.if-starts_pair.false in
    let more = pair_place_more c.args.first c.args.second c.args.text.now c.loop-at.at (omega arith) (rw take_rest at told) in
    omega (arith, c.loop-at.invariant)
