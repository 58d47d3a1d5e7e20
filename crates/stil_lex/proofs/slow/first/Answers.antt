use Rattle.std.proofs.Common.{arith, sym, ◌∙◌}
use Rattle.std.proofs.lemmas.List.{take_rest}
use Rattle.stil_lex.proofs.Slowly.{gap_is}
use Rattle.stil_lex.proofs.SlowlyBack.{none_below-more}
use Rattle.stil_lex.proofs.slow.first.Goals as goal

pub returns-then-is_gap-clause-some : goal.returns-then-is_gap-clause-some
returns-then-is_gap-clause-some c =
    let test = simp take_rest at (sym c.is_gap.ensures ∙ c.if-is_gap.true) in
    record { within = omega arith; some = omega arith; is_kind = gap_is _ _ test }

pub loop-len-preserved : goal.loop-len-preserved
loop-len-preserved c =
    let no_gap = simp take_rest at (sym c.is_gap.ensures ∙ c.if-is_gap.false) in
    let n_token = simp take_rest at c.in_default.ensures.none in
    record { some = omega arith; none = none_below-more c.loop-len.len c.args.text.now c.loop-len.invariant.none no_gap n_token }
