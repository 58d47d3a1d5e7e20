use Rattle.std.proofs.Common.{sym, ◌∙◌, arith}
use Rattle.stil_lex.proofs.SlowFaults.{none_bad-more, first_bad, bad_quoted_within}
use Rattle.stil_lex.proofs.slow_faults.bad_quoted.Goals as goal

pub returns-then-is_bad_quoted-clause-some : goal.returns-then-is_bad_quoted-clause-some
returns-then-is_bad_quoted-clause-some c =
    first_bad c.loop-skipped.skipped c.args.text.now c.loop-skipped.invariant (sym c.is_bad_quoted.ensures ∙ c.if-is_bad_quoted.true)

pub loop-skipped-preserved : goal.loop-skipped-preserved
loop-skipped-preserved c =
    none_bad-more c.loop-skipped.skipped c.args.text.now c.loop-skipped.invariant (sym c.is_bad_quoted.ensures ∙ c.if-is_bad_quoted.false)

pub returns-clause-none : goal.returns-clause-none
returns-clause-none c = λ skipped h.
    let within = bad_quoted_within c.args.text.now skipped h in
    c.loop-skipped.invariant skipped (omega arith) h
