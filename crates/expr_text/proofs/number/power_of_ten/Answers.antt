use Rattle.std.proofs.Common.{Some, ap, sym, ◌∙◌, ◌^◌, arith, lit≤, lit<}
use Rattle.std.proofs.Math.Nat.{lt_of_lt_of_le, one-le-pow}
use Rattle.expr_text.proofs.NumberLemmas.{capped-some, capped-none, pow-fits, pow-beyond}
use Rattle.expr_text.proofs.number.power_of_ten.Goals as goal

pub pow-requires : goal.pow-requires
pow-requires c = lt_of_lt_of_le (pow-fits c.args.exponent c.if-exponent-le-MOST_DECIMALS.true) (lit≤ tt)

pub returns-then-exponent-le-MOST_DECIMALS : goal.returns-then-exponent-le-MOST_DECIMALS
returns-then-exponent-le-MOST_DECIMALS c =
    let fits = pow-fits c.args.exponent c.if-exponent-le-MOST_DECIMALS.true in
    let some = one-le-pow c.args.exponent 10 (lit< tt) in
    let is = c.pow.ensures in
    record {
      value = ap Some is ∙ sym (capped-some (10 ^ c.args.exponent) fits);
      fits = (omega (arith, some, is), omega (arith, fits, is));
    }

pub returns-else-exponent-le-MOST_DECIMALS-clause-value : goal.returns-else-exponent-le-MOST_DECIMALS-clause-value
returns-else-exponent-le-MOST_DECIMALS-clause-value c =
    sym (capped-none (10 ^ c.args.exponent) (pow-beyond c.args.exponent c.if-exponent-le-MOST_DECIMALS.false))
