use Rattle.std.proofs.Common.{List, All, subst, sym, arith, rules}
use Rattle.std.proofs.lemmas.Result.{err_from_is_err_and}
use Rattle.tester_types.specs.declared.record.Record.{Record}
use Rattle.datalog.specs.DatalogText.{filed_text}
use Rattle.datalog.specs.Printable.{IsPrintableAt}
use Rattle.datalog.proofs.LotLemmas.{printable-site}
use Rattle.datalog.proofs.NumberedLemmas.{numbered_goes_on, numbered_stops}
use Rattle.datalog.proofs.lot.put_sites.Goals as goal

pub put_site-requires : goal.put_site-requires
put_site-requires g c =
    subst (λ (entries : List Record). All (IsPrintableAt c.args.code.now c.args.plan.now c.loop-number.number) entries) (sym c.as_slice.ensures)
    (printable-site c.args.code.now c.args.plan.now c.args.sites.now c.loop-number.number c.index-sites-number.result
    c.loop-number-test.true c.index-sites-number.is c.requires)

pub returns-in_err-put_site : goal.returns-in_err-put_site
returns-in_err-put_site g c =
    let p = err_from_is_err_and c.from_residual.result c.from_residual.ensures.1 in
    record {
      puts = rw p.1
          (numbered_stops (filed_text c.args.code.now c.args.plan.now) _ _ _ c.loop-number.number c.args.sites.now c.index-sites-number.result
          c.loop-number-test.true c.index-sites-number.is c.loop-number.invariant.held (rw c.as_slice.ensures at c.in_err-put_site.ensures.puts));
      count = omega arith;
      cause = search rules;
    }

pub loop-number-preserved : goal.loop-number-preserved
loop-number-preserved g c = record {
  held = numbered_goes_on (filed_text c.args.code.now c.args.plan.now) _ _ _ c.loop-number.number c.args.sites.now c.index-sites-number.result
      c.loop-number-test.true c.index-sites-number.is c.loop-number.invariant.held (rw c.as_slice.ensures at c.in_ok-put_site.ensures.puts);
  count = omega (arith, c.in_ok-put_site.ensures.count);
}
