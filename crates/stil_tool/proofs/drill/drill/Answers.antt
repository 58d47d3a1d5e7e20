use Rattle.std.proofs.Common.{length, arith}
use Rattle.tool_inputs.specs.declared.refusal.Refusal.TheVariants.{TooFewSockets}
use Rattle.tool_inputs.specs.Refusals.{status_of, line_of}
use Rattle.stil_tool.specs.Drill.IsDrillRefused.{of_text}
use Rattle.stil_tool.proofs.DrillLemmas.{refused_wants, few_refused, run_wants}
use Rattle.stil_tool.proofs.drill.drill.Goals as goal

pub returns-in-Err : goal.returns-in-Err
returns-in-Err g c = record {
  status = status_of c.in-Err.refusal;
  text = line_of c.in-Err.refusal;
  wanted = refused_wants _ _ _ c.in-Err.refusal (of_text c.in-Err.ensures);
  ends = c.put_refusal.ensures;
}

pub returns-then-sites-have : goal.returns-then-sites-have
returns-then-sites-have g c = record {
  status = status_of (TooFewSockets c.sites-sites.result c.usable-have.result);
  text = line_of (TooFewSockets c.sites-sites.result c.usable-have.result);
  wanted = refused_wants _ _ _ (TooFewSockets c.sites-sites.result c.usable-have.result)
      (few_refused c.args.number (length c.args.sockets.now.items) c.in-Ok.lot.code c.in-Ok.lot.plan c.sites-sites.result
      c.usable-have.result c.in-Ok.ensures c.sites-sites.ensures.count
      (omega (arith, c.usable-have.ensures, c.len.ensures, c.args.sockets.now.ok)) (omega (arith, c.if-sites-have.true)));
  ends = c.put_refusal-then-sites-have.ensures;
}

pub returns : goal.returns
returns g c =
    let a = c.run.ensures in
    record {
      status = a.status;
      text = a.text;
      wanted = run_wants _ _ _ _ c.in-Ok.lot.code c.in-Ok.lot.plan a.status a.text c.in-Ok.ensures
          (omega (arith, c.if-sites-have.false, c.sites-sites.ensures.count, c.usable-have.ensures, c.len.ensures, c.args.sockets.now.ok))
          a.wanted;
      ends = a.ends;
    }
