use Rattle.std.proofs.Common.{length, arith}
use Rattle.tool_inputs.specs.declared.refusal.Refusal.TheVariants.{TooFewSockets}
use Rattle.tool_inputs.specs.Refusals.{status_of, line_of}
use Rattle.stil_tool.specs.Lot.IsRefused.{of_inputs}
use Rattle.stil_tool.proofs.LotLemmas.{refused_wants, few_sockets_refused, run_wants}
use Rattle.stil_tool.proofs.lot.lot.Goals as goal

pub returns-in-Err-clause-answers : goal.returns-in-Err-clause-answers
returns-in-Err-clause-answers g c = record {
  status = status_of c.in-Err.refusal;
  text = line_of c.in-Err.refusal;
  wanted = refused_wants _ _ _ _ _ _ _ c.in-Err.refusal (of_inputs c.in-Err.ensures.refused);
  ends = c.put_refusal.ensures;
}

pub returns-then-sites-have-clause-answers : goal.returns-then-sites-have-clause-answers
returns-then-sites-have-clause-answers g c = record {
  status = status_of (TooFewSockets c.sites-sites.result c.usable-have.result);
  text = line_of (TooFewSockets c.sites-sites.result c.usable-have.result);
  wanted = refused_wants _ _ _ _ _ _ _ (TooFewSockets c.sites-sites.result c.usable-have.result)
      (few_sockets_refused _ _ _ (length c.args.sockets.now.items) _ _ c.in-Ok.lot.code c.in-Ok.lot.plan c.sites-sites.result
      c.usable-have.result c.in-Ok.ensures.ready c.sites-sites.ensures.count
      (omega (arith, c.usable-have.ensures, c.len.ensures, c.args.sockets.now.ok)) (omega (arith, c.if-sites-have.true)));
  ends = c.put_refusal-then-sites-have.ensures;
}

pub returns-clause-answers : goal.returns-clause-answers
returns-clause-answers g c =
    let a = c.run.ensures in
    record {
      status = a.status;
      text = a.text;
      wanted = run_wants _ _ _ _ _ _ _ _ c.in-Ok.lot.code c.in-Ok.lot.plan a.status a.text c.in-Ok.ensures.ready
          (omega (arith, c.if-sites-have.false, c.sites-sites.ensures.count, c.usable-have.ensures, c.len.ensures, c.args.sockets.now.ok))
          a.wanted;
      ends = a.ends;
    }
