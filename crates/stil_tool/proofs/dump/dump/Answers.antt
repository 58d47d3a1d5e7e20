use Rattle.std.proofs.Common.{Some}
use Rattle.tool_inputs.specs.declared.refusal.Refusal.TheVariants.{NoDie}
use Rattle.tool_inputs.specs.Refusals.{status_of, line_of}
use Rattle.stil_tool.specs.Dump.IsDumpRefused.{of_inputs}
use Rattle.stil_tool.proofs.DumpLemmas.{none_there, refused_wants, no_die_refused, run_wants}
use Rattle.stil_tool.proofs.dump.dump.Goals as goal

pub returns-in-Err-clause-answers : goal.returns-in-Err-clause-answers
returns-in-Err-clause-answers g c = record {
  status = status_of c.in-Err.refusal;
  text = line_of c.in-Err.refusal;
  wanted = refused_wants _ _ _ _ _ _ c.in-Err.refusal (of_inputs c.in-Err.ensures.refused);
  ends = c.put_refusal.ensures;
}

pub returns-then-not-has_die-clause-answers : goal.returns-then-not-has_die-clause-answers
returns-then-not-has_die-clause-answers g c = record {
  status = status_of (NoDie (Some c.args.site));
  text = line_of (NoDie (Some c.args.site));
  wanted = refused_wants _ _ _ _ _ _ (NoDie (Some c.args.site))
      (no_die_refused _ _ _ _ _ _ c.in-Ok.lot.code c.in-Ok.lot.plan c.in-Ok.ensures.ready
      (none_there _ _ c.has_die.ensures c.if-not-has_die.true));
  ends = c.put_refusal-then-not-has_die.ensures;
}

pub returns-clause-answers : goal.returns-clause-answers
returns-clause-answers g c =
    let a = c.run.ensures in
    record {
      status = a.status;
      text = a.text;
      wanted = run_wants _ _ _ _ _ _ c.in-Ok.lot.code c.in-Ok.lot.plan a.status a.text c.in-Ok.ensures.ready
          (c.has_die.ensures.0 c.if-not-has_die.false) a.wanted;
      ends = a.ends;
    }
