use Rattle.std.proofs.Common.{None, arith}
use Rattle.tool_inputs.specs.declared.refusal.Refusal.TheVariants.{NoDie}
use Rattle.tool_inputs.specs.Refusals.{status_of, line_of}
use Rattle.tool_inputs.specs.Inputs.IsGradeRefused.{of_inputs}
use Rattle.tool_inputs.proofs.InputLemmas.{no_die_refused}
use Rattle.stil_tool.proofs.GradeLemmas.{refused_wants, run_wants}
use Rattle.stil_tool.proofs.grade.grade.Goals as goal

pub returns-in-Err-clause-answers : goal.returns-in-Err-clause-answers
returns-in-Err-clause-answers g c = record {
  status = status_of c.in-Err.refusal;
  text = line_of c.in-Err.refusal;
  wanted = refused_wants _ _ _ _ _ c.in-Err.refusal (of_inputs c.in-Err.ensures.refused);
  ends = c.put_refusal.ensures;
}

pub returns-then-sites-eq0-clause-answers : goal.returns-then-sites-eq0-clause-answers
returns-then-sites-eq0-clause-answers g c = record {
  status = status_of (NoDie None);
  text = line_of (NoDie None);
  wanted = refused_wants _ _ _ _ _ (NoDie None)
      (no_die_refused _ _ _ _ _ c.in-Ok.lot.code c.in-Ok.lot.plan c.in-Ok.ensures.ready
      (omega (arith, c.if-sites-eq0.true, c.sites.ensures.count)));
  ends = c.put_refusal-then-sites-eq0.ensures;
}

pub returns-clause-answers : goal.returns-clause-answers
returns-clause-answers g c =
    let a = c.run.ensures in
    record {
      status = a.status;
      text = a.text;
      wanted = run_wants _ _ _ _ _ c.in-Ok.lot.code c.in-Ok.lot.plan a.status a.text c.in-Ok.ensures.ready
          (omega (arith, c.if-sites-eq0.false, c.sites.ensures.count)) a.wanted;
      ends = a.ends;
    }
