use Rattle.std.proofs.Common.{ap}
use Rattle.tester_types.specs.Records.{records_of}
use Rattle.lot_plan.specs.Bound.{Bound}
use Rattle.tool_inputs.specs.declared.status.Status.TheVariants.{Done}
use Rattle.stil_tool.specs.Drill.{drill_text}
use Rattle.stil_tool.proofs.RunLemmas.{sound_so}
use Rattle.tool_inputs.proofs.EndLemmas.{ends_whole, ends_front}
use Rattle.stil_tool.proofs.drill.run.Goals as goal

pub put_summary-requires : goal.put_summary-requires
put_summary-requires g c =
    sound_so _ c.args.lot.plan _ _ c.in-Ok.tested.book c.in-Ok.tested.plan c.in-Ok.ensures.book c.in-Ok.ensures.plan
    c.requires.enough

pub returns-in-Ok-put_summary : goal.returns-in-Ok-put_summary
returns-in-Ok-put_summary g c = record {
  status = Done;
  text = drill_text c.args.number c.in-Ok.tested.plan (records_of c.in-Ok.tested.book);
  wanted = record {
    book = c.in-Ok.tested.book;
    is = c.in-Ok.ensures.book;
    written = ap (λ (p : Bound). drill_text c.args.number p (records_of c.in-Ok.tested.book)) c.in-Ok.ensures.plan;
  };
  ends = ends_whole c.in-Ok-put_summary.ensures;
}

pub returns : goal.returns
returns g c = record {
  status = Done;
  text = drill_text c.args.number c.in-Ok.tested.plan (records_of c.in-Ok.tested.book);
  wanted = record {
    book = c.in-Ok.tested.book;
    is = c.in-Ok.ensures.book;
    written = ap (λ (p : Bound). drill_text c.args.number p (records_of c.in-Ok.tested.book)) c.in-Ok.ensures.plan;
  };
  ends = ends_front c.in-Err.ensures;
}
