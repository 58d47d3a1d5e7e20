use Rattle.std.proofs.Common.{refl, ap}
use Rattle.tool_inputs.specs.declared.status.Status.TheVariants.{Done}
use Rattle.tool_inputs.specs.Refusals.{status_of, line_of}
use Rattle.lot_parts.specs.Parts.{number_line}
use Rattle.lot_parts.specs.Parts.PartsWants.{are_needed, is_refused}
use Rattle.tool_inputs.proofs.EndLemmas.{ends_whole, ends_front}
use Rattle.lot_parts.proofs.cutting.parts.Goals as goal

pub returns-in-Err-clause-answers : goal.returns-in-Err-clause-answers
returns-in-Err-clause-answers g c = record {
  status = status_of c.in-Err.refusal;
  text = line_of c.in-Err.refusal;
  wanted = is_refused (record { refused = c.in-Err.refusal; cause = c.in-Err.ensures.reads; answer = refl; line = refl });
  ends = c.put_refusal.ensures;
}

pub returns-in-Ok-put_each-clause-answers : goal.returns-in-Ok-put_each-clause-answers
returns-in-Ok-put_each-clause-answers g c = record {
  status = Done;
  text = number_line c.from.result;
  wanted = are_needed refl c.in-Ok.rows c.in-Ok.ensures.reads.0 c.parts_needed.result c.parts_needed.ensures (ap number_line c.from.ensures);
  ends = ends_whole c.in-Ok-put_each.ensures;
}

pub returns-clause-answers : goal.returns-clause-answers
returns-clause-answers g c = record {
  status = Done;
  text = number_line c.from.result;
  wanted = are_needed refl c.in-Ok.rows c.in-Ok.ensures.reads.0 c.parts_needed.result c.parts_needed.ensures (ap number_line c.from.ensures);
  ends = ends_front c.in-Err-put_each.ensures;
}
