use Rattle.std.proofs.Common.{refl}
use Rattle.tool_inputs.specs.declared.status.Status.TheVariants.{Done}
use Rattle.tool_inputs.specs.declared.refusal.Refusal.TheVariants.{Plan}
use Rattle.tool_inputs.specs.Refusals.{status_of, line_of}
use Rattle.tool_inputs.specs.Inputs.IsPlanRefused.{unread}
use Rattle.tool_inputs.proofs.InputLemmas.{plan_refused}
use Rattle.lot_parts.specs.Parts.CutWants.{is_refused}
use Rattle.lot_parts.proofs.CutLemmas.{cut_so}
use Rattle.tool_inputs.proofs.EndLemmas.{ends_whole, ends_front}
use Rattle.lot_parts.proofs.cutting.cut.Goals as goal

pub returns-in-Err-clause-answers : goal.returns-in-Err-clause-answers
returns-in-Err-clause-answers g c = record {
  status = status_of c.in-Err.refusal;
  text = line_of c.in-Err.refusal;
  wanted = is_refused (record { refused = c.in-Err.refusal; cause = unread c.in-Err.ensures.unread; answer = refl; line = refl });
  ends = c.put_refusal.ensures;
}

pub returns-in-Err-part_text-clause-answers : goal.returns-in-Err-part_text-clause-answers
returns-in-Err-part_text-clause-answers g c = record {
  status = status_of (Plan c.in-Err-part_text.fault);
  text = line_of (Plan c.in-Err-part_text.fault);
  wanted = is_refused (record {
    refused = Plan c.in-Err-part_text.fault;
    cause = plan_refused _ _ _ c.args.plan.now _ c.as_slice.result.now c.in-Err-part_text.fault c.in-Ok.ensures.found
        c.as_slice.ensures.value c.in-Err-part_text.ensures.fault;
    answer = refl;
    line = refl;
  });
  ends = c.put_refusal-in-Err-part_text.ensures;
}

pub returns-in-Ok-put_all-clause-answers : goal.returns-in-Ok-put_all-clause-answers
returns-in-Ok-put_all-clause-answers g c = record {
  status = Done;
  text = c.as_slice-2.result.now;
  wanted = cut_so _ _ _ _ _ _ c.in-Ok.bytes.items c.as_slice.result.now c.in-Ok-part_text.text.items _ c.in-Ok.ensures.found
      c.as_slice.ensures.value c.as_slice-2.ensures.value c.in-Ok-part_text.ensures.found;
  ends = ends_whole c.in-Ok-put_all.ensures;
}

pub returns-clause-answers : goal.returns-clause-answers
returns-clause-answers g c = record {
  status = Done;
  text = c.as_slice-2.result.now;
  wanted = cut_so _ _ _ _ _ _ c.in-Ok.bytes.items c.as_slice.result.now c.in-Ok-part_text.text.items _ c.in-Ok.ensures.found
      c.as_slice.ensures.value c.as_slice-2.ensures.value c.in-Ok-part_text.ensures.found;
  ends = ends_front c.in-Err-put_all.ensures;
}
