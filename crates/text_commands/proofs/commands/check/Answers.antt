use Rattle.std.proofs.Common.{refl}
use Rattle.text_commands.specs.declared.command.Command.TheVariants.{Check}
use Rattle.tool_inputs.specs.declared.status.Status.TheVariants.{Done}
use Rattle.code_listing.specs.Text.{check_text}
use Rattle.tool_inputs.specs.Refusals.{stil_status, stil_line}
use Rattle.text_commands.proofs.CommandLemmas.{want_refused}
use Rattle.tool_inputs.proofs.EndLemmas.{ends_whole, ends_front}
use Rattle.text_commands.proofs.commands.check.Goals as goal

pub returns-in-Ok-put_check : goal.returns-in-Ok-put_check
returns-in-Ok-put_check g c = λ file. record {
  status = Done;
  text = check_text c.in-Ok.code;
  wanted = (c.in-Ok.code, c.in-Ok.ensures.found, refl);
  ends = ends_whole c.in-Ok-put_check.ensures;
}

pub returns-in-Ok : goal.returns-in-Ok
returns-in-Ok g c = λ file. record {
  status = Done;
  text = check_text c.in-Ok.code;
  wanted = (c.in-Ok.code, c.in-Ok.ensures.found, refl);
  ends = ends_front c.in-Err-put_check.ensures;
}

pub returns : goal.returns
returns g c = λ file. record {
  status = stil_status c.in-Err.refusal;
  text = stil_line c.in-Err.refusal;
  wanted = want_refused Check file c.args.bytes.now c.in-Err.refusal c.in-Err.ensures.fault;
  ends = c.put_stil.ensures;
}
