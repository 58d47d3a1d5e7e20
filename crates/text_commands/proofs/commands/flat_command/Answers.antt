use Rattle.text_commands.specs.declared.command.Command.TheVariants.{Flat}
use Rattle.tool_inputs.specs.Refusals.{stil_status, stil_line}
use Rattle.text_commands.proofs.CommandLemmas.{want_refused, flat_answers}
use Rattle.text_commands.proofs.commands.flat_command.Goals as goal

pub returns-in-Ok : goal.returns-in-Ok
returns-in-Ok g c =
    flat_answers c.args.file.now c.args.bytes.now c.in-Ok.code _ _ _ _ _ c.in-Ok.ensures.found c.put_flat.ensures

pub returns-in-Err : goal.returns-in-Err
returns-in-Err g c = record {
  status = stil_status c.in-Err.refusal;
  text = stil_line c.in-Err.refusal;
  wanted = want_refused Flat c.args.file.now c.args.bytes.now c.in-Err.refusal c.in-Err.ensures.fault;
  ends = c.put_stil.ensures;
}
