use Rattle.text_commands.specs.declared.command.Command.TheVariants.{Save}
use Rattle.tool_inputs.specs.Refusals.{stil_status, stil_line}
use Rattle.text_commands.proofs.CommandLemmas.{want_refused}
use Rattle.text_commands.proofs.commands.save_text.Goals as goal

pub returns-in-Err : goal.returns-in-Err
returns-in-Err g c = record {
  status = stil_status c.in-Err.refusal;
  text = stil_line c.in-Err.refusal;
  wanted = want_refused Save c.args.file.now c.args.bytes.now c.in-Err.refusal c.in-Err.ensures.fault;
  ends = c.put_stil.ensures;
}
