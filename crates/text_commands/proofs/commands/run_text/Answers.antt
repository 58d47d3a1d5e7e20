use Rattle.std.proofs.Common.{sym, subst}
use Rattle.text_commands.specs.declared.command.Command.{Command}
use Rattle.tool_inputs.specs.Endings.{Answers}
use Rattle.text_commands.specs.Commands.{BytesWant}
use Rattle.text_commands.proofs.commands.run_text.Goals as goal

pub returns-in-Check : goal.returns-in-Check
returns-in-Check g c =
    subst (λ (k : Command). Answers (BytesWant k c.args.file.now c.args.bytes.now) (g.K.Sink.told c.args.out.now) (g.K.Sink.faults c.args.out.now)
    c.check.result (g.K.Sink.told c.check.new.out) (g.K.Sink.faults c.check.new.out)) (sym c.in-Check.is) (c.check.ensures c.args.file.now)

pub returns-in-Cycles : goal.returns-in-Cycles
returns-in-Cycles g c =
    subst (λ (k : Command). Answers (BytesWant k c.args.file.now c.args.bytes.now) (g.K.Sink.told c.args.out.now) (g.K.Sink.faults c.args.out.now)
    c.cycles.result (g.K.Sink.told c.cycles.new.out) (g.K.Sink.faults c.cycles.new.out)) (sym c.in-Cycles.is) (c.cycles.ensures c.args.file.now)

pub returns-in-Events : goal.returns-in-Events
returns-in-Events g c =
    subst (λ (k : Command). Answers (BytesWant k c.args.file.now c.args.bytes.now) (g.K.Sink.told c.args.out.now) (g.K.Sink.faults c.args.out.now)
    c.events.result (g.K.Sink.told c.events.new.out) (g.K.Sink.faults c.events.new.out)) (sym c.in-Events.is) (c.events.ensures c.args.file.now)
