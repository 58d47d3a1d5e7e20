use Rattle.std.proofs.Common.{arith}
use Rattle.text_commands.proofs.DoneLemmas.{file_answers}
use Rattle.text_commands.proofs.commands.run_file.Goals as goal

pub returns-in-Ok-clause-answers : goal.returns-in-Ok-clause-answers
returns-in-Ok-clause-answers g c =
    file_answers c.args.command c.args.file.now c.in-Ok.bytes.items c.as_slice.result.now (g.F.Shelf.told c.args.shelf.now)
    (g.F.Shelf.faults c.args.shelf.now) _ (g.K.Sink.told c.args.out.now) _ (g.K.Sink.faults c.args.out.now) _ c.run_text.result
    (record { are = c.in-Ok.ensures.loads; fits = omega (arith, c.in-Ok.ensures.within) }) c.as_slice.ensures.value c.run_text.ensures
