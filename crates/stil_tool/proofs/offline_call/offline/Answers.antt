use Rattle.stil_tool.specs.Offline.{words_seen}
use Rattle.stil_tool.specs.Offline.Wants.{of_dump}
use Rattle.stil_tool.proofs.CompletenessLemmas.{command_answers, completes}
use Rattle.stil_tool.proofs.DumpLemmas.{dump_completes}
use Rattle.stil_tool.proofs.offline_call.offline.Goals as goal

pub returns-in-Some-clause-answers : goal.returns-in-Some-clause-answers
returns-in-Some-clause-answers g c =
    command_answers (words_seen c.args.words.now) c.in-Some.command c.in-Some.file.now (g.F.Shelf.told c.args.shelf.now)
    (g.F.Shelf.faults c.args.shelf.now) (g.F.Shelf.faults c.run_file.new.shelf) (g.K.Sink.told c.args.out.now) (g.K.Sink.told c.run_file.new.out)
    (g.K.Sink.faults c.args.out.now) (g.K.Sink.faults c.run_file.new.out) c.run_file.result c.in-Some.ensures.found c.run_file.ensures.answers

pub returns-in-Some-clause-complete : goal.returns-in-Some-clause-complete
returns-in-Some-clause-complete g c = λ fine.
    completes (words_seen c.args.words.now) (g.F.Shelf.told c.args.shelf.now)
    (g.F.Shelf.faults c.args.shelf.now) (g.F.Shelf.faults c.run_file.new.shelf) (g.K.Sink.told c.args.out.now) (g.K.Sink.told c.run_file.new.out)
    (g.K.Sink.faults c.args.out.now) (g.K.Sink.faults c.run_file.new.out) c.run_file.result
    (command_answers (words_seen c.args.words.now) c.in-Some.command c.in-Some.file.now (g.F.Shelf.told c.args.shelf.now)
    (g.F.Shelf.faults c.args.shelf.now) (g.F.Shelf.faults c.run_file.new.shelf) (g.K.Sink.told c.args.out.now) (g.K.Sink.told c.run_file.new.out)
    (g.K.Sink.faults c.args.out.now) (g.K.Sink.faults c.run_file.new.out) c.run_file.result c.in-Some.ensures.found c.run_file.ensures.answers)
    fine

pub returns-in-Some-dump_command-clause-answers : goal.returns-in-Some-dump_command-clause-answers
returns-in-Some-dump_command-clause-answers g c =
    let a = c.dump.ensures.answers in
    record {
      status = a.status;
      text = a.text;
      wanted = of_dump c.in-Some-dump_command.program.now c.in-Some-dump_command.plan.now c.in-Some-dump_command.site
          c.in-Some-dump_command.ensures.found a.wanted;
      ends = a.ends;
    }

pub returns-in-Some-dump_command-clause-complete_dump : goal.returns-in-Some-dump_command-clause-complete_dump
returns-in-Some-dump_command-clause-complete_dump g c =
    λ fine. dump_completes _ _ _ _ _ _ _ _ _ (returns-in-Some-dump_command-clause-answers g c) fine

pub returns-in-None-dump_command-clause-complete_dump : goal.returns-in-None-dump_command-clause-complete_dump
returns-in-None-dump_command-clause-complete_dump g c =
    λ fine. absurd (c.in-None-dump_command.ensures.none fine.program fine.plan fine.site fine.are)
