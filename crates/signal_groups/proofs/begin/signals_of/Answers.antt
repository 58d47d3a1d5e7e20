use Rattle.std.specs.List.{flat_map}
use Rattle.stil_ast.specs.Meaning.Signals.{declared}
use Rattle.signal_groups.specs.Begun.{begun_in}
use Rattle.signal_groups.proofs.BegunLemmas.{signals_refused, signals_taken}
use Rattle.signal_groups.proofs.begin.signals_of.Goals as goal

pub returns-in-Ok : goal.returns-in-Ok
returns-in-Ok c =
    signals_taken c.new-texts.result.keys c.new-kept.result.items (flat_map declared c.args.decls.now)
    (begun_in c.take_signals.new.texts.keys c.take_signals.new.kept.items) c.new-texts.ensures.empty c.new-kept.ensures.items
    c.in-Ok.ensures

pub returns-in-Err : goal.returns-in-Err
returns-in-Err c =
    signals_refused c.new-texts.result.keys c.new-kept.result.items (flat_map declared c.args.decls.now) c.in-Err.refusal
    c.new-texts.ensures.empty c.new-kept.ensures.items c.in-Err.ensures
