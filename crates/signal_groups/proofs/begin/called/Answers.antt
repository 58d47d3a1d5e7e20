use Rattle.std.proofs.Common.{map}
use Rattle.text_bytes.specs.Texts.{key_texts}
use Rattle.signal_groups.specs.Located.{group_at}
use Rattle.signal_groups.proofs.BegunLemmas.{names_refused, names_taken}
use Rattle.signal_groups.proofs.begin.called.Goals as goal

pub returns-in-Ok : goal.returns-in-Ok
returns-in-Ok c =
    names_taken c.new-names.result.keys (map group_at c.args.groups.now) (key_texts c.take_names.new.names.keys) c.new-names.ensures.empty
    c.in-Ok.ensures

pub returns-in-Err : goal.returns-in-Err
returns-in-Err c =
    names_refused c.new-names.result.keys (map group_at c.args.groups.now) c.in-Err.refusal c.new-names.ensures.empty
    c.in-Err.ensures
