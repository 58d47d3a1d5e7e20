use Rattle.std.proofs.Common.{sym, ◌∙◌, map}
use Rattle.text_bytes.specs.Texts.{key_texts}
use Rattle.bench_net.specs.Views.{form_of}
use Rattle.bench_net.proofs.BuildLemmas.{loop_fault-none}
use Rattle.bench_net.proofs.build.first_loop.Goals as goal

pub returns-then-none_waits : goal.returns-then-none_waits
returns-then-none_waits c =
    sym (loop_fault-none (key_texts c.args.names.now.keys) c.args.left.now (map form_of c.args.lines.now)
    (sym c.none_waits.ensures ∙ c.if-none_waits.true))
