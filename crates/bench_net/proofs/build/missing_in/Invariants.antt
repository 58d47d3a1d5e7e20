use Rattle.std.proofs.Common.{◌≡◌, length}
use Rattle.std.specs.List.{find}
use Rattle.text_bytes.specs.Texts.{key_texts}
use Rattle.bench_net.specs.Numbers.{lacks}
use Rattle.bench_net.specs.Views.{texts}
use Rattle.bench_net.proofs.build.missing_in.Given as goal

abbrev pub invariant-loop-rest : goal.invariant-loop-rest
invariant-loop-rest l = find (lacks (key_texts l.fn.names.keys) l.fn.driven) (texts l.rest)
    ≡ find (lacks (key_texts l.fn.names.keys) l.fn.driven) (texts l.fn.uses)

abbrev pub decreases-loop-rest : goal.decreases-loop-rest
decreases-loop-rest l = length l.rest
