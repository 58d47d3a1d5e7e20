use Rattle.std.proofs.Common.{◌≡◌, length, map}
use Rattle.text_bytes.specs.Texts.{key_texts}
use Rattle.bench_net.specs.Numbers.{loop_fault}
use Rattle.bench_net.specs.Views.{form_of}
use Rattle.bench_net.proofs.build.first_loop.Given as goal

abbrev pub invariant-loop-rest : goal.invariant-loop-rest
invariant-loop-rest l = loop_fault (key_texts l.fn.names.keys) l.fn.left (map form_of l.rest)
    ≡ loop_fault (key_texts l.fn.names.keys) l.fn.left (map form_of l.fn.lines)

abbrev pub decreases-loop-rest : goal.decreases-loop-rest
decreases-loop-rest l = length l.rest
