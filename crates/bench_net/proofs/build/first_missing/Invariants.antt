use Rattle.std.proofs.Common.{◌≡◌, length, map}
use Rattle.std.specs.List.{find, flat_map}
use Rattle.text_bytes.specs.Texts.{key_texts}
use Rattle.bench_net.specs.Net.{used}
use Rattle.bench_net.specs.Numbers.{lacks}
use Rattle.bench_net.specs.Views.{form_of}
use Rattle.bench_net.proofs.build.first_missing.Given as goal

abbrev pub invariant-loop-rest : goal.invariant-loop-rest
invariant-loop-rest l = find (lacks (key_texts l.fn.names.keys) l.fn.driven) (flat_map used (map form_of l.rest))
    ≡ find (lacks (key_texts l.fn.names.keys) l.fn.driven) (flat_map used (map form_of l.fn.lines))

abbrev pub decreases-loop-rest : goal.decreases-loop-rest
decreases-loop-rest l = length l.rest
