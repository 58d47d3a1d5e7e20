use Rattle.std.proofs.Common.{length, map}
use Rattle.bench_net.specs.Views.{lexeme_of, texts}
use Rattle.bench_net.proofs.LineLemmas.{Listing}
use Rattle.bench_net.proofs.line.pins.Given as goal

abbrev pub invariant-loop-rest : goal.invariant-loop-rest
invariant-loop-rest l = Listing (texts l.pins.items) (map lexeme_of l.rest)
    (map lexeme_of l.fn.parts)

abbrev pub decreases-loop-rest : goal.decreases-loop-rest
decreases-loop-rest l = length l.rest
