use Rattle.std.proofs.Common.{length, map}
use Rattle.bench_net.specs.Views.{lexeme_of}
use Rattle.bench_net.proofs.LineLemmas.{Parsing}
use Rattle.bench_net.proofs.line.parts.Given as goal

abbrev pub invariant-loop-parts : goal.invariant-loop-parts
invariant-loop-parts l = Parsing (map lexeme_of l.parts.items) l.rest l.fn.line

abbrev pub decreases-loop-parts : goal.decreases-loop-parts
decreases-loop-parts l = length l.rest
