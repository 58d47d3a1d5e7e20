use Rattle.std.proofs.Common.{◌≡◌, ◌+◌, drop}
use Rattle.stil_lex.specs.Step.{pair_place}
use Rattle.stil_lex.proofs.byte.pair_place.Given as goal

abbrev pub invariant-loop-at : goal.invariant-loop-at
invariant-loop-at l = pair_place l.first l.second l.text ≡ l.at + pair_place l.first l.second (drop l.at l.text)
