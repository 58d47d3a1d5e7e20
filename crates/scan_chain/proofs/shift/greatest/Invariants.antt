use Rattle.std.proofs.Common.{◌≡◌, drop}
use Rattle.std.specs.Prelude.{max}
use Rattle.scan_chain.specs.Held.{greatest}
use Rattle.scan_chain.proofs.shift.greatest.Given as goal

abbrev pub invariant-loop-number : goal.invariant-loop-number
invariant-loop-number l =
    max l.most (greatest (drop l.number-index l.numbers)) ≡ greatest l.numbers
