use Rattle.std.proofs.Common.{◌≡◌, ◌==◌, drop}
use Rattle.std.specs.List.{find}
use Rattle.datalog.proofs.cells.first_chain.Given as goal

abbrev pub invariant-loop-chain : goal.invariant-loop-chain
invariant-loop-chain l =
    find (λ chain. chain.out == l.signal) (drop l.chain-index l.chains) ≡ find (λ chain. chain.out == l.signal) l.chains
