use Rattle.std.proofs.Common.{◌≡◌, drop}
use Rattle.scan_chain.specs.Held.{chains_in}
use Rattle.scan_chain.specs.Cell.{chain_at}
use Rattle.scan_chain.proofs.chain.chain_at.Given as goal

abbrev pub invariant-loop-chain : goal.invariant-loop-chain
invariant-loop-chain l = chain_at (chains_in (drop l.chain-index l.chains)) l.signal ≡ chain_at (chains_in l.chains) l.signal
