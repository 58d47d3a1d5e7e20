use Rattle.std.proofs.Common.{◌≡◌, drop}
use Rattle.scan_chain.specs.Held.{chains_in, is_end}
use Rattle.scan_chain.proofs.outs.is_end.Given as goal

abbrev pub invariant-loop-chain : goal.invariant-loop-chain
invariant-loop-chain l = is_end (chains_in (drop l.chain-index l.chains)) l.signal ≡ is_end (chains_in l.chains) l.signal
