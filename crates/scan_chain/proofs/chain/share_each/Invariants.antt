use Rattle.std.proofs.Common.{◌≡◌, take}
use Rattle.scan_chain.specs.Held.{chains_in}
use Rattle.scan_chain.proofs.chain.share_each.Given as goal

abbrev pub invariant-loop-chain : goal.invariant-loop-chain
invariant-loop-chain l = chains_in l.shared.items ≡ chains_in (take l.chain-index l.chains)
