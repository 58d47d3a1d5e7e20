use Rattle.std.proofs.Common.{◌≡◌, map, true}
use Rattle.std.specs.List.{list_all}
use Rattle.scan_chain.specs.Held.{chains_in}
use Rattle.scan_chain.specs.Short.{is_short}
use Rattle.cycle_comp.specs.Compiled.{chain_of}
use Rattle.cycle_comp.proofs.chains.code_each.Given as goal

abbrev pub invariant-loop-chain : goal.invariant-loop-chain
invariant-loop-chain l = record {
  can_go : (goal.iterator-loop-chain).can_next l.chain-iterator;
  ends : (goal.iterator-loop-chain).is_finite l.chain-iterator;
  made : l.list.items ≡ map chain_of (chains_in l.yielded);
  short : list_all is_short (chains_in l.chain-iterator.rest.items) ≡ true;
}
