use Rattle.std.proofs.Common.{rules, ◌∙◌}
use Rattle.cycle_comp.proofs.StepLemmas.{short-front, short-rest, chains-push}
use Rattle.cycle_comp.proofs.chains.code_each.Goals as goal

pub code_chain-requires : goal.code_chain-requires
code_chain-requires c =
    short-front c.in-Some.chain c.next.new.self.rest.items c.loop-chain.chain-iterator.rest.items c.in-Some.ensures.steps.0
    c.loop-chain.invariant.short

pub loop-chain-preserved : goal.loop-chain-preserved
loop-chain-preserved c = record {
  can_go = search rules;
  ends = search rules;
  made =
      c.in_ok-push.ensures.items
      ∙ chains-push c.loop-chain.list.items c.loop-chain.yielded c.in-Some.chain c.code_chain.result c.loop-chain.invariant.made
      c.code_chain.ensures;
  short =
      short-rest c.in-Some.chain c.next.new.self.rest.items c.loop-chain.chain-iterator.rest.items c.in-Some.ensures.steps.0
      c.loop-chain.invariant.short;
}
