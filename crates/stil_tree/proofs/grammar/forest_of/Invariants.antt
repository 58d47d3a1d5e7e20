use Rattle.std.proofs.Common.{◌≡◌, ◌≤◌, [], take}
use Rattle.stil_tree.specs.Trees.{end}
use Rattle.stil_tree.specs.Step.{going, run}
use Rattle.stil_tree.specs.Memory.{state_of, AreStanding}
use Rattle.stil_tree.proofs.grammar.forest_of.Given as goal

abbrev pub invariant-loop-at : goal.invariant-loop-at
invariant-loop-at l = record {
  state : state_of l.builder ≡ run 0 (going [] end 0) (take l.at l.tokens);
  within : l.builder.first ≤ l.at;
  standing : AreStanding l.builder;
}
