use Rattle.std.proofs.Common.{◌≡◌, [], take, drop}
use Rattle.stil_ast.specs.Meaning.Variables.{picked_fault}
use Rattle.time_expr.specs.Picked.{variables_of}
use Rattle.time_expr.specs.Choosing.{Keeps}
use Rattle.time_expr.proofs.stop.index_of.Given as goal

abbrev pub invariant-loop-place : goal.invariant-loop-place
invariant-loop-place l = record {
  kept : Keeps (variables_of (take l.place l.picked)) l.index;
  apart : picked_fault (variables_of (take l.place l.picked)) (variables_of (drop l.place l.picked))
      ≡ picked_fault [] (variables_of l.picked);
}
