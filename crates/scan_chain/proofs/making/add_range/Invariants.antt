use Rattle.std.proofs.Common.{◌≡◌, ◌++◌, map, drop}
use Rattle.stil_ast.specs.Data.Texts.{indices, indexed}
use Rattle.scan_chain.proofs.making.add_range.Given as goal

abbrev pub invariant-loop-place : goal.invariant-loop-place
invariant-loop-place l =
    l.texts.items ++ map (indexed l.fn.name) (drop l.place (indices l.fn.range))
    ≡ l.fn.texts.items ++ map (indexed l.fn.name) (indices l.fn.range)
