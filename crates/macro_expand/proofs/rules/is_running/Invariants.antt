use Rattle.std.proofs.Common.{◌≡◌, drop}
use Rattle.std.specs.List.{list_any}
use Rattle.macro_expand.specs.Standings.{is_one}
use Rattle.macro_expand.proofs.rules.is_running.Given as goal

abbrev pub invariant-loop-body : goal.invariant-loop-body
invariant-loop-body l = list_any (is_one l.callee) (drop l.body-index l.running) ≡ list_any (is_one l.callee) l.fn.running
