use Rattle.std.proofs.Common.{◌≡◌, drop}
use Rattle.text_bytes.specs.Texts.{behind}
use Rattle.time_expr.specs.Names.{first_missing}
use Rattle.time_expr.proofs.names.missing_of.Given as goal

abbrev pub invariant-loop-name : goal.invariant-loop-name
invariant-loop-name l = first_missing l.vars (behind (drop l.name-index l.names)) ≡ first_missing l.vars (behind l.names)
