use Rattle.std.proofs.Common.{◌≡◌, true, take}
use Rattle.std.specs.List.{list_all}
use Rattle.flat_parts.specs.FlatText.{is_plain}
use Rattle.flat_stil.proofs.names.are_plain_execs.Given as goal

abbrev pub invariant-loop-exec : goal.invariant-loop-exec
invariant-loop-exec l = list_all (λ exec. is_plain exec.name) (take l.exec l.code.execs) ≡ true
