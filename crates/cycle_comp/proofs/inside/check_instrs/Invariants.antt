use Rattle.std.proofs.Common.{◌≡◌, ◌+◌, take}
use Rattle.std.specs.List.{AllByRecursion}
use Rattle.cycle_comp.specs.Working.{IsInside}
use Rattle.cycle_comp.proofs.inside.check_instrs.Given as goal

abbrev pub invariant-loop-instr : goal.invariant-loop-instr
invariant-loop-instr l =
    (l.tables ≡ l.before + l.own) × AllByRecursion (IsInside (l.before + l.own)) (take l.instr-index l.instrs)
