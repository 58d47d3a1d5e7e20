use Rattle.std.proofs.Common.{◌∙◌, sym, ap}
use Rattle.part_lines.specs.Words.{is_named}
use Rattle.grade_parts.proofs.SaidLemmas.{told_cycle, told_front, told_level, told_fault, told_name, tells_so}
use Rattle.grade_parts.proofs.said.told_fault.Goals as goal

pub returns-then-not-is_cycle : goal.returns-then-not-is_cycle
returns-then-not-is_cycle c =
    told_cycle c.args.line.now c.in_ok-front.front.now c.in_ok-front.cycle.now c.in_ok-front.ensures
    (sym c.is_cycle.ensures ∙ c.if-not-is_cycle.true)

pub returns-in_err-front-2 : goal.returns-in_err-front-2
returns-in_err-front-2 c =
    rw c.from_residual-in_err-front-2.ensures
    (told_front c.args.line.now c.in_ok-front.front.now c.in_ok-front.cycle.now c.in_ok-front.ensures c.in_err-front-2.ensures)

pub returns-in_err-value : goal.returns-in_err-value
returns-in_err-value c =
    rw c.from_residual-in_err-value.ensures
    (told_level c.args.line.now c.in_ok-front.front.now c.in_ok-front.cycle.now c.in_ok-front-2.front.now c.in_ok-front-2.level.now
    c.in_ok-front.ensures c.in_ok-front-2.ensures c.in_err-value.ensures)

pub returns-in_err-net : goal.returns-in_err-net
returns-in_err-net c =
    rw c.from_residual-in_err-net.ensures
    (told_fault c.args.line.now c.in_ok-front.front.now c.in_ok-front.cycle.now c.in_ok-front-2.front.now c.in_ok-front-2.level.now
    c.in_ok-front.ensures c.in_ok-front-2.ensures c.in_err-net.ensures)

pub returns-then-not-is_named : goal.returns-then-not-is_named
returns-then-not-is_named c =
    told_name c.args.line.now c.in_ok-front.front.now c.in_ok-front.cycle.now c.in_ok-front-2.front.now c.in_ok-front-2.level.now
    c.in_ok-net.net.now c.in_ok-front.ensures c.in_ok-front-2.ensures c.in_ok-net.ensures
    (sym c.is_named.ensures ∙ c.if-not-is_named.true)

pub returns : goal.returns
returns c =
    tells_so c.args.line.now c.in_ok-front.front.now c.in_ok-front.cycle.now c.in_ok-front-2.front.now c.in_ok-front-2.level.now
    c.in_ok-net.net.now c.in_ok-value.value c.requires c.in_ok-front.ensures (sym c.is_cycle.ensures ∙ c.if-not-is_cycle.false)
    c.in_ok-front-2.ensures c.in_ok-value.ensures c.in_ok-net.ensures (sym c.is_named.ensures ∙ c.if-not-is_named.false)
