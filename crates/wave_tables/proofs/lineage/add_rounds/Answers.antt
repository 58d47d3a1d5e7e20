use Rattle.std.proofs.Common.{arith, ◌∙◌, ◌≡◌, ap, length, false}
use Rattle.std.proofs.lemmas.List.{length-map}
use Rattle.wave_tables.specs.Scope.{timed}
use Rattle.wave_tables.proofs.RoundLemmas.{level_none, level_more, level_whole}
use Rattle.wave_tables.proofs.lineage.add_rounds.Goals as goal

pub loop-round-init : goal.loop-round-init
loop-round-init c = level_none (timed c.args.scope.now) c.args.wholes.now c.requires.same c.requires.none

pub loop-round-preserved : goal.loop-round-preserved
loop-round-preserved c =
    level_more (timed c.args.scope.now) c.loop-round._round c.loop-round.wholes c.add_ready.new.wholes
    c.args.inherits.now c.as_slice.result.now
    c.in_ok-add_ready.field-0 c.loop-round.invariant c.requires.each (c.as_slice.ensures.value ∙ c.in_ok-found.ensures)
    c.in_ok-add_ready.ensures

pub returns-then-not-branch : goal.returns-then-not-branch
returns-then-not-branch c =
    let count = ap length c.requires.each ∙ length-map (timed c.args.scope.now).tables _ in
    let none : c.in_ok-add_ready.field-0 ≡ false = c.if-not-branch.true in
    level_whole (timed c.args.scope.now) c.loop-round._round c.loop-round.wholes c.add_ready.new.wholes
    c.args.inherits.now c.as_slice.result.now
    c.in_ok-add_ready.field-0 c.loop-round.invariant c.requires.each (c.as_slice.ensures.value ∙ c.in_ok-found.ensures)
    c.in_ok-add_ready.ensures
    (omega (arith, count)) none
