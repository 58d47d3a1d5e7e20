use Rattle.std.proofs.Common.{ap, ◌∙◌}
use Rattle.text_bytes.specs.Texts.{is_among}
use Rattle.indexmap.specs.IndexSet.{keys}
use Rattle.time_expr.specs.Picked.{place_of}
use Rattle.time_expr.specs.Path.{last_of}
use Rattle.time_expr.specs.declared.walk.Visit.{Visit}
use Rattle.time_expr.proofs.PathLemmas.{none-running, path-starts, path-ends, path-finds, path-goes-down, path-nears}
use Rattle.time_expr.proofs.walk.walk.Goals as goal

pub loop-value-init : goal.loop-value-init
loop-value-init c =
    path-starts c.args.variables.now c.args.vars.now c.requires.known c.new-path.result.items
    (record { variable = c.args.start; spot = c.args.spot }) (is_among (keys c.new-running.result)) c.new-path.ensures.items
    (none-running c.new-running.result c.new-running.ensures.empty) c.requires.start

pub loop-value-preserved : goal.loop-value-preserved
loop-value-preserved c =
    let first : Visit = record { variable = c.args.start; spot = c.args.spot } in
    path-goes-down c.args.variables.now c.args.vars.now c.requires.known (place_of c.args.spot) c.args.start.now.name.now
    c.loop-value.path.items first c.last_of-here.result (is_among (keys c.loop-value.running))
    (c.last_of-here.ensures ∙ ap (λ xs. last_of xs first) c.deref.ensures.value) c.loop-value.invariant
    c.in-Err-Down.field-0 c.in-Err-Down.variable c.in-Err-Down.spot c.in-Err-Down.field-0-is
    c.in-Err-Down.ensures.fresh c.in-Err-Down.ensures.steps
    (is_among (keys c.add_name.new.index)) c.in_ok-add_name-in-Err-Down.ensures c.push.new.self.items
    c.in_ok-push-in-Err-Down.ensures.items

pub loop-value-smaller : goal.loop-value-smaller
loop-value-smaller c =
    let first : Visit = record { variable = c.args.start; spot = c.args.spot } in
    path-nears c.args.variables.now c.args.vars.now c.requires.known (place_of c.args.spot) c.args.start.now.name.now
    c.loop-value.path.items first c.last_of-here.result (is_among (keys c.loop-value.running))
    (c.last_of-here.ensures ∙ ap (λ xs. last_of xs first) c.deref.ensures.value) c.loop-value.invariant
    c.in-Err-Down.field-0 c.in-Err-Down.variable c.in-Err-Down.spot c.in-Err-Down.field-0-is
    c.in-Err-Down.ensures.fresh c.in-Err-Down.ensures.steps
    (is_among (keys c.add_name.new.index)) c.in_ok-add_name-in-Err-Down.ensures

pub returns-in-Ok : goal.returns-in-Ok
returns-in-Ok c =
    let first : Visit = record { variable = c.args.start; spot = c.args.spot } in
    path-finds c.args.variables.now c.args.vars.now c.requires.known (place_of c.args.spot) c.args.start.now.name.now
    c.loop-value.path.items first c.last_of-here.result (is_among (keys c.loop-value.running))
    (c.last_of-here.ensures ∙ ap (λ xs. last_of xs first) c.deref.ensures.value) c.loop-value.invariant
    c.in-Ok.value c.in-Ok.ensures.fresh c.in-Ok.ensures.steps

pub returns-in-Err-Ends : goal.returns-in-Err-Ends
returns-in-Err-Ends c =
    let first : Visit = record { variable = c.args.start; spot = c.args.spot } in
    path-ends c.args.variables.now c.args.vars.now c.requires.known (place_of c.args.spot) c.args.start.now.name.now
    c.loop-value.path.items first c.last_of-here.result (is_among (keys c.loop-value.running))
    (c.last_of-here.ensures ∙ ap (λ xs. last_of xs first) c.deref.ensures.value) c.loop-value.invariant
    c.in-Err-Ends.field-0 c.in-Err-Ends.refusal c.in-Err-Ends.field-0-is c.in-Err-Ends.ensures.steps
