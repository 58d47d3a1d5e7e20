use Rattle.std.proofs.Common.{count_by}
use Rattle.text_bytes.specs.Texts.{is_among}
use Rattle.indexmap.specs.IndexSet.{keys}
use Rattle.time_expr.specs.Picked.{variable_of, place_of}
use Rattle.time_expr.specs.Path.{last_of}
use Rattle.time_expr.specs.Choosing.{IsWalk, is_free}
use Rattle.time_expr.proofs.walk.walk.Given as goal

-- the evaluation has come to the last visit of the path
abbrev pub invariant-loop-value : goal.invariant-loop-value
invariant-loop-value l =
    IsWalk l.variables l.vars (place_of l.fn.spot) l.fn.start.name.now (is_among (keys l.running))
    (variable_of (last_of l.path.items l.first).variable.now) (place_of (last_of l.path.items l.first).spot)

-- each turn leaves fewer variables free
abbrev pub decreases-loop-value : goal.decreases-loop-value
decreases-loop-value l = count_by (is_free l.vars (is_among (keys l.running))) l.variables
