use Rattle.std.proofs.Common.{◌≡◌, Some, map, drop}
use Rattle.answers.specs.Reading.{stepping}
use Rattle.stil_ast.specs.Data.Texts.{indices, indexed}
use Rattle.stil_ast.specs.Meaning.Signals.{declared_as}
use Rattle.signal_groups.specs.Begun.{begun_in, signal_said, signal_as}
use Rattle.signal_groups.proofs.signals.take_range.Given as goal

abbrev pub invariant-loop-place : goal.invariant-loop-place
invariant-loop-place l =
    stepping signal_said (begun_in l.texts.keys l.kept.items)
    (map (λ i. signal_as l.fn.decl (indexed l.fn.decl.name i) (Some l.fn.decl.name)) (drop l.place (indices l.fn.range)))
    ≡ stepping signal_said (begun_in l.fn.texts.keys l.fn.kept.items) (declared_as l.fn.decl (Some l.fn.range))
