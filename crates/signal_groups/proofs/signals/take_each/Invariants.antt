use Rattle.std.proofs.Common.{◌≡◌, drop}
use Rattle.answers.specs.Reading.{stepping}
use Rattle.signal_groups.specs.Begun.{begun_in, decl_said}
use Rattle.signal_groups.proofs.signals.take_each.Given as goal

abbrev pub invariant-loop-decl : goal.invariant-loop-decl
invariant-loop-decl l =
    stepping decl_said (begun_in l.texts.keys l.kept.items) (drop l.decl-index l.decls)
    ≡ stepping decl_said (begun_in l.fn.texts.keys l.fn.kept.items) l.decls
