use Rattle.std.proofs.Common.{◌≡◌, length}
use Rattle.std.specs.List.{AllByRecursion}
use Rattle.pattern_order.specs.declared.walk.Mark.{Mark}
use Rattle.pattern_order.specs.declared.walk.Mark.TheVariants.{Fresh}
use Rattle.pattern_order.proofs.walk.no_marks.Given as goal

abbrev pub invariant-loop : goal.invariant-loop
invariant-loop l = (length l.marks.items ≡ l.counter) × AllByRecursion (λ (m : Mark). m ≡ Fresh) l.marks.items
