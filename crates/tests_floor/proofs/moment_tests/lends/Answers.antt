use Rattle.std.proofs.Common.{[], ◌∷◌, refl}
use Rattle.tests_floor.proofs.moment_tests.lends.Goals as goal

pub of-requires-clause-skews : goal.of-requires-clause-skews
of-requires-clause-skews c = c.if-not-keep_inside.ensures.rows refl (48 ∷ 72 ∷ []) refl

pub of-requires-2-clause-skews : goal.of-requires-2-clause-skews
of-requires-2-clause-skews c = c.if-not-keep_inside.ensures.rows refl (49 ∷ 76 ∷ []) refl

pub of-requires-3-clause-skews : goal.of-requires-3-clause-skews
of-requires-3-clause-skews c = c.if-not-keep_inside.ensures.rows refl (48 ∷ 72 ∷ []) refl
