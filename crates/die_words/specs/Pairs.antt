-- Gates of two levels. No public clause cites it.
use Rattle.std.specs.Prelude.{[], ◌∷◌, count_by}
use Rattle.tester_types.specs.declared.level.Level.{Level}
use Rattle.bench_net.specs.Gates.{is_zero, is_one, and_of, or_of, xor_of}

-- AND of two levels
abbrev pub both : Level → Level → Level
both x y = and_of (count_by is_zero (x ∷ y ∷ [])) (count_by is_one (x ∷ y ∷ [])) 2

-- OR of two levels
abbrev pub either : Level → Level → Level
either x y = or_of (count_by is_zero (x ∷ y ∷ [])) (count_by is_one (x ∷ y ∷ [])) 2

-- XOR of two levels
abbrev pub differ : Level → Level → Level
differ x y = xor_of (count_by is_zero (x ∷ y ∷ [])) (count_by is_one (x ∷ y ∷ [])) 2
