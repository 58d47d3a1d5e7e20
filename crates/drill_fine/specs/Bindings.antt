-- What a drill's code has of signals.
use Rattle.std.specs.Prelude.{List, [], ◌∷◌, codes}
use Rattle.tester_types.specs.declared.signal.Direction.TheVariants as direction
use Rattle.packed_code.specs.declared.parts.CodeSignal.{CodeSignal}

-- the signals of the code
abbrev pub code_signals : List CodeSignal
code_signals =
    record { name = codes "d"; direction = direction.In } ∷ record { name = codes "ck"; direction = direction.In }
    ∷ record { name = codes "q"; direction = direction.Out } ∷ []
