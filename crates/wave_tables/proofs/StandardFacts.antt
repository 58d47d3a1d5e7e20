-- Known look-ups.
use Rattle.std.proofs.Common.{◌≡◌, List, [], ◌∷◌, Some, None, refl}
use Rattle.tester_types.specs.Waves.{wave_key}
use Rattle.tester_types.specs.declared.wave.Wave.{Wave}
use Rattle.tester_types.specs.declared.wave.Table.{Table}
use Rattle.wave_tables.specs.Waves.{wave_in}

-- a wave without events
abbrev still : Wave
still = record { signal = 1; character = 65; events = [] }

abbrev other : Wave
other = record { signal = 2; character = 48; events = [] }

abbrev tables : List Table
tables =
    record { name = []; period = 1; waves = [] }
    ∷ record { name = []; period = 1; waves = still ∷ other ∷ [] }
    ∷ []

-- the pair is in the second table
pub found : wave_in tables 1 2 48 ≡ Some other
found = refl

-- it isn't in the first one
pub of_another_table : wave_in tables 0 2 48 ≡ None
of_another_table = refl

-- the signal has another character
pub of_another_character : wave_in tables 1 1 48 ≡ None
of_another_character = refl

-- there is no third table
pub no_table : wave_in tables 2 2 48 ≡ None
no_table = refl

-- characters count after signals
pub keys : wave_key 1 0 ≡ 256
keys = refl
