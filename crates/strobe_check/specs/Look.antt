-- What a look wants of a signal's level (IEEE 1450-1999, the compare events of a waveform).
use Rattle.std.specs.Prelude.{Bool, true, false}
use Rattle.tester_types.specs.declared.wave.Look.{Look}
use Rattle.tester_types.specs.declared.wave.Look.TheVariants.{Low, High, Off, LowWindow, HighWindow, OffWindow, Close}
use Rattle.tester_types.specs.declared.level.Level.{Level}
use Rattle.tester_types.specs.declared.level.Level.TheVariants.{Zero, One, Z}

-- L, H and T look at their own instant alone
abbrev pub is_edge : Look → Bool
is_edge Low = true
is_edge High = true
is_edge Off = true
is_edge look = false

-- l, h and t open a window
abbrev pub is_window : Look → Bool
is_window LowWindow = true
is_window HighWindow = true
is_window OffWindow = true
is_window look = false

-- L and l want the level 0, H and h want 1, T and t want off; X wants nothing
abbrev pub is_met : Look → Level → Bool
is_met Low Zero = true
is_met LowWindow Zero = true
is_met High One = true
is_met HighWindow One = true
is_met Off Z = true
is_met OffWindow Z = true
is_met Close level = true
is_met look level = false
