-- The marks by which a character of a row is looked up among the waves of a table; no public clause cites it.
use Rattle.std.specs.Prelude.{◌≡◌, ℕ, ◌+◌, ◌*◌, ◌<◌, Bool, false, List, length, slice_index_or, if◌then◌else◌}
use Rattle.tester_types.specs.declared.wave.Wave.{Wave}
use Rattle.tester_types.specs.declared.wave.Table.{Table}
use Rattle.packed_code.specs.Conditions.{has_wave, waves_of}
use Rattle.page_code.specs.declared.wave_index.WaveIndex.{WaveIndex}

-- the place of the mark of a signal and a character
abbrev pub mark_of : ℕ → ℕ → ℕ
mark_of signal character = signal * 256 + character

-- each mark says whether its signal has a wave for its character
pub record AreMarks (waves : List Wave) (marks : List Bool) : Type 0 where
  pub each : (signal character : ℕ) → character < 256 → mark_of signal character < length marks
      → slice_index_or marks (mark_of signal character) false ≡ has_wave waves signal character

-- the marks of the waves have this value, and the others are as they were
pub record ArePut (waves : List Wave) (value : Bool) (old new : List Bool) : Type 0 where
  pub each : (signal character : ℕ) → character < 256 → mark_of signal character < length old
      → slice_index_or new (mark_of signal character) false
      ≡ (if has_wave waves signal character then value else slice_index_or old (mark_of signal character) false)
  pub long : length new ≡ length old

-- the marks are those of the table of this number
pub record IsIndex (tables : List Table) (index : WaveIndex) : Type 0 where
  pub marks : AreMarks (waves_of tables index.table) index.marks.items
