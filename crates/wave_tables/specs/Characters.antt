-- The characters of waveforms.
use Rattle.std.specs.Prelude.{ℕ, Bool, List}
use Rattle.std.specs.List.{list_all}
use Rattle.text_bytes.specs.Bytes.{is_character}
use Rattle.stil_ast.specs.declared.timing.WaveDecl.{WaveDecl}
use Rattle.stil_ast.specs.declared.timing.SignalWaves.{SignalWaves}
use Rattle.stil_ast.specs.declared.timing.TableDecl.{TableDecl}

-- each of these is a waveform character
abbrev pub has_characters : List ℕ → Bool
has_characters characters = list_all is_character characters

-- these waveforms are for waveform characters
abbrev pub waves_with_characters : List WaveDecl → Bool
waves_with_characters waves = list_all (λ (w : WaveDecl). has_characters w.characters) waves

-- so are those behind these references
abbrev pub signals_with_characters : List SignalWaves → Bool
signals_with_characters list = list_all (λ (s : SignalWaves). waves_with_characters s.waves) list

-- so are those of these tables
abbrev pub are_with_characters : List TableDecl → Bool
are_with_characters tables = list_all (λ (t : TableDecl). signals_with_characters t.waveforms) tables
