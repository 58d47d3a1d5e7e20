-- Which inherited waveforms still stand, as the code finds it.
use Rattle.std.specs.Prelude.{◌≡◌, ℕ, ◌+◌, ◌++◌, map, drop, ◌==◌, ◌&&◌, Bool, false, List, Option, Some, None, length, if◌then◌else◌}
use Rattle.std.specs.List.{list_any}
use Rattle.text_bytes.specs.Bytes.{is_character}
use Rattle.stil_ast.specs.Meaning.Signals.{Names}
use Rattle.stil_ast.specs.Meaning.Members.{members}
use Rattle.stil_ast.specs.Meaning.Tables.{Waveform, waveforms}
use Rattle.stil_ast.specs.Faults.TableFaults.{Timed}
use Rattle.stil_ast.specs.declared.name.SigRef.{SigRef}
use Rattle.stil_ast.specs.declared.timing.WaveDecl.{WaveDecl}
use Rattle.expr_text.specs.Ratio.{Ratio}
use Rattle.wave_tables.specs.declared.source.Source.{Source}
use Rattle.wave_tables.specs.declared.times.ReadWave.{ReadWave}
use Rattle.wave_tables.specs.ReadWaves.{read_wave}
use Rattle.wave_tables.specs.Sources.{at_slot, Maps}

-- the source of a signal and a character, where it is a waveform character
abbrev pub source_for : List (Option Source) → ℕ → ℕ → Option Source
source_for slots signal character = if is_character character then at_slot slots signal character else None

-- whether it is that source
abbrev pub is_source : Source → Option Source → Bool
is_source s None = false
is_source s (Some found) = found.table == s.table && found.number == s.number

-- whether a source counts for one of these characters of a signal
abbrev pub counts_for : List (Option Source) → Source → ℕ → List ℕ → Bool
counts_for slots source signal characters = list_any (λ c. is_source source (source_for slots signal c)) characters

-- whether it counts for one of these signals and characters
abbrev pub counts_in : List (Option Source) → Source → List ℕ → List ℕ → Bool
counts_in slots source signals characters = list_any (λ s. counts_for slots source s characters) signals

-- the waveform that stands behind a reference
abbrev pub waveform_at : Names → Source → SigRef → WaveDecl → Waveform
waveform_at names source reference w = record {
  table = source.table;
  number = source.number;
  signals = members names reference;
  characters = w.characters;
  events = w.events;
}

-- the slots tell which of a table's waveforms count
abbrev pub MapsTable : Timed Ratio → ℕ → List (Option Source) → Type 0
MapsTable t table slots = Maps (length t.names.signals) (waveforms t.names t.tables table) slots

-- from a number on stand these waveforms with their times, and then others
abbrev pub StandAt : Timed Ratio → List ReadWave → ℕ → List WaveDecl → Type 0
StandAt t reads number waves = drop number reads ≡ map (read_wave t) waves ++ drop (number + length waves) reads
