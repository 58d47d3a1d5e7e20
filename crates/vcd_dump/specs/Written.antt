-- The text of a signal in a dump; no public clause cites it.
use Rattle.std.specs.Prelude.{ℕ, List, [], ◌∷◌, ◌++◌, length, if◌then◌else◌}
use Rattle.std.specs.List.{flat_map, range_with_len}
use Rattle.packed_code.specs.Program.{Program}
use Rattle.die_sim.specs.Die.{Device}
use Rattle.site_meaning.specs.Playing.{is_driven}
use Rattle.die_sim.specs.Socket.{Calls}
use Rattle.vcd_text.specs.Dump.{timescale, scope, named, upscope, definitions, ended, text_of, name_of}
use Rattle.vcd_text.specs.Put.{call_text}
use Rattle.vcd_dump.specs.Taken.{signal_text}

-- the line of its var, if the die is driven by it
abbrev pub var_text : Device → Program → ℕ → List ℕ
var_text device code signal =
    if is_driven device signal then ended (named signal (name_of signal (signal_text code signal))) else []

-- the text up to the last var
unfoldable pub front_text : Device → Program → List ℕ
front_text device code =
    text_of (timescale ∷ scope ∷ [])
    ++ flat_map (var_text device code) (range_with_len 0 (length code.signals))

-- the text behind it
unfoldable pub back_text : Calls → List ℕ
back_text calls = text_of (upscope ∷ definitions ∷ []) ++ flat_map call_text calls
