-- The lines that the code reads and where its reader stands, as plain data.
use Rattle.std.specs.Prelude.{◌≡◌, ℕ, ◌&&◌, nat_lt, Bool, true, false, List, [], length, Option, Some, None}
use Rattle.tester_types.specs.declared.level.Drive.{Drive}
use Rattle.die_sim.specs.Socket.{Calls}
use Rattle.vcd_text.specs.declared.line as code
use Rattle.vcd_text.specs.declared.line.Line.TheVariants as read
use Rattle.vcd_text.specs.declared.reader as reader
use Rattle.vcd_text.specs.declared.reader.Stage.TheVariants as stage
use Rattle.vcd_text.specs.declared.dump.Dump.{Dump}
use Rattle.vcd_text.specs.Dump.{Var, Line, timescale, scope, named, upscope, definitions, at, change, spelled}
use Rattle.vcd_text.specs.Standing.{Standing, begun, timed, naming, known, playing, calling, behind, pair_at, FitsLine, IsStop}

-- what a line says
abbrev pub seen : code.Line.Line → Line
seen read.Timescale = timescale
seen read.Scope = scope
seen (read.Named signal name) = named signal name.now
seen read.Upscope = upscope
seen read.Definitions = definitions
seen (read.At instant) = at instant
seen (read.Change signal drive) = change signal drive

-- where a reader stands, by how far it has come, its vars, the calls that are closed, and the call that is open
abbrev pub standing_of : reader.Stage.Stage → List Var → Calls → ℕ → List (ℕ × Drive) → Standing
standing_of stage.Begun vars calls last drives = begun
standing_of stage.Timed vars calls last drives = timed
standing_of stage.Naming vars calls last drives = naming vars
standing_of stage.Known vars calls last drives = known vars
standing_of stage.Playing vars calls last drives = playing vars
standing_of stage.Calling vars calls last drives = calling vars calls last drives

-- nothing is there that stands later in a dump
abbrev pub IsFreshAt : reader.Stage.Stage → List Var → Calls → Type 0
IsFreshAt stage.Begun vars calls = (vars ≡ []) × (calls ≡ [])
IsFreshAt stage.Timed vars calls = (vars ≡ []) × (calls ≡ [])
IsFreshAt stage.Naming vars calls = calls ≡ []
IsFreshAt stage.Known vars calls = calls ≡ []
IsFreshAt stage.Playing vars calls = calls ≡ []
IsFreshAt stage.Calling vars calls = Unit {0}

-- whether a line was taken, and where the reading stands then
abbrev pub Takes : Standing → Line → Bool → Standing → Type 0
Takes old line true new = behind old line ≡ Some new
Takes old line false new = behind old line ≡ None

-- whether a call may begin there at this instant
abbrev pub may_call : Standing → ℕ → Bool
may_call begun instant = false
may_call timed instant = false
may_call (naming vars) instant = false
may_call (known vars) instant = false
may_call (playing vars) instant = nat_lt 0 (length vars)
may_call (calling vars calls last drives) instant = nat_lt 0 (length drives) && nat_lt last instant

-- whether a text is a line that was taken
abbrev pub TakesText : Standing → List ℕ → Bool → Standing → Type 0
TakesText old text true new = (line : Line) × FitsLine line × (text ≡ spelled line) × (behind old line ≡ Some new)
TakesText old text false new = IsStop old text

-- the vars and the tape of a dump that ends there, if one may
abbrev pub IsPairAt : Standing → Option Dump → Type 0
IsPairAt standing None = pair_at standing ≡ None
IsPairAt standing (Some d) = pair_at standing ≡ Some (d.vars, d.tape.calls)
