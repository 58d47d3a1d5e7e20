-- Where the reading of a dump stands behind some of its lines; no public clause cites it.
use Rattle.std.specs.Prelude.{◌≡◌, ℕ, ◌+◌, ◌^◌, ◌<◌, ◌≤◌, ◌&&◌, ◌==◌, not, Bool, true, nat_lt, nat_le, List, [], ◌∷◌, ◌++◌, map, length, fold, Option, Some, None, if◌then◌else◌}
use Rattle.std.specs.List.{flat_map, list_all}
use Rattle.std.specs.Option.{option_and_then}
use Rattle.tester_types.specs.declared.level.Drive.{Drive}
use Rattle.die_sim.specs.Socket.{Calls}
use Rattle.text_bytes.specs.Limits.{longest_name, most_signals}
use Rattle.vcd_text.specs.Dump.{Var, Line, timescale, scope, named, upscope, definitions, at, change, is_plain, line_of_var, lines_of_call, head_of, spelled}
use Rattle.vcd_text.specs.Sound.{is_var}

-- behind nothing, the first line, the second with these vars, all vars, the head, or in a call behind these
pub data Standing : Type 0 where
  begun : Standing
  timed : Standing
  naming : List Var → Standing
  known : List Var → Standing
  playing : List Var → Standing
  calling : List Var → Calls → ℕ → List (ℕ × Drive) → Standing

-- the least number that an item behind these may have, where numbers rise
abbrev pub next_of : {X : Type 0} → List (ℕ × X) → ℕ
next_of items = fold (λ least item. item.0 + 1) 0 items

-- behind one more line, if a dump may go on so
abbrev pub behind : Standing → Line → Option Standing
behind begun timescale = Some timed
behind timed scope = Some (naming [])
behind (naming vars) (named signal name) =
    if nat_le (next_of vars) signal then Some (naming (vars ++ (signal, name) ∷ [])) else None
behind (naming vars) upscope = Some (known vars)
behind (known vars) definitions = Some (playing vars)
behind (playing vars) (at instant) = if nat_lt 0 (length vars) then Some (calling vars [] instant []) else None
behind (calling vars calls last drives) (at instant) =
    if nat_lt 0 (length drives) && nat_lt last instant
    then Some (calling vars (calls ++ (last, drives) ∷ []) instant []) else None
behind (calling vars calls last drives) (change signal drive) =
    if nat_le (next_of drives) signal && is_var vars signal
    then Some (calling vars calls last (drives ++ (signal, drive) ∷ [])) else None
behind standing line = None

-- behind more lines
unfoldable pub behind_all : Standing → List Line → Option Standing
behind_all standing [] = Some standing
behind_all standing (line ∷ lines) = option_and_then (λ next. behind_all next lines) (behind standing line)

-- the lines that were read
abbrev pub lines_at : Standing → List Line
lines_at begun = []
lines_at timed = timescale ∷ []
lines_at (naming vars) = timescale ∷ scope ∷ map line_of_var vars
lines_at (known vars) = timescale ∷ scope ∷ (map line_of_var vars ++ upscope ∷ [])
lines_at (playing vars) = head_of vars
lines_at (calling vars calls last drives) = head_of vars ++ flat_map lines_of_call (calls ++ (last, drives) ∷ [])

-- what a dump that ends there is of, if it may end there
abbrev pub pair_at : Standing → Option (List Var × Calls)
pair_at (playing vars) = Some (vars, [])
pair_at (calling vars calls last drives) =
    if nat_lt 0 (length drives) then Some (vars, calls ++ (last, drives) ∷ []) else None
pair_at standing = None

-- what a line of a sound dump says: numbers in their ranges, and a name of the form
abbrev pub FitsLine : Line → Type 0
FitsLine timescale = Unit {0}
FitsLine scope = Unit {0}
FitsLine (named signal name) = (signal < most_signals) × (is_plain name ≡ true) × (length name ≤ longest_name)
FitsLine upscope = Unit {0}
FitsLine definitions = Unit {0}
FitsLine (at instant) = instant < 2 ^ 128
FitsLine (change signal drive) = signal < most_signals

-- the lines in front of the calls begin with `$`
abbrev pub IsHeadLine : Line → Type 0
IsHeadLine timescale = Unit {0}
IsHeadLine scope = Unit {0}
IsHeadLine (named signal name) = Unit {0}
IsHeadLine upscope = Unit {0}
IsHeadLine definitions = Unit {0}
IsHeadLine (at instant) = ⊥
IsHeadLine (change signal drive) = ⊥

-- no byte is a line feed
abbrev pub has_no_feed : List ℕ → Bool
has_no_feed text = list_all (λ b. not (b == 10)) text

-- no line that a dump may go on with is this text
abbrev pub IsStop : Standing → List ℕ → Type 0
IsStop standing text = (line : Line) → FitsLine line → text ≡ spelled line → behind standing line ≡ None
