-- At which line a text stops being a dump.
use Rattle.std.specs.Prelude.{◌≡◌, ℕ, ◌+◌, ◌<◌, ◌≤◌, ◌==◌, ◌⊎◌, List, [], ◌∷◌, ◌++◌, length, take, if◌then◌else◌}
use Rattle.std.specs.List.{flat_map}
use Rattle.die_sim.specs.Socket.{Calls}
use Rattle.vcd_text.specs.declared.read.DumpFault.{DumpFault}
use Rattle.vcd_text.specs.declared.read.DumpFault.TheVariants as fault
use Rattle.vcd_text.specs.Dump.{Var, dump_of}
use Rattle.vcd_text.specs.Sound.{IsSound}

-- a byte in front of the first line; what no line feed ends is no line
abbrev pub in_line : ℕ → List (List ℕ) → List (List ℕ)
in_line byte [] = []
in_line byte (line ∷ lines) = (byte ∷ line) ∷ lines

-- the lines of a text, each with the line feed that ends it
unfoldable pub lines_in : List ℕ → List (List ℕ)
lines_in [] = []
lines_in (byte ∷ bytes) = if byte == 10 then (10 ∷ []) ∷ lines_in bytes else in_line byte (lines_in bytes)

-- its first lines
abbrev pub front_of : ℕ → List ℕ → List ℕ
front_of count bytes = flat_map (λ line. line) (take count (lines_in bytes))

-- the dump of some sound vars and tape begins so
pub record BeginsDump (front : List ℕ) : Type 0 where
  pub vars : List Var
  pub calls : Calls
  pub sound : IsSound vars calls
  pub rest : List ℕ
  pub whole : dump_of vars calls ≡ front ++ rest

-- no sound vars and tape have this text as their dump
abbrev pub IsNoDump : List ℕ → Type 0
IsNoDump bytes = (vars : List Var) (calls : Calls) → IsSound vars calls → bytes ≡ dump_of vars calls → ⊥

-- The text is no dump, and this is the least number of its lines with which no dump begins; where there is no such
-- number, it is the number of its lines and 1.
pub record IsFault (bytes : List ℕ) (line : ℕ) : Type 0 where
  pub none : IsNoDump bytes
  pub before : (count : ℕ) → count < line → BeginsDump (front_of count bytes)
  pub there : ((line ≤ length (lines_in bytes)) × (BeginsDump (front_of line bytes) → ⊥))
      ⊎ (line ≡ length (lines_in bytes) + 1)

-- the fault of a text, where memory isn't wanting
abbrev pub IsFaultOf : List ℕ → DumpFault → Type 0
IsFaultOf bytes fault.NoMemory = Unit {0}
IsFaultOf bytes (fault.Line line) = IsFault bytes line
