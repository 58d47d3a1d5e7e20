-- The saved program, versions 1 and 2: how each part of a code is spelled. Numbers are little-endian.
use Rattle.std.specs.Prelude.{ℕ, List, [], ◌∷◌, ◌++◌, length, if◌then◌else◌}
use Rattle.std.specs.List.{flat_map}
use Rattle.std.specs.Int.{w8, w16, w32, w64}
use Rattle.tester_types.specs.declared.wave.Event.{Event}
use Rattle.tester_types.specs.declared.wave.Wave.{Wave}
use Rattle.tester_types.specs.declared.wave.Table.{Table}
use Rattle.page_code.specs.declared.version.Version.{Version}
use Rattle.page_code.specs.declared.version.Version.TheVariants.{One, Two}
use Rattle.packed_code.specs.declared.parts.CodeSignal.{CodeSignal}
use Rattle.packed_code.specs.declared.parts.CodeChain.{CodeChain}
use Rattle.tester_types.specs.Acts.{act_code}
use Rattle.tester_types.specs.Directions.{direction_code}
use Rattle.page_code.specs.Changes.{last_row, changes, is_difference}
use Rattle.packed_code.specs.Packed.{number, instr}
use Rattle.packed_code.specs.Program.{Exec, Program}

-- a length in 16 bits, and that many bytes
abbrev pub text : List ℕ → List ℕ
text bytes = number w16 (length bytes) ++ bytes

-- a byte for the direction, and the name
abbrev pub signal : CodeSignal → List ℕ
signal s = direction_code s.direction ∷ text s.name

-- the time in 64 bits, and a byte for the act
abbrev pub event : Event → List ℕ
event e = number w64 e.time ++ act_code e.act ∷ []

-- the signal in 16 bits, a byte for the character, a byte for the count of events, and the events
abbrev pub wave : Wave → List ℕ
wave w = number w16 w.signal ++ (w.character ∷ (number w8 (length w.events) ++ flat_map event w.events))

-- the name, the period in 64 bits, the count of waves in 32 bits, and the waves
abbrev pub table : Table → List ℕ
table t = text t.name ++ (number w64 t.period ++ (number w32 (length t.waves) ++ flat_map wave t.waves))

-- items, each spelled as it is behind those before it
abbrev pub behind : {A : Type 0} → (List A → A → List ℕ) → List A → List A → List ℕ
behind spell before [] = []
behind spell before (item ∷ items) = spell before item ++ behind spell (before ++ item ∷ []) items

-- the signal in 16 bits, and a byte for its new character
abbrev pub change : ℕ × ℕ → List ℕ
change c = number w16 c.0 ++ c.1 ∷ []

-- the count of changes in 16 bits, and the changes
abbrev pub difference : List (ℕ × ℕ) → List ℕ
difference cs = number w16 (length cs) ++ flat_map change cs

-- a row behind those before it. Version 1: its characters. Version 2: a byte for the form, and for form 0 the
-- characters, for form 1 what it changes of the row before it.
abbrev pub row : Version → List (List ℕ) → List ℕ → List ℕ
row One before characters = characters
row Two before characters =
    if is_difference before characters then 1 ∷ difference (changes 0 (last_row before) characters) else 0 ∷ characters

-- the name, the scan-out signal in 16 bits, the length and the count of cells in 32 bits, and the cells
abbrev pub chain : CodeChain → List ℕ
chain c =
    text c.name ++ (number w16 c.out ++ (number w32 c.length ++ (number w32 (length c.cells) ++ flat_map text c.cells)))

-- the name, the count of chains in 16 bits, the chains, the count of instructions in 32 bits, and these
abbrev pub exec : Exec → List ℕ
exec e =
    text e.name ++ (number w16 (length e.chains) ++ (flat_map chain e.chains
    ++ (number w32 (length e.instrs) ++ flat_map instr e.instrs)))

-- a version's number
abbrev pub version_number : Version → ℕ
version_number One = 1
version_number Two = 2

-- four known bytes, the version and 0 in 16 bits each
abbrev pub head : Version → List ℕ
head v = 0xD7 ∷ 0x53 ∷ 0x54 ∷ 0x50 ∷ version_number v ∷ 0 ∷ 0 ∷ 0 ∷ []

-- signals and tables, each behind their count
abbrev pub earlier : Program → List ℕ
earlier p =
    number w16 (length p.signals) ++ (flat_map signal p.signals
    ++ (number w16 (length p.tables) ++ flat_map table p.tables))

-- rows and executives, each behind their count
abbrev pub later : Version → Program → List ℕ
later v p =
    number w32 (length p.rows) ++ (behind (row v) [] p.rows
    ++ (number w16 (length p.execs) ++ flat_map exec p.execs))

-- the whole saved program
abbrev pub program : Version → Program → List ℕ
program v p = head v ++ (earlier p ++ later v p)
