-- Which patterns an executive runs, and the first fault of its names (IEEE 1450-1999, clauses 16 and 17).
use Rattle.std.specs.Prelude.{ℕ, zero, suc, Bool, true, false, List, [], ◌∷◌, Option, Some, None, length, flat_map, find, if◌then◌else◌}
use Rattle.stil_ast.specs.Data.Texts.{same}
use Rattle.stil_ast.specs.declared.executive.BurstWord.{BurstWord}
use Rattle.stil_ast.specs.declared.executive.BurstWord.TheVariants.{MacroDefs, Procedures, ScanStructures, Entry}
use Rattle.stil_ast.specs.declared.executive.BurstItem.{BurstItem}
use Rattle.stil_ast.specs.declared.executive.Burst.{Burst}
use Rattle.stil_ast.specs.declared.executive.ExecDecl.{ExecDecl}
use Rattle.stil_ast.specs.declared.blocks.Pattern.{Pattern}
use Rattle.stil_ast.specs.declared.blocks.Blocks.{Blocks}

-- a pattern as it is run: with the names of its MacroDefs and its Procedures
pub record Played : Type 0 where
  pub pattern : Pattern
  pub macros : List ℕ
  pub procedures : List ℕ

-- which patterns and bursts a text has
abbrev pub pattern_named : Blocks → List ℕ → Option Pattern
pattern_named blocks name = find (λ p. same p.name name) blocks.patterns

-- the burst of a name
abbrev pub burst_named : Blocks → List ℕ → Option Burst
burst_named blocks name = find (λ b. same b.name name) blocks.bursts

-- whether a name stands in a PatList
abbrev pub is_entry : BurstWord → Bool
is_entry Entry = true
is_entry _ = false

-- the name that a burst gives for MacroDefs, Procedures or ScanStructures, or else the one from round it
abbrev pub macros_name_at : BurstWord → List ℕ → List ℕ → List ℕ
macros_name_at MacroDefs name others = name
macros_name_at _ name others = others

-- the MacroDefs of a burst, or those from round it
abbrev pub macros_name : List BurstItem → List ℕ → List ℕ
macros_name [] round = round
macros_name (i ∷ items) round = macros_name_at i.word i.name (macros_name items round)

-- the same for Procedures
abbrev pub procedures_name_at : BurstWord → List ℕ → List ℕ → List ℕ
procedures_name_at Procedures name others = name
procedures_name_at _ name others = others

-- the Procedures of a burst, or those from round it
abbrev pub procedures_name : List BurstItem → List ℕ → List ℕ
procedures_name [] round = round
procedures_name (i ∷ items) round = procedures_name_at i.word i.name (procedures_name items round)

-- the same for ScanStructures
abbrev pub scans_name_at : BurstWord → List ℕ → List ℕ → List ℕ
scans_name_at ScanStructures name others = name
scans_name_at _ name others = others

-- the ScanStructures of a burst, or the unnamed ones
abbrev pub scans_name : List BurstItem → List ℕ
scans_name [] = []
scans_name (i ∷ items) = scans_name_at i.word i.name (scans_name items)

-- A name in a PatList is looked up first as a pattern, then as a burst, which runs in place.
abbrev pub entry_played : List ℕ → List ℕ → (Burst → List Played) → Option Pattern → Option Burst
    → List Played
entry_played macros procedures inner (Some p) b =
    record { pattern = p; macros = macros; procedures = procedures } ∷ []
entry_played macros procedures inner None (Some b) = inner b
entry_played macros procedures inner None None = []

-- the patterns for which one name in a burst stands
abbrev pub item_played : Blocks → List ℕ → List ℕ → (Burst → List Played) → BurstItem → List Played
item_played blocks macros procedures inner i =
    if is_entry i.word
    then entry_played macros procedures inner (pattern_named blocks i.name) (burst_named blocks i.name) else []

-- The patterns of a burst in running order, with bursts in bursts so deep. MacroDefs and Procedures are those of the
-- innermost burst that names one.
abbrev pub played_within : Blocks → ℕ → List ℕ → List ℕ → Burst → List Played
played_within blocks zero macros procedures b = []
played_within blocks (suc depth) macros procedures b =
    flat_map (item_played blocks (macros_name b.items macros) (procedures_name b.items procedures)
    (played_within blocks depth (macros_name b.items macros) (procedures_name b.items procedures))) b.items

-- the patterns of a burst that may be missing
abbrev pub played_of : Blocks → Option Burst → List Played
played_of blocks None = []
played_of blocks (Some b) = played_within blocks (length blocks.bursts) [] [] b

-- the patterns that an executive runs
abbrev pub played : Blocks → ExecDecl → List Played
played blocks e = played_of blocks (burst_named blocks e.burst.name)

-- the ScanStructures of a burst that may be missing
abbrev pub scans_of : Option Burst → List ℕ
scans_of None = []
scans_of (Some b) = scans_name b.items

-- the ScanStructures of an executive: those that its own burst names
abbrev pub exec_scans : Blocks → ExecDecl → List ℕ
exec_scans blocks e = scans_of (burst_named blocks e.burst.name)
