-- The first fault of an executive's names (IEEE 1450-1999, clauses 16 and 17).
use Rattle.std.specs.Prelude.{ℕ, zero, suc, ◌&&◌, ◌||◌, Bool, true, false, not, List, [], ◌∷◌, Option, Some, None, length, flat_map, is_some, nat_le, codes, if◌then◌else◌}
use Rattle.std.specs.List.{list_any}
use Rattle.text_bytes.specs.Limits.{most_patterns}
use Rattle.stil_ast.specs.Data.Places.{Place}
use Rattle.stil_ast.specs.Data.Texts.{same, has_name}
use Rattle.stil_ast.specs.Faults.Found.{fault_at, unless, refuse_if, or_else, first_in}
use Rattle.stil_ast.specs.Meaning.Bursts.{pattern_named, burst_named, is_entry, played}
use Rattle.stil_ast.specs.declared.name.Named.{Named}
use Rattle.stil_ast.specs.declared.signal.GroupBlock.{GroupBlock}
use Rattle.stil_ast.specs.declared.variable.Category.{Category}
use Rattle.stil_ast.specs.declared.variable.SpecBlock.{SpecBlock}
use Rattle.stil_ast.specs.declared.variable.Selector.{Selector}
use Rattle.stil_ast.specs.declared.timing.TimingBlock.{TimingBlock}
use Rattle.stil_ast.specs.declared.scan.ScanBlock.{ScanBlock}
use Rattle.stil_ast.specs.declared.executive.BurstWord.{BurstWord}
use Rattle.stil_ast.specs.declared.executive.BurstWord.TheVariants.{SignalGroups, MacroDefs, Procedures, ScanStructures, Entry}
use Rattle.stil_ast.specs.declared.executive.BurstItem.{BurstItem}
use Rattle.stil_ast.specs.declared.executive.Burst.{Burst}
use Rattle.stil_ast.specs.declared.executive.ExecDecl.{ExecDecl}
use Rattle.stil_ast.specs.declared.blocks.DefBlock.{DefBlock}
use Rattle.stil_ast.specs.declared.blocks.Blocks.{Blocks}
use Rattle.stil_ast.specs.declared.fault.StilFault.{StilFault}
use Rattle.stil_ast.specs.declared.fault.StilKind.TheVariants.{UnknownName, Cyclic, TooLarge}

-- the place of a line in a PatternExec block of this name
abbrev pub exec_place : List ℕ → ℕ → Place
exec_place name line = record { block = codes "PatternExec"; name = name; line = line }

-- the place of a line in a PatternBurst block
abbrev pub burst_place : Burst → ℕ → Place
burst_place b line = record { block = codes "PatternBurst"; name = b.name; line = line }

-- whether some Spec has a category of this name
abbrev pub is_category : Blocks → List ℕ → Bool
is_category blocks name =
    list_any (λ (s : SpecBlock). list_any (λ (c : Category). same c.name name) s.categories) blocks.specs

-- whether there is such a Selector
abbrev pub is_selector : Blocks → List ℕ → Bool
is_selector blocks name = list_any (λ (s : Selector). same s.name name) blocks.selectors

-- whether there is such a Timing
abbrev pub is_timing : Blocks → List ℕ → Bool
is_timing blocks name = list_any (λ (t : TimingBlock). same t.name name) blocks.timings

-- a name that must be known, where one is given
abbrev pub named_fault : ExecDecl → (List ℕ → Bool) → Named → Option StilFault
named_fault e known n = unless (known n.name) (fault_at (exec_place e.name n.line) UnknownName) None

-- the same for a name that may be left away
abbrev pub maybe_fault : ExecDecl → (List ℕ → Bool) → Option Named → Option StilFault
maybe_fault e known None = None
maybe_fault e known (Some n) = named_fault e known n

-- whether a name in a burst names a block of its kind; an entry, a pattern
abbrev pub has_block : Blocks → BurstWord → List ℕ → Bool
has_block blocks SignalGroups name = list_any (λ (g : GroupBlock). same g.name name) blocks.groups
has_block blocks MacroDefs name = list_any (λ (d : DefBlock). same d.name name) blocks.macros
has_block blocks Procedures name = list_any (λ (d : DefBlock). same d.name name) blocks.procedures
has_block blocks ScanStructures name = list_any (λ (s : ScanBlock). same s.name name) blocks.scans
has_block blocks Entry name = is_some (pattern_named blocks name)

-- a name that is met on the walk through a burst: where it stands, whether it names a block or a pattern, the burst
-- that it names otherwise, and whether it stands inside that burst
pub record Mention : Type 0 where
  pub place : Place
  pub is_block : Bool
  pub burst : Option Burst
  pub leads_back : Bool

-- the burst that an entry names where it names no pattern
abbrev pub burst_for : Blocks → BurstItem → Option Burst
burst_for blocks i =
    if is_entry i.word && not (has_block blocks i.word i.name) then burst_named blocks i.name else None

-- whether a burst is one of these
abbrev pub is_round : List (List ℕ) → Option Burst → Bool
is_round round None = false
is_round round (Some b) = has_name round b.name

-- a burst is walked through where an entry names it, unless the entry stands inside it
abbrev pub walked_through : (Burst → List Mention) → Bool → Option Burst → List Mention
walked_through inner leads_back None = []
walked_through inner true (Some b) = []
walked_through inner false (Some b) = inner b

-- one name in a burst, and the names to which it leads; `round` are the bursts in which it stands
abbrev pub mentions_at : Blocks → (Burst → List Mention) → List (List ℕ) → Burst → BurstItem → List Mention
mentions_at blocks inner round b i = record {
  place = burst_place b i.line;
  is_block = has_block blocks i.word i.name;
  burst = burst_for blocks i;
  leads_back = is_round round (burst_for blocks i);
} ∷ walked_through inner (is_round round (burst_for blocks i)) (burst_for blocks i)

-- the names of a burst in text order, and those of bursts in it in place, so deep
abbrev pub mentions_within : Blocks → ℕ → List (List ℕ) → Burst → List Mention
mentions_within blocks zero round b = []
mentions_within blocks (suc depth) round b =
    flat_map (mentions_at blocks (mentions_within blocks depth (b.name ∷ round)) (b.name ∷ round) b) b.items

-- The names that are met on the walk through a burst. No burst stands twice round another, so none stands deeper than
-- there are bursts.
abbrev pub mentions : Blocks → Option Burst → List Mention
mentions blocks None = []
mentions blocks (Some b) = mentions_within blocks (length blocks.bursts) [] b

-- a name of nothing
abbrev pub unknown_fault : Mention → Option StilFault
unknown_fault m = unless (m.is_block || is_some m.burst) (fault_at m.place UnknownName) None

-- a name of a burst inside which it stands
abbrev pub cyclic_fault : Mention → Option StilFault
cyclic_fault m = refuse_if m.leads_back (fault_at m.place Cyclic) None

-- whether there is such a burst
abbrev pub is_burst : Blocks → List ℕ → Bool
is_burst blocks name = is_some (burst_named blocks name)

-- the first fault of an executive's names: what is unknown, then what is in itself, then too many patterns
abbrev pub exec_names_fault : Blocks → ExecDecl → Option StilFault
exec_names_fault blocks e =
    or_else (first_in (named_fault e (is_category blocks)) e.categories)
    (or_else (maybe_fault e (is_selector blocks) e.selector)
    (or_else (maybe_fault e (is_timing blocks) e.timing)
    (or_else (named_fault e (is_burst blocks) e.burst)
    (or_else (first_in unknown_fault (mentions blocks (burst_named blocks e.burst.name)))
    (or_else (first_in cyclic_fault (mentions blocks (burst_named blocks e.burst.name)))
    (unless (nat_le (length (played blocks e)) most_patterns) (fault_at (exec_place e.name e.line) TooLarge) None))))))
