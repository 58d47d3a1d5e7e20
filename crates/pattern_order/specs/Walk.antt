-- The walk through a burst: each name in it in text order, and behind the name of a burst the names in that burst
-- (IEEE 1450-1999, clauses 16 and 17).
use Rattle.std.specs.Prelude.{ℕ, zero, suc, ◌-◌, Bool, true, false, List, [], ◌∷◌, ◌++◌, Option, Some, None, length, map, drop, reverse, flat_map, if◌then◌else◌}
use Rattle.stil_ast.specs.Meaning.Bursts.{Played, pattern_named, is_entry, macros_name, procedures_name}
use Rattle.stil_ast.specs.Faults.BurstFaults.{Mention, burst_place, has_block, burst_for, is_round}
use Rattle.stil_ast.specs.declared.executive.BurstItem.{BurstItem}
use Rattle.stil_ast.specs.declared.executive.Burst.{Burst}
use Rattle.stil_ast.specs.declared.blocks.Pattern.{Pattern}
use Rattle.stil_ast.specs.declared.blocks.Blocks.{Blocks}
use Rattle.pattern_order.specs.declared.walk.Frame.{Frame}
use Rattle.pattern_order.specs.declared.walk.Step.{Step}

-- a name in a burst as it is met, with the MacroDefs and Procedures that hold there, and whether it leads back
pub record Met : Type 0 where
  pub burst : Burst
  pub item : BurstItem
  pub macros : List ℕ
  pub procedures : List ℕ
  pub leads_back : Bool

-- a burst is walked through where an entry names it, unless the entry stands inside it
abbrev pub met_inside : (Burst → List Met) → Bool → Option Burst → List Met
met_inside inner leads_back None = []
met_inside inner true (Some b) = []
met_inside inner false (Some b) = inner b

-- one name in a burst, and the names to which it leads; `round` are the bursts in which it stands
abbrev pub met_at : Blocks → (Burst → List Met) → List (List ℕ) → List ℕ → List ℕ → Burst → BurstItem → List Met
met_at blocks inner round macros procedures b i = record {
  burst = b;
  item = i;
  macros = macros;
  procedures = procedures;
  leads_back = is_round round (burst_for blocks i);
} ∷ met_inside inner (is_round round (burst_for blocks i)) (burst_for blocks i)

-- the names of a burst, and those of bursts in it in place, so deep; with the MacroDefs and Procedures from round it
abbrev pub met_within : Blocks → ℕ → List (List ℕ) → List ℕ → List ℕ → Burst → List Met
met_within blocks zero round macros procedures b = []
met_within blocks (suc depth) round macros procedures b =
    flat_map (met_at blocks
    (met_within blocks depth (b.name ∷ round) (macros_name b.items macros) (procedures_name b.items procedures))
    (b.name ∷ round) (macros_name b.items macros) (procedures_name b.items procedures) b) b.items

-- the names that are met on the walk through a burst
abbrev pub met : Blocks → Burst → List Met
met blocks b = met_within blocks (length blocks.bursts) [] [] [] b

-- a name that is met, as the rules of names speak of it
abbrev pub mention_of : Blocks → Met → Mention
mention_of blocks m = record {
  place = burst_place m.burst m.item.line;
  is_block = has_block blocks m.item.word m.item.name;
  burst = burst_for blocks m.item;
  leads_back = m.leads_back;
}

-- a pattern that may be missing, as it is run
abbrev pub pattern_played : List ℕ → List ℕ → Option Pattern → List Played
pattern_played macros procedures None = []
pattern_played macros procedures (Some p) = record { pattern = p; macros = macros; procedures = procedures } ∷ []

-- the pattern that a name names
abbrev pub played_at : Blocks → Met → List Played
played_at blocks m =
    if is_entry m.item.word then pattern_played m.macros m.procedures (pattern_named blocks m.item.name) else []

-- the names of open bursts, the innermost first
abbrev pub names_of : List Frame → List (List ℕ)
names_of frames = map (λ (f : Frame). f.burst.now.name) frames

-- what is still to be met where these bursts are open, the innermost first
abbrev pub ahead_in : Blocks → List Frame → List Met
ahead_in blocks [] = []
ahead_in blocks (f ∷ frames) =
    flat_map (met_at blocks
    (met_within blocks (length blocks.bursts - suc (length frames)) (names_of (f ∷ frames)) f.macros.now
    f.procedures.now)
    (names_of (f ∷ frames)) f.macros.now f.procedures.now f.burst.now) (drop f.next f.burst.now.items)
    ++ ahead_in blocks frames

-- the same where they are listed from the outermost
abbrev pub ahead : Blocks → List Frame → List Met
ahead blocks frames = ahead_in blocks (reverse frames)

-- a step of the walk is a name that is met
abbrev pub met_by : Step → Met
met_by s = record {
  burst = s.burst.now;
  item = s.item.now;
  macros = s.macros.now;
  procedures = s.procedures.now;
  leads_back = s.leads_back;
}
