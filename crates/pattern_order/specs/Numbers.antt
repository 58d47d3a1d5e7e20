-- Blocks by their numbers. A name stands for the first block of its kind that has it (IEEE 1450-1999, clauses 16 and
-- 17).
use Rattle.std.specs.Prelude.{◌≡◌, ◌<◌, ℕ, Bool, true, false, List, [], Option, Some, None, is_some, length, map, position, slice_get, if◌then◌else◌}
use Rattle.std.specs.Borrow.{Bor}
use Rattle.std.specs.List.{list_any}
use Rattle.indexmap.specs.IndexMap.{IndexMap, get_by}
use Rattle.std.specs.Str.{bytes_eq}
use Rattle.stil_ast.specs.Data.Texts.{same}
use Rattle.stil_ast.specs.Meaning.Bursts.{Played, is_entry}
use Rattle.stil_ast.specs.Faults.BurstFaults.{has_block, is_category}
use Rattle.stil_ast.specs.declared.blocks.Blocks.{Blocks}
use Rattle.stil_ast.specs.declared.blocks.DefBlock.{DefBlock}
use Rattle.stil_ast.specs.declared.blocks.Pattern.{Pattern}
use Rattle.stil_ast.specs.declared.executive.Burst.{Burst}
use Rattle.stil_ast.specs.declared.executive.BurstItem.{BurstItem}
use Rattle.stil_ast.specs.declared.scan.ScanBlock.{ScanBlock}
use Rattle.stil_ast.specs.declared.signal.GroupBlock.{GroupBlock}
use Rattle.stil_ast.specs.declared.variable.Category.{Category}
use Rattle.stil_ast.specs.declared.variable.SpecBlock.{SpecBlock}
use Rattle.pattern_order.specs.Walk.{pattern_played}
use Rattle.pattern_order.specs.declared.meaning.Meaning.{Meaning}
use Rattle.pattern_order.specs.declared.meaning.Meaning.TheVariants.{Unknown, Block, Pattern as APattern, Burst as ABurst}

-- the place that is kept for a name
abbrev pub place_in : {S : Type 0} → IndexMap (Bor (List ℕ)) ℕ S → List ℕ → Option ℕ
place_in places name = get_by (λ k. bytes_eq name k.now) places

-- whether a category has this name
abbrev pub is_called : List ℕ → Category → Bool
is_called name c = same c.name name

-- whether a Spec has a category of this name
abbrev pub has_category : List ℕ → SpecBlock → Bool
has_category name s = list_any (is_called name) s.categories

-- a place for each name of a category
abbrev pub AreCategories : {S : Type 0} → Blocks → IndexMap (Bor (List ℕ)) ℕ S → Type 0
AreCategories blocks categories = (name : List ℕ) → is_some (place_in categories name) ≡ is_category blocks name

-- the number of the pattern of a name
abbrev pub pattern_number : Blocks → List ℕ → Option ℕ
pattern_number blocks name = position (λ (p : Pattern). same p.name name) blocks.patterns

-- the number of the burst of a name
abbrev pub burst_number : Blocks → List ℕ → Option ℕ
burst_number blocks name = position (λ (b : Burst). same b.name name) blocks.bursts

-- what an entry of a PatList means: a pattern comes first, then a burst
abbrev pub entry_meaning : Option ℕ → Option ℕ → Meaning
entry_meaning (Some pattern) burst = APattern pattern
entry_meaning None (Some burst) = ABurst burst
entry_meaning None None = Unknown

-- what the name of another block means
abbrev pub block_meaning : Bool → Meaning
block_meaning true = Block
block_meaning false = Unknown

-- what a name in a burst means
abbrev pub meaning_of : Blocks → BurstItem → Meaning
meaning_of blocks i =
    if is_entry i.word then entry_meaning (pattern_number blocks i.name) (burst_number blocks i.name)
    else block_meaning (has_block blocks i.word i.name)

-- what the names in a burst mean
abbrev pub meanings_of : Blocks → Burst → List Meaning
meanings_of blocks b = map (meaning_of blocks) b.items

-- the pattern that a name means, as it is run
abbrev pub played_as : Blocks → List ℕ → List ℕ → Meaning → List Played
played_as blocks macros procedures Unknown = []
played_as blocks macros procedures Block = []
played_as blocks macros procedures (APattern number) =
    pattern_played macros procedures (slice_get blocks.patterns number)
played_as blocks macros procedures (ABurst number) = []

-- the first place of each name of each kind of block
pub record ArePlaces {S T U V W X : Type 0} (blocks : Blocks) (patterns : IndexMap (Bor (List ℕ)) ℕ S)
    (bursts : IndexMap (Bor (List ℕ)) ℕ T) (groups : IndexMap (Bor (List ℕ)) ℕ U)
    (macros : IndexMap (Bor (List ℕ)) ℕ V) (procedures : IndexMap (Bor (List ℕ)) ℕ W)
    (scans : IndexMap (Bor (List ℕ)) ℕ X) : Type 0 where
  pub of_pattern : (name : List ℕ) → place_in patterns name ≡ pattern_number blocks name
  pub of_burst : (name : List ℕ) → place_in bursts name ≡ burst_number blocks name
  pub of_groups : (name : List ℕ) → place_in groups name ≡ position (λ (g : GroupBlock). same g.name name) blocks.groups
  pub of_macros : (name : List ℕ) → place_in macros name ≡ position (λ (d : DefBlock). same d.name name) blocks.macros
  pub of_procedures : (name : List ℕ)
      → place_in procedures name ≡ position (λ (d : DefBlock). same d.name name) blocks.procedures
  pub of_scans : (name : List ℕ) → place_in scans name ≡ position (λ (s : ScanBlock). same s.name name) blocks.scans

-- a burst with its number, which is that of its name
pub record IsNumbered (blocks : Blocks) (number : ℕ) (b : Burst) : Type 0 where
  pub first : burst_number blocks b.name ≡ Some number
  pub there : slice_get blocks.bursts number ≡ Some b

-- a number of a burst is that of its name
pub record IsFirst (blocks : Blocks) (number : ℕ) : Type 0 where
  pub within : number < length blocks.bursts
  pub first : (b : Burst) → slice_get blocks.bursts number ≡ Some b → burst_number blocks b.name ≡ Some number
