-- What the code keeps of the statements so far.
use Rattle.std.specs.Prelude.{◌≡◌, ℕ, List}
use Rattle.stil_ast.specs.declared.variable.Selector.{Selector}
use Rattle.stil_ast.specs.declared.timing.TimingBlock.{TimingBlock}
use Rattle.stil_ast.specs.declared.scan.ScanBlock.{ScanBlock}
use Rattle.stil_ast.specs.declared.blocks.DefBlock.{DefBlock}
use Rattle.stil_ast.specs.declared.blocks.Pattern.{Pattern}
use Rattle.stil_ast.specs.declared.blocks.Blocks.{Blocks}
use Rattle.stil_ast.specs.declared.executive.Burst.{Burst}
use Rattle.stil_read.specs.declared.read.Lists.{Lists}
use Rattle.stil_read.specs.declared.read.Names.{Names}
use Rattle.stil_read.specs.Top.{Top, tables_in, chains_in, bodies_in, pattern_names, burst_names, selector_names}

-- the blocks of these lists
abbrev pub blocks_by : Lists → Blocks
blocks_by lists = record {
  signals = lists.signals.items;
  groups = lists.groups.items;
  specs = lists.specs.items;
  selectors = lists.selectors.items;
  timings = lists.timings.items;
  scans = lists.scans.items;
  macros = lists.macros.items;
  procedures = lists.procedures.items;
  patterns = lists.patterns.items;
  bursts = lists.bursts.items;
  executives = lists.executives.items;
}

-- what stands so far
abbrev pub top_by : List (List ℕ) → Lists → Top
top_by words lists = record { words = words; blocks = blocks_by lists }

-- names are those of these timings, scan structures, macros, procedures, patterns, bursts and selectors
pub record AreNamesOf (timings : List TimingBlock) (scans : List ScanBlock) (macros procedures : List DefBlock)
    (patterns : List Pattern) (bursts : List Burst) (selectors : List Selector) (names : Names) : Type 0
  where
    pub tables : names.tables ≡ tables_in timings
    pub chains : names.chains ≡ chains_in scans
    pub of_macros : names.macros ≡ bodies_in macros
    pub of_procedures : names.procedures ≡ bodies_in procedures
    pub of_patterns : names.patterns ≡ pattern_names patterns
    pub of_bursts : names.bursts ≡ burst_names bursts
    pub of_selectors : names.selectors ≡ selector_names selectors

-- names are those of these lists
abbrev pub AreNames : Lists → Names → Type 0
AreNames lists names =
    AreNamesOf lists.timings.items lists.scans.items lists.macros.items lists.procedures.items lists.patterns.items
    lists.bursts.items lists.selectors.items names
