-- What the blocks of one text are once each statement has its form: the names, numbers and counts that reading lets
-- pass (IEEE 1450-1999, clauses 6 and 14 to 24). Blocks of one kind and one name are read as one.
use Rattle.std.specs.Prelude.{◌≡◌, ◌≤◌, ℕ, Bool, true, List, length, map}
use Rattle.std.specs.List.{list_all}
use Rattle.text_bytes.specs.Limits.{most_tables, most_chains, most_executives}
use Rattle.stil_ast.specs.Data.Texts.{same}
use Rattle.stil_ast.specs.Data.Forms.{all_differ}
use Rattle.stil_ast.specs.Data.BlockForms.{is_signal_decl, is_group_block, is_spec_block, is_selector, is_timing_block, is_scan_block, is_def_block, is_pattern, is_burst, is_exec_decl}
use Rattle.stil_ast.specs.Meaning.Tables.{tables_named}
use Rattle.stil_ast.specs.Meaning.Chains.{chains_named}
use Rattle.stil_ast.specs.Meaning.Resolved.{bodies_named}
use Rattle.stil_ast.specs.declared.variable.Selector.{Selector}
use Rattle.stil_ast.specs.declared.timing.TableDecl.{TableDecl}
use Rattle.stil_ast.specs.declared.executive.Burst.{Burst}
use Rattle.stil_ast.specs.declared.blocks.BodyDef.{BodyDef}
use Rattle.stil_ast.specs.declared.blocks.Pattern.{Pattern}
use Rattle.stil_ast.specs.declared.blocks.Blocks.{Blocks}

-- no table's name stands twice
abbrev pub tables_differ_in : List TableDecl → Bool
tables_differ_in tables = all_differ same (map (λ (t : TableDecl). t.name) tables)

-- no body's name stands twice
abbrev pub bodies_differ_in : List BodyDef → Bool
bodies_differ_in bodies = all_differ same (map (λ (d : BodyDef). d.name) bodies)

-- the blocks of one text
pub record AreOfOneText (blocks : Blocks) : Type 0 where
  -- each statement has its form
  pub each_signal : list_all is_signal_decl blocks.signals ≡ true
  pub each_group_block : list_all is_group_block blocks.groups ≡ true
  pub each_spec : list_all is_spec_block blocks.specs ≡ true
  pub each_selector : list_all is_selector blocks.selectors ≡ true
  pub each_timing : list_all is_timing_block blocks.timings ≡ true
  pub each_scan_block : list_all is_scan_block blocks.scans ≡ true
  pub each_macro_block : list_all is_def_block blocks.macros ≡ true
  pub each_procedure_block : list_all is_def_block blocks.procedures ≡ true
  pub each_pattern : list_all is_pattern blocks.patterns ≡ true
  pub each_burst : list_all is_burst blocks.bursts ≡ true
  pub each_executive : list_all is_exec_decl blocks.executives ≡ true
  -- no name stands twice
  pub selectors_differ : all_differ same (map (λ (s : Selector). s.name) blocks.selectors) ≡ true
  pub patterns_differ : all_differ same (map (λ (p : Pattern). p.name) blocks.patterns) ≡ true
  pub bursts_differ : all_differ same (map (λ (b : Burst). b.name) blocks.bursts) ≡ true
  pub tables_differ : (name : List ℕ) → tables_differ_in (tables_named blocks.timings name) ≡ true
  pub macros_differ : (name : List ℕ) → bodies_differ_in (bodies_named blocks.macros name) ≡ true
  pub procedures_differ : (name : List ℕ) → bodies_differ_in (bodies_named blocks.procedures name) ≡ true
  -- counts: the tables of a Timing, the chains of a ScanStructures, and executives, of which there is one at least
  pub table_count : (name : List ℕ) → length (tables_named blocks.timings name) ≤ most_tables
  pub chain_count : (name : List ℕ) → length (chains_named blocks.scans name) ≤ most_chains
  pub some_executive : 1 ≤ length blocks.executives
  pub executive_count : length blocks.executives ≤ most_executives
