-- The patterns of an executive, one after another.
use Rattle.std.specs.Prelude.{◌≡◌, ℕ, ◌++◌, ◌||◌, Bool, true, false, List, map, Option}
use Rattle.signal_groups.specs.Table.{table_of}
use Rattle.stil_ast.specs.Data.Written.{Written, no_more, single, looped, shifted}
use Rattle.stil_ast.specs.Meaning.Bursts.{Played}
use Rattle.stil_ast.specs.Meaning.Chains.{scan_outs}
use Rattle.stil_ast.specs.Meaning.Executive.{scope_of, part_of, tree_of, chain_list}
use Rattle.stil_ast.specs.Meaning.ExecutiveData.{Tree, IsSameFlat, AreSameTrees}
use Rattle.stil_ast.specs.Meaning.Flat.{Flat}
use Rattle.stil_ast.specs.Meaning.Resolved.{outs_of}
use Rattle.stil_ast.specs.Meaning.Signals.{names_of}
use Rattle.stil_ast.specs.Faults.AssignmentFaults.{Walked, fine}
use Rattle.stil_ast.specs.Faults.CheckedLaws.{parts_of}
use Rattle.stil_ast.specs.Faults.ExecutiveFaults.{check_patterns, checked_fault}
use Rattle.stil_ast.specs.Faults.PatternFaults.{check_pattern}
use Rattle.stil_ast.specs.declared.blocks.Blocks.{Blocks}
use Rattle.stil_ast.specs.declared.body.Step.{Step}
use Rattle.stil_ast.specs.declared.body.Step.TheVariants.{Stop}
use Rattle.stil_ast.specs.declared.executive.ExecDecl.{ExecDecl}
use Rattle.stil_ast.specs.declared.fault.StilFault.{StilFault}
use Rattle.macro_expand.specs.Scopes.{scope_in, IsNamed}
use Rattle.macro_expand.specs.declared.scope.PatternScope.{PatternScope}
use Rattle.burst_exec.specs.Staged.{tables_of}
use Rattle.burst_exec.specs.declared.scoping.Standing.{Standing}

-- what all patterns of an executive stand on
pub record IsStanding (e : ExecDecl) (s : Standing) : Type 0 where
  pub signals_are : s.signals.now ≡ table_of (names_of s.blocks.now)
  pub tables_are : s.tables.now ≡ tables_of s.blocks.now e
  pub outs_are : s.outs.now ≡ outs_of (names_of s.blocks.now)
  pub ends_are : s.scan_outs.now ≡ scan_outs (names_of s.blocks.now) (chain_list s.blocks.now e)

-- what the names in a pattern are looked up in
pub record IsScope (blocks : Blocks) (e : ExecDecl) (p : Played) (s : PatternScope) : Type 0 where
  pub named : IsNamed (names_of blocks) s
  pub is : scope_in (names_of blocks) s ≡ scope_of blocks e p
  pub ends_are : s.scan_outs.now ≡ scan_outs (names_of blocks) (chain_list blocks e)

-- the first fault of a pattern, behind so many statements walked and signals assigned
unfoldable pub pattern_fault : Blocks → ExecDecl → Played → ℕ → Option StilFault
pattern_fault blocks e p before = checked_fault (check_pattern (scope_of blocks e p) p.pattern.body before)

-- a pattern without a fault: how much was walked with it, and its tree
pub record IsExpanded (blocks : Blocks) (e : ExecDecl) (p : Played) (before : ℕ) (flat : Flat) (after : ℕ)
    : Type 0 where
  pub left : Walked
  pub checked : check_pattern (scope_of blocks e p) p.pattern.body before ≡ fine left
  pub counted : after ≡ left.count
  pub same : IsSameFlat flat (tree_of (part_of blocks e p)).flat

-- whether a statement without statements in it is a Stop
abbrev pub is_stop_step : Step → Bool
is_stop_step Stop = true
is_stop_step _ = false

-- whether a Stop stands among statements
abbrev pub has_stop : Written → Bool
has_stop no_more = false
has_stop (single line plain rest) = is_stop_step plain || has_stop rest
has_stop (looped line times body rest) = has_stop rest
has_stop (shifted line body rest) = has_stop rest

-- the first fault of patterns in running order, behind so many statements walked and signals assigned
unfoldable pub played_fault : Blocks → ExecDecl → List Played → ℕ → Option StilFault
played_fault blocks e patterns before = checked_fault (check_patterns blocks e patterns before)

-- patterns without a fault: how much was walked with them, and their trees up to a Stop
pub record ArePlayed (blocks : Blocks) (e : ExecDecl) (patterns : List Played) (before : ℕ) (trees : List Tree)
    (after : ℕ) : Type 0 where
  pub left : Walked
  pub checked : check_patterns blocks e patterns before ≡ fine left
  pub counted : after ≡ left.count
  pub same : AreSameTrees trees (map tree_of (parts_of blocks e patterns))

-- patterns in front of others were played: what is played of those others is played of all
pub record IsPlaying (blocks : Blocks) (e : ExecDecl) (patterns : List Played) (before : ℕ) (rest : List Played)
    (trees : List Tree) (after : ℕ) : Type 0 where
  pub checked : check_patterns blocks e rest after ≡ check_patterns blocks e patterns before
  pub same : (more : List Tree) → AreSameTrees more (map tree_of (parts_of blocks e rest))
      → AreSameTrees (trees ++ more) (map tree_of (parts_of blocks e patterns))
