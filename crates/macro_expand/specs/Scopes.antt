-- What a pattern stands on, in the words of the language.
use Rattle.std.specs.Prelude.{◌≡◌, map}
use Rattle.signal_groups.specs.Table.{table_of}
use Rattle.stil_ast.specs.Data.Places.{Titles}
use Rattle.stil_ast.specs.Meaning.Resolved.{Scope, outs_of}
use Rattle.stil_ast.specs.Meaning.Signals.{Names}
use Rattle.tester_types.specs.declared.wave.Table.{Table}
use Rattle.macro_expand.specs.declared.scope.BlockTitles.{BlockTitles}
use Rattle.macro_expand.specs.declared.scope.PatternScope.{PatternScope}

-- the names of the blocks
abbrev pub titles_in : BlockTitles → Titles
titles_in t = record { pattern = t.pattern.now; macros = t.macros.now; procedures = t.procedures.now }

-- the scope for which it stands, where these are the signals and groups
abbrev pub scope_in : Names → PatternScope → Scope
scope_in names s = record {
  names = names;
  tables = map (λ (t : Table). t.name) s.tables.now;
  macros = s.macros.now;
  procedures = s.procedures.now;
  titles = titles_in s.titles;
}

-- these are the signals and groups of which it has the table
pub record IsNamed (names : Names) (s : PatternScope) : Type 0 where
  pub signals : s.signals.now ≡ table_of names
  pub outs : s.outs.now ≡ outs_of names
