-- The executives of a text as they are listed.
use Rattle.std.specs.Prelude.{ℕ, List, map, unwrap_or}
use Rattle.std.specs.List.{enumerate_from}
use Rattle.tester_types.specs.declared.wave.Table.{Table}
use Rattle.stil_ast.specs.Meaning.Cycles.{Dated}
use Rattle.stil_ast.specs.Meaning.Signals.{names_of}
use Rattle.stil_ast.specs.Meaning.Executive.{table_list, cycles}
use Rattle.stil_ast.specs.Meaning.ExecutiveData.{row_of, table_at}
use Rattle.stil_ast.specs.declared.blocks.Blocks.{Blocks}
use Rattle.stil_ast.specs.declared.executive.ExecDecl.{ExecDecl}
use Rattle.time_expr.specs.TimesOf.{times_of}
use Rattle.code_listing.specs.Listing.{Listed, ListedExec, no_table}

-- a dated cycle of an executive with these tables
abbrev pub listed_cycle : List Table → Dated → Listed
listed_cycle tables cycle = record {
  number = cycle.number;
  start = cycle.start;
  table = unwrap_or (table_at tables cycle.vector.table) no_table;
  row = row_of cycle.vector;
}

-- a numbered executive of a text
abbrev pub listed_of : Blocks → ℕ × ExecDecl → ListedExec
listed_of blocks exec = record {
  number = exec.0;
  name = exec.1.name;
  cycles = map (listed_cycle (table_list times_of blocks exec.1)) (cycles times_of blocks exec.1);
}

-- all executives of a text
abbrev pub text_listing : Blocks → List ListedExec
text_listing blocks = map (listed_of blocks) (enumerate_from 0 blocks.executives)

-- the names of its signals
abbrev pub signal_names : Blocks → List (List ℕ)
signal_names blocks = map (λ signal. signal.text) (names_of blocks).signals
