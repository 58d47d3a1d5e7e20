-- The tables of an executive.
use Rattle.std.specs.Prelude.{List}
use Rattle.stil_ast.specs.Meaning.Tables.{made_tables}
use Rattle.stil_ast.specs.Faults.TableFaults.{Timed}
use Rattle.tester_types.specs.declared.wave.Table.{Table}
use Rattle.expr_text.specs.Ratio.{Ratio}

-- all tables that are judged so
abbrev pub tables_in : Timed Ratio → List Table
tables_in t = made_tables t.times t.vars t.names t.place t.tables
