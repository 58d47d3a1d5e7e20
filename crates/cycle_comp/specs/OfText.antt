-- Executives of a text that has no fault before it is compiled.
use Rattle.std.specs.Prelude.{◌≡◌, List, None}
use Rattle.stil_ast.specs.Data.OneText.{AreOfOneText}
use Rattle.stil_ast.specs.Meaning.Signals.{names_of}
use Rattle.stil_ast.specs.Meaning.ExecutiveData.{Executive}
use Rattle.stil_ast.specs.Faults.SignalFaults.{fourth_fault}
use Rattle.stil_ast.specs.Faults.ExecutiveFaults.{fifth_fault}
use Rattle.stil_ast.specs.declared.blocks.Blocks.{Blocks}
use Rattle.signal_groups.specs.Table.{Table, table_of}
use Rattle.time_expr.specs.TimesOf.{times_of}
use Rattle.burst_exec.specs.Executives.{AreAllOf}

-- executives and what is known of signals are those of the blocks of one text, in which nothing is faulty so far
pub record AreOfText (table : Table) (executives : List Executive) : Type 0 where
  pub blocks : Blocks
  pub of_one : AreOfOneText blocks
  pub table_is : table ≡ table_of (names_of blocks)
  pub no_fourth : fourth_fault blocks ≡ None
  pub no_fifth : fifth_fault times_of blocks ≡ None
  pub are : AreAllOf blocks executives
