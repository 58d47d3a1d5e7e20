use Rattle.std.proofs.Common.{arith}
use Rattle.flat_stil.proofs.LineLemmas.{no_table}
use Rattle.flat_stil.proofs.tables.put_numbered.Goals as goal

pub returns-else-table-from : goal.returns-else-table-from
returns-else-table-from c = no_table c.args.code.now c.args.number c.args.table c.args.sheet.now (omega arith)
