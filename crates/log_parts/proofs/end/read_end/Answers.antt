use Rattle.log_parts.proofs.TotalLemmas.{behind_end}
use Rattle.log_parts.proofs.ReadSiteLemmas.{not_empty}
use Rattle.log_parts.proofs.end.read_end.Goals as goal

pub returns-else-is_empty : goal.returns-else-is_empty
returns-else-is_empty c = record {
  number = 1;
  is = c.number.ensures.number;
  fault = behind_end c.args.lines.now.rest (not_empty c.left.result.now c.args.lines.now.rest c.if-is_empty.ensures c.left.ensures);
}
