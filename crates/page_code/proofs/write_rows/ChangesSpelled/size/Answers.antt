use Rattle.std.proofs.Common.{arith}
use Rattle.page_code.specs.Changes.{changes}
use Rattle.page_code.proofs.SizeLemmas.{length-changes}
use Rattle.page_code.proofs.write_rows.ChangesSpelled.size.Goals as goal

pub returns : goal.returns
returns c = omega (arith, length-changes (changes 0 c.args.self.now.last.now c.args.self.now.row.now), c.count_changes.ensures, c.saturating_mul.ensures)
