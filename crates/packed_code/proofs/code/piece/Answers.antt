use Rattle.std.proofs.Common.{arith}
use Rattle.packed_code.proofs.PageLemmas.{cut_page}
use Rattle.packed_code.proofs.code.piece.Goals as goal

pub returns : goal.returns
returns c = cut_page c.args.instrs.now c.args.page c.min.result (omega (arith, c.min.ensures))
