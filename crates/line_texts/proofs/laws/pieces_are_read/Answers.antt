use Rattle.std.proofs.Common.{[]}
use Rattle.line_texts.proofs.PieceLemmas.{are_pieces-are, reads_pieces}
use Rattle.line_texts.proofs.laws.pieces_are_read.Goals as goal

pub returns : goal.returns
returns c = λ pieces h. reads_pieces pieces (are_pieces-are pieces [] h)
