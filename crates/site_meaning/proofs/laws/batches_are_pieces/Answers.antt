use Rattle.site_meaning.proofs.PlayedLemmas.{first_piece, joined-pieces}
use Rattle.site_meaning.proofs.laws.batches_are_pieces.Goals as goal

pub returns-clause-first : goal.returns-clause-first
returns-clause-first c = first_piece

pub returns-clause-all : goal.returns-clause-all
returns-clause-all c = λ more left cycles. joined-pieces more left cycles
