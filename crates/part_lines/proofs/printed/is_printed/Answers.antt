use Rattle.std.proofs.lemmas.Bool.{false≢true}
use Rattle.tester_types.specs.Printing.{piece_text}
use Rattle.part_lines.proofs.PrintedLemmas.{piece_apart}
use Rattle.part_lines.proofs.printed.is_printed.Goals as goal

pub returns-in-None : goal.returns-in-None
returns-in-None c = (
  λ h. absurd (false≢true h),
  λ e. absurd
      (piece_apart piece_text c.args.line.now c.loop-piece.left.now c.args.pieces.now c.loop-piece.piece-index _ c.loop-piece-test.true
      c.loop-piece.invariant c.in-None.ensures e),
)
