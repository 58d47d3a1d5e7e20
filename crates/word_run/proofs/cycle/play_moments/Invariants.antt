use Rattle.std.proofs.Common.{length, take}
use Rattle.word_run.specs.Board.{IsBoardOf, AreWindows, PlaysMoments}
use Rattle.word_run.proofs.cycle.play_moments.Given as goal

-- the moments so far were played
abbrev pub invariant-loop-moment : goal.invariant-loop-moment
invariant-loop-moment l = record {
  of : IsBoardOf l.image l.board;
  windows : AreWindows (length l.image.binds) (take l.moment-index l.moments) l.board.windows.items;
  plays : PlaysMoments (take l.moment-index l.moments) l.fn.alive l.left l.fn.board l.board;
}
