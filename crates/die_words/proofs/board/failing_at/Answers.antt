use Rattle.std.proofs.Common.{sym, ap, ◌∙◌}
use Rattle.die_words.specs.Lane.{bit}
use Rattle.die_words.proofs.board.failing_at.Goals as goal

pub returns : goal.returns
returns c = λ k x own f within shows fault off is.
    c.failing.ensures k x within shows (c.off_lanes-off.ensures k f own within fault off ∙ ap bit (sym is))
