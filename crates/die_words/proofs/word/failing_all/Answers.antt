use Rattle.std.proofs.Common.{None, sym}
use Rattle.die_words.proofs.WordLemmas.{no_fault}
use Rattle.die_words.proofs.word.failing_all.Goals as goal

pub returns : goal.returns
returns c = λ k within.
    c.failing.ensures k c.args.level within (c.same_everywhere.ensures k within)
    (c.off_lanes-off.ensures k None c.args.level within (no_fault k) (sym c.is_off.ensures))
