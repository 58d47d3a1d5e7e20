use Rattle.std.proofs.Common.{arith}
use Rattle.die_words.proofs.WordLemmas.{fails_low, fails_high, fails_off}
use Rattle.die_words.proofs.word.failing.Goals as goal

pub returns-in-Low : goal.returns-in-Low
returns-in-Low c = λ k x within shows off. fails_low c.args.look c.args.word.zeros k x c.in-Low.is (omega arith) within shows.zero

pub returns-in-High : goal.returns-in-High
returns-in-High c = λ k x within shows off. fails_high c.args.look c.args.word.ones k x c.in-High.is (omega arith) within shows.one

pub returns-in-Off : goal.returns-in-Off
returns-in-Off c = λ k x within shows off. fails_off c.args.look c.args.off k x c.in-Off.is (omega arith) within off
