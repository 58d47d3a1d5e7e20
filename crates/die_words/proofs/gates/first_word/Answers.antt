use Rattle.std.proofs.Common.{◌<◌, length, arith}
use Rattle.die_words.proofs.gates.first_word.Goals as goal

pub returns : goal.returns
returns c = λ k v shows. let some : 0 < length c.args.pins.now = omega arith in shows.each 0 some
