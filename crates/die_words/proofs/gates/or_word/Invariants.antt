use Rattle.std.proofs.Common.{ℕ, ◌<◌, List, take}
use Rattle.tester_types.specs.declared.level.Level.{Level}
use Rattle.bench_net.specs.Gates.{zeros, ones, or_of}
use Rattle.die_words.specs.Lane.{Shows}
use Rattle.die_words.specs.Fits.{ShowsEach}
use Rattle.die_words.proofs.gates.or_word.Given as goal

abbrev pub invariant-loop-pin : goal.invariant-loop-pin
invariant-loop-pin l = (k : ℕ) (v : List Level) → k < 64 → ShowsEach l.words k v l.pins
    → Shows l.word k (or_of (zeros v (take l.pin-index l.pins)) (ones v (take l.pin-index l.pins)) l.pin-index)
