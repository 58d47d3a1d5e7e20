use Rattle.std.proofs.Common.{◌≡◌, ℕ, ◌<◌, length}
use Rattle.die_words.specs.Fits.{word_at, FitsOwn}
use Rattle.die_words.proofs.settling.put_own.Given as goal

abbrev pub invariant-loop-n : goal.invariant-loop-n
invariant-loop-n l = record {
  count : length l.words.items ≡ length l.fn.words.items;
  done : (n : ℕ) → n < l.n → FitsOwn (word_at l.forces n) (word_at l.held n) (word_at l.words.items n);
}
