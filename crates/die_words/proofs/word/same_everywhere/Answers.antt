use Rattle.std.proofs.Common.{sym, subst}
use Rattle.std.proofs.lemmas.Nat.Bits.{bit_at-zero, bit_at_ones}
use Rattle.tester_types.specs.declared.level.Level.{Level}
use Rattle.die_words.specs.Lane.{Shows}
use Rattle.die_words.proofs.word.same_everywhere.Goals as goal

pub returns-in-Zero : goal.returns-in-Zero
returns-in-Zero c = λ k within.
    subst (λ (x : Level). Shows (record { zeros = 18446744073709551615; ones = 0 }) k x) (sym c.in-Zero.is)
    (record { zero = bit_at_ones 64 k within; one = bit_at-zero k })

pub returns-in-One : goal.returns-in-One
returns-in-One c = λ k within.
    subst (λ (x : Level). Shows (record { zeros = 0; ones = 18446744073709551615 }) k x) (sym c.in-One.is)
    (record { zero = bit_at-zero k; one = bit_at_ones 64 k within })
