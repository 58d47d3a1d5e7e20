use Rattle.std.proofs.Common.{ℕ, ◌≤◌, ◌≡◌, length, subst, arith}
use Rattle.std.proofs.lemmas.Nat.Bits.{bit_at-zero, bit_at_ones}
use Rattle.tester_types.specs.declared.level.Level.{Level}
use Rattle.bench_net.specs.Gates.{zeros, ones, or_of}
use Rattle.die_words.specs.Lane.{Shows}
use Rattle.die_words.specs.Pairs.{either}
use Rattle.die_words.proofs.GateLemmas.{or_step, pins_more, pins_done}
use Rattle.die_words.proofs.gates.or_word.Goals as goal

pub loop-pin-init : goal.loop-pin-init
loop-pin-init c = λ k v within shows. record { zero = bit_at_ones 64 k within; one = bit_at-zero k }

pub loop-pin-preserved : goal.loop-pin-preserved
loop-pin-preserved c = λ k v within shows.
    subst (λ (x : Level). Shows c.either-word.result k x)
    (pins_more either or_of or_step v c.args.pins.now c.loop-pin.pin-index c.loop-pin-test.true)
    (c.either-word.ensures k _ _ (c.loop-pin.invariant k v within shows)
    (shows.each c.loop-pin.pin-index c.loop-pin-test.true))

pub returns : goal.returns
returns c = λ k v within shows.
    let past : length c.args.pins.now ≤ c.loop-pin.pin-index = omega (arith, c.loop-pin-test.false) in
    let all : c.loop-pin.pin-index ≡ length c.args.pins.now = omega (arith, c.loop-pin-test.false, c.loop-pin.auto) in
    subst (λ (n : ℕ). Shows c.loop-pin.word k (or_of (zeros v c.args.pins.now) (ones v c.args.pins.now) n)) all
    (subst (λ (x : Level). Shows c.loop-pin.word k x)
    (pins_done or_of v c.args.pins.now c.loop-pin.pin-index past) (c.loop-pin.invariant k v within shows))
