-- A gate's word goes from pin to pin: what counts of fewer levels give, with one more level, is what counts of one more give.
use Rattle.std.proofs.Common.{◌≡◌, ℕ, ◌+◌, ◌<◌, ◌≤◌, List, length, get_or, take, sym, ap, ◌∙◌, arith}
use Rattle.std.proofs.lemmas.Grind.{common_steps}
use Rattle.std.proofs.lemmas.List.{take_all, length-take-le}
use Rattle.std.proofs.lemmas.List.Sums.{sum_by_more}
use Rattle.tester_types.specs.declared.level.Level.{Level}
use Rattle.tester_types.specs.declared.level.Level.TheVariants.{Zero, One, X, Z}
use Rattle.bench_net.specs.Gates.{level_at, is_zero, is_one, zeros, ones, and_of, or_of, xor_of, negated, read}
use Rattle.die_sim.proofs.TableLemmas.{counts_within}
use Rattle.die_words.specs.declared.word.Word.{Word}
use Rattle.die_words.specs.Lane.{bit, Shows}
use Rattle.die_words.specs.Pairs.{both, either, differ}

-- one more level, beside counts of fewer
pub and_step : (z o n : ℕ) (l : Level) → z + o ≤ n → both (and_of z o n) l ≡ and_of (z + bit (is_zero l)) (o + bit (is_one l)) (n + 1)
and_step z o n Zero h = grind (arith, common_steps)
and_step z o n One h = grind (arith, common_steps)
and_step z o n X h = grind (arith, common_steps)
and_step z o n Z h = grind (arith, common_steps)

pub or_step : (z o n : ℕ) (l : Level) → z + o ≤ n → either (or_of z o n) l ≡ or_of (z + bit (is_zero l)) (o + bit (is_one l)) (n + 1)
or_step z o n Zero h = grind (arith, common_steps)
or_step z o n One h = grind (arith, common_steps)
or_step z o n X h = grind (arith, common_steps)
or_step z o n Z h = grind (arith, common_steps)

pub xor_step : (z o n : ℕ) (l : Level) → z + o ≤ n → differ (xor_of z o n) l ≡ xor_of (z + bit (is_zero l)) (o + bit (is_one l)) (n + 1)
xor_step z o n Zero h = grind (arith, common_steps)
xor_step z o n One h = grind (arith, common_steps)
xor_step z o n X h = grind (arith, common_steps)
xor_step z o n Z h = grind (arith, common_steps)

-- the same of the pins of a gate
pub pins_more : (g : Level → Level → Level) (f : ℕ → ℕ → ℕ → Level)
    (step : (z o n : ℕ) (l : Level) → z + o ≤ n → g (f z o n) l ≡ f (z + bit (is_zero l)) (o + bit (is_one l)) (n + 1))
    (v : List Level) (pins : List ℕ) (i : ℕ) → i < length pins
    → g (f (zeros v (take i pins)) (ones v (take i pins)) i) (level_at v (get_or pins i 0))
    ≡ f (zeros v (take (i + 1) pins)) (ones v (take (i + 1) pins)) (i + 1)
pins_more g f step v pins i within =
    let z = sum_by_more (λ q. bit (is_zero (level_at v q))) pins i 0 within in
    let o = sum_by_more (λ q. bit (is_one (level_at v q))) pins i 0 within in
    let few : zeros v (take i pins) + ones v (take i pins) ≤ i = omega (arith, within, counts_within v (take i pins), length-take-le i pins (omega (arith, within))) in
    step (zeros v (take i pins)) (ones v (take i pins)) i (level_at v (get_or pins i 0)) few
    ∙ ap (λ (n : ℕ). f n (ones v (take i pins) + bit (is_one (level_at v (get_or pins i 0)))) (i + 1)) (sym z)
    ∙ ap (λ (n : ℕ). f (zeros v (take (i + 1) pins)) n (i + 1)) (sym o)

-- all pins
pub pins_done : (f : ℕ → ℕ → ℕ → Level) (v : List Level) (pins : List ℕ) (i : ℕ) → length pins ≤ i
    → f (zeros v (take i pins)) (ones v (take i pins)) i ≡ f (zeros v pins) (ones v pins) i
pins_done f v pins i past = ap (λ (ps : List ℕ). f (zeros v ps) (ones v ps) i) (take_all i pins past)

-- a net as it is read
pub shows_read : (word : Word) (k : ℕ) (x : Level) → Shows word k x → Shows word k (read x)
shows_read word k Zero h = h
shows_read word k One h = h
shows_read word k X h = h
shows_read word k Z h = record { zero = h.zero; one = h.one }

-- NAND, NOR and XNOR of one net are NOT
pub not_and : (w : Word) (k : ℕ) (x : Level) → Shows w k (negated x)
    → Shows w k (negated (and_of (0 + bit (is_zero x)) (0 + bit (is_one x)) 1))
not_and w k Zero h = h
not_and w k One h = h
not_and w k X h = h
not_and w k Z h = h

pub not_or : (w : Word) (k : ℕ) (x : Level) → Shows w k (negated x)
    → Shows w k (negated (or_of (0 + bit (is_zero x)) (0 + bit (is_one x)) 1))
not_or w k Zero h = h
not_or w k One h = h
not_or w k X h = h
not_or w k Z h = h

pub not_xor : (w : Word) (k : ℕ) (x : Level) → Shows w k (negated x)
    → Shows w k (negated (xor_of (0 + bit (is_zero x)) (0 + bit (is_one x)) 1))
not_xor w k Zero h = h
not_xor w k One h = h
not_xor w k X h = h
not_xor w k Z h = h
