use Rattle.std.proofs.Common.{◌≡◌, ◌^◌, ◌∙◌, ℕ, ◌<◌, ◌≤◌, arith, ap, inl, inr}
use Rattle.std.proofs.lemmas.Bool.{cases_lt}
use Rattle.std.specs.Int.{bit_at}
use Rattle.std.proofs.Math.Pow.{pow-lt}
use Rattle.std.proofs.lemmas.Nat.Bits.{bit_at_ones}
use Rattle.word_run.proofs.run.first_lanes.Goals as goal

below : (n : ℕ) → n ≤ 64 → (n ≡ 64 → ⊥) → n < 64
below n few apart =
    elim (cases_lt n 64) [
      | inl l ↦ l
      | inr l ↦ absurd (apart (omega (arith, few, l)))
    ]

pub returns-then-count-eq64 : goal.returns-then-count-eq64
returns-then-count-eq64 c = λ k within. bit_at_ones 64 k (omega (arith, within, c.requires))

pub returns-else-count-eq64 : goal.returns-else-count-eq64
returns-else-count-eq64 c = λ k within.
    let low : c.args.count < 64 = below c.args.count c.requires c.if-count-eq64.false in
    let small : 2 ^ c.args.count < 2 ^ 64 = pow-lt low in
    ap (λ (n : ℕ). bit_at n k) (omega (arith, small)) ∙ bit_at_ones c.args.count k within
