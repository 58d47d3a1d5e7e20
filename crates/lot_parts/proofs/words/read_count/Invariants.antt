use Rattle.std.proofs.Common.{◌≡◌, ℕ, ◌≤◌, ◌<◌, decimal}
use Rattle.lot_parts.proofs.words.read_count.Given as goal

-- no number so far is spelled
abbrev pub invariant-loop-number : goal.invariant-loop-number
invariant-loop-number l = (n : ℕ) → 1 ≤ n → n < l.number → l.word ≡ decimal n → ⊥
