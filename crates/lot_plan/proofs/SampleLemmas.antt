-- The small plans are plans.
use Rattle.std.proofs.Common.{◌≡◌, ℕ, ◌<◌, ◌≤◌, arith}

-- of at most one, two places are one
only_one : (k l n : ℕ) → k < n → l < n → n ≤ 1 → k ≡ l
only_one k l n k_in l_in few = omega arith
