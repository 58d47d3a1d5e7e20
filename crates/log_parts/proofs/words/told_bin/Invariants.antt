use Rattle.std.proofs.Common.{◌≡◌, ◌≤◌, ℕ, ◌<◌}
use Rattle.log_parts.specs.Step.{bin_words}
use Rattle.log_parts.proofs.words.told_bin.Given as goal

abbrev pub invariant-loop-bin : goal.invariant-loop-bin
invariant-loop-bin l = (bin : ℕ) → 1 ≤ bin → bin < l.bin → l.line ≡ bin_words bin → ⊥
