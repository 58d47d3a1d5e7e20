use Rattle.std.proofs.Common.{◌≡◌, ◌+◌, ◌≤◌, ◌++◌, ◌∷◌, ℕ, false, take, drop}
use Rattle.std.specs.List.{list_any}
use Rattle.part_lines.specs.Words.{is_gap}
use Rattle.part_lines.proofs.words.behind_gap.Given as goal

-- no blank stands behind the place up to here, and one before it
abbrev pub invariant-loop-at : goal.invariant-loop-at
invariant-loop-at l = record {
  within : l.start ≤ l.at;
  word : list_any is_gap (drop l.start (take l.at l.line)) ≡ false;
  gap : (start : ℕ) → l.start ≡ start + 1 → l.line ≡ take start l.line ++ 32 ∷ drop l.start l.line;
}
