use Rattle.std.proofs.Common.{◌≡◌, ◌-◌, ◌≤◌, drop, length}
use Rattle.expr_text.specs.Front.{lexed}
use Rattle.expr_text.specs.Machine.{outcome_from, read_of}
use Rattle.expr_text.specs.Memory.{state_of}
use Rattle.expr_text.proofs.read.spelled.Given as goal

-- what was read, and the rest, are the whole
abbrev pub invariant-loop-at : goal.invariant-loop-at
invariant-loop-at l = record {
  within : l.at ≤ length l.text;
  rest : outcome_from (state_of l.reader) l.in_range (lexed 0 (drop l.at l.text)) ≡ read_of l.text;
}

abbrev pub decreases-loop-at : goal.decreases-loop-at
decreases-loop-at l = length l.text - l.at
