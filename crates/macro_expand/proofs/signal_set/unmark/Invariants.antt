use Rattle.std.proofs.Common.{◌≡◌, ℕ, true, false, take, slice_index_or}
use Rattle.stil_ast.specs.Meaning.Dealing.{has_signal}
use Rattle.macro_expand.proofs.signal_set.unmark.Given as goal

abbrev pub invariant-loop-signal : goal.invariant-loop-signal
invariant-loop-signal l =
    (signal : ℕ) → slice_index_or l.marks.items signal false ≡ true
    → (slice_index_or l.fn.marks.items signal false ≡ true) × (has_signal (take l.signal-index l.signals) signal ≡ false)
