use Rattle.std.proofs.Common.{◌≡◌, ℕ, ◌<◌, min}
use Rattle.std.specs.Int.{bit_at}
use Rattle.std.specs.List.{list_all, range_with_len}
use Rattle.die_sim.specs.Die.{Device, State}
use Rattle.die_words.specs.Lane.{bit}
use Rattle.die_words.specs.Lanes.{IsLaneOf}
use Rattle.word_run.specs.Judge.{window_met}
use Rattle.word_run.proofs.judge.meet_windows.Given as goal

abbrev pub invariant-loop-signal : goal.invariant-loop-signal
invariant-loop-signal l =
    (k : ℕ) (device : Device) (state : State) → k < 64 → IsLaneOf l.dies k device state
    → bit_at l.left k ≡ min (bit_at l.fn.alive k)
    (bit (list_all (window_met l.bound device state l.windows) (range_with_len 0 l.signal)))
