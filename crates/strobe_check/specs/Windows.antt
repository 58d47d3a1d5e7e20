-- Open windows beside a set of the signals that have one, and the signals that a search passes. No public clause cites
-- it.
use Rattle.std.specs.Prelude.{◌≡◌, ℕ, ◌<◌, ◌≤◌, Bool, true, false, List, [], length, Option, None, is_some, slice_index_or}
use Rattle.tester_types.specs.declared.wave.Look.{Look}
use Rattle.strobe_check.specs.History.{most_numbered}
use Rattle.strobe_check.specs.Step.{looks_of, Ascends}

-- the marks say which signals have a window; none has one from the end on
pub record AreOpen (windows : List (Option Look)) (marks : List Bool) (end : ℕ) : Type 0 where
  pub each : (k : ℕ) → slice_index_or marks k false ≡ is_some (slice_index_or windows k None)
  pub room : length windows ≤ length marks
  pub before : (k : ℕ) → end ≤ k → slice_index_or windows k None ≡ None
  pub few : length windows ≤ most_numbered

-- no signal from one on in front of another has a window or a look; looks that ascend from the one do so from the other
pub record Passes (sorted : Bool) (looks : List (ℕ × Look)) (windows : List (Option Look)) (from to : ℕ) : Type 0 where
  pub onward : from ≤ to
  pub no_look : (sorted ≡ true → Ascends from looks) → (k : ℕ) → from ≤ k → k < to → looks_of k looks ≡ []
  pub no_window : (k : ℕ) → from ≤ k → k < to → slice_index_or windows k None ≡ None
  pub ascends : (sorted ≡ true → Ascends from looks) → sorted ≡ true → Ascends to looks
