-- How a tape stands in flat data; no public clause cites it.
use Rattle.std.specs.Prelude.{ℕ, ◌<◌, ◌≤◌, ◌-◌, List, length, take, drop, slice_index_or}
use Rattle.tester_types.specs.declared.level.Drive.{Drive}
use Rattle.die_sim.specs.declared.tape.Call.{Call}

-- the call that an entry stands for
abbrev pub call_of : List (ℕ × Drive) → Call → ℕ × List (ℕ × Drive)
call_of drives c = (c.at, take (c.to - c.from) (drop c.from drives))

-- each entry's drives stand among so many
pub record AreWithin (drives : ℕ) (calls : List Call) : Type 0 where
  pub each : (k : ℕ) (d : Call) → k < length calls
      → ((slice_index_or calls k d).from ≤ (slice_index_or calls k d).to) × ((slice_index_or calls k d).to ≤ drives)
