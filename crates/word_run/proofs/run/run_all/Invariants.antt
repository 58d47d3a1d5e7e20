use Rattle.std.proofs.Common.{◌≡◌, ℕ, ◌<◌, length}
use Rattle.die_sim.specs.Die.{Device}
use Rattle.site_meaning.specs.Playing.{Going}
use Rattle.word_run.specs.Player.{StandsIn, IsBefore}
use Rattle.word_run.specs.Run.{IsLeft}
use Rattle.word_run.proofs.run.run_all.Given as goal

-- what is left of each try comes to what the whole comes to
abbrev pub invariant-loop-exec : goal.invariant-loop-exec
invariant-loop-exec l = record {
  before : IsBefore l.setup l.exec l.player;
  count : length l.player.firsts.items ≡ length l.fn.player.firsts.items;
  lanes : (lane : ℕ) (device : Device) (going : Going) → lane < 64 → lane < length l.fn.player.firsts.items
      → StandsIn l.fn.player lane device going → IsLeft l.setup l.exec l.fn.player l.player lane device going;
}
