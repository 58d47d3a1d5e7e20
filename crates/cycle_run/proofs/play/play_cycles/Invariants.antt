use Rattle.std.proofs.Common.{◌≡◌, ◌+◌, ℕ, take, drop}
use Rattle.cycle_run.specs.Setup.{code_in}
use Rattle.cycle_run.proofs.play.play_cycles.Given as goal

-- the cycles so far were played, and the others are to come
abbrev pub invariant-loop-count : goal.invariant-loop-count
invariant-loop-count g l = record {
  plays : g.P.Player.plays l.setup l.fn.exec (take l.count (g.F.Feed.coming (code_in l.setup) l.fn.feed)) l.fn.player l.player;
  left : g.F.Feed.coming (code_in l.setup) l.feed ≡ drop l.count (g.F.Feed.coming (code_in l.setup) l.fn.feed);
  can : g.F.Feed.can (code_in l.setup) l.feed;
  ready : (more : ℕ) → g.P.Player.ready l.setup (more + l.count) l.fn.player → g.P.Player.ready l.setup more l.player;
  keeps : g.F.Feed.keeps l.fn.feed l.feed;
}
