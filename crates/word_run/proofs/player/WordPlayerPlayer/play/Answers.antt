use Rattle.std.proofs.Common.{◌+◌, arith, refl}
use Rattle.word_run.proofs.PlayLemmas.{plays_lane}
use Rattle.word_run.proofs.player.WordPlayerPlayer.play.Goals as goal

pub returns-clause-plays : goal.returns-clause-plays
returns-clause-plays c = record {
  count = c.put_firsts.ensures.count;
  lanes = λ k device going within here stands.
      let old = c.args.self.now in
      plays_lane c.args.setup.now c.args.exec c.args.cycle old
      (record {
        number = old.number + 1;
        board = c.play_cycle.new.board;
        schedules = c.play_cycle.new.schedules;
        alive = c.in-Ok.left;
        firsts = c.put_firsts.new.firsts;
      }) k device going within (omega arith) stands
      (c.in-Ok.ensures.lanes k device going within stands.at) refl
      (c.in-Ok.ensures.clear k device c.args.exec going within stands.at)
      (c.put_firsts.ensures.found k here) (c.put_firsts.ensures.others k here);
}
