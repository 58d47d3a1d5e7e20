use Rattle.word_run.proofs.RunLemmas.{firsts_are}
use Rattle.word_run.proofs.run.first_cycles.Goals as goal

pub returns : goal.returns
returns c =
    firsts_are c.args.setup.now c.args.faults.now c.in_ok-player.player c.run_all.new.player c.requires.few c.in_ok-player.ensures
    c.in_ok-run_all.ensures
