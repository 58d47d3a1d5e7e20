use Rattle.word_run.proofs.BoardLemmas.{of_net, collected, stands_next, judged}
use Rattle.word_run.proofs.board.play_moment.Goals as goal

pub returns-clause-lanes : goal.returns-clause-lanes
returns-clause-lanes c = λ k device along within h.
    let image = c.args.image.now in
    let board = c.args.board.now in
    let of = of_net device image board.dies.image c.requires.of.dies h.die.net in
    stands_next (record board {
      dies = c.drive_all.new.dies;
      last = c.remember.new.last;
      drives = c.collect.new.given;
      windows = c.put_windows.new.windows;
    }) k device along c.args.moment.now board.last.items c.as_slice-4.result.now
    c.as_slice-3.result.now h.priors c.as_slice-4.ensures
    (collected device image c.args.moment.now along.priors board.last.items c.as_slice.result.now c.as_slice-2.result.now
    c.collect.new.given.items c.as_slice-3.result.now of h.priors c.as_slice.ensures.value c.as_slice-2.ensures c.in_ok-collect.ensures
    c.as_slice-3.ensures.value)
    (c.drive_all.ensures.lanes k device along.die within h.die) c.remember.ensures.all

pub returns-clause-met : goal.returns-clause-met
returns-clause-met c = λ k device along within h.
    let image = c.args.image.now in
    let board = c.args.board.now in
    let of = of_net device image board.dies.image c.requires.of.dies h.die.net in
    let drives = collected device image c.args.moment.now along.priors board.last.items c.as_slice.result.now c.as_slice-2.result.now
    c.collect.new.given.items c.as_slice-3.result.now of h.priors c.as_slice.ensures.value c.as_slice-2.ensures c.in_ok-collect.ensures
    c.as_slice-3.ensures.value in
    judged k device along c.args.moment.now c.as_slice-3.result.now board.bound.items c.as_slice-5.result.now
    c.put_windows.new.windows.items c.as_slice-6.result.now c.as_slice-looks.result.now c.meet_all.result c.args.alive drives
    c.as_slice-5.ensures.value c.as_slice-6.ensures.value c.as_slice-looks.ensures
    (c.meet_all.ensures k device _ within (c.drive_all.ensures.lanes k device along.die within h.die))
