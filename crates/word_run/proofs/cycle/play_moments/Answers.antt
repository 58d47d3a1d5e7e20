use Rattle.std.proofs.Common.{◌+◌, ◌∙◌, ℕ, List, ap, length, map, take, sym, subst}
use Rattle.std.proofs.lemmas.List.{take_all}
use Rattle.tester_types.specs.declared.cycle.Moment.{Moment}
use Rattle.edge_gen.specs.Moments.{later}
use Rattle.site_meaning.specs.Playing.{Along, after_moments}
use Rattle.cycle_run.proofs.StepLemmas.{after_moments-none}
use Rattle.word_run.specs.Board.{StandsAt, AreWindows, PlaysMoments}
use Rattle.word_run.proofs.BoardLemmas.{of_net}
use Rattle.word_run.proofs.CycleLemmas.{windows_next, after-later, clear_more, clear_none, same_bound}
use Rattle.word_run.proofs.cycle.play_moments.Goals as goal

pub loop-moment-init : goal.loop-moment-init
loop-moment-init c = record {
  of = c.requires.of;
  windows = c.requires.closed;
  plays = record {
    lanes = λ k device along start within h.
        subst (λ (a : Along). StandsAt c.args.board.now k device a) (sym (after_moments-none device along)) h;
    clear = λ k device whose along start within h. clear_none device whose along start c.args.moments.now c.args.alive k;
  };
}

pub loop-moment-preserved : goal.loop-moment-preserved
loop-moment-preserved c =
    let image = c.args.image.now in
    let i = c.loop-moment.moment-index in
    let ms = c.args.moments.now in
    let m = c.moment-item.result in
    let signals = length image.binds in
    let old = c.loop-moment.invariant in
    let now = c.in_ok-left.ensures in
    let windows = windows_next signals i ms m c.loop-moment.board.windows.items c.play_moment.new.board.windows.items c.loop-moment-test.true
    c.moment-item.is old.windows now.of.windows now.windows in
    record {
      of = now.of;
      windows = windows;
      plays = record {
        lanes = λ k device along start within h.
            subst (λ (a : Along). StandsAt c.play_moment.new.board k device a)
            (after-later device along start i ms m c.loop-moment-test.true c.moment-item.is)
            (now.lanes k device (after_moments device along (map (later start) (take i ms))) within
            (old.plays.lanes k device along start within h));
        clear = λ k device whose along start within h.
            let stands = old.plays.lanes k device along start within h in
            let of = of_net device image c.loop-moment.board.dies.image old.of.dies stands.die.net in
            clear_more device whose along start i ms m c.play_moment.new.board.bound.items c.play_moment.new.board.windows.items
            c.args.alive c.loop-moment.left c.in_ok-left.left k c.loop-moment-test.true c.moment-item.is
            (now.of.bound ∙ sym (same_bound device image of))
            (subst (λ (n : ℕ). AreWindows n (take (i + 1) ms) c.play_moment.new.board.windows.items) (sym (ap (λ l. length l) of.binds))
            windows)
            (old.plays.clear k device whose along start within h)
            (now.met k device (after_moments device along (map (later start) (take i ms))) within stands);
      };
    }

pub returns : goal.returns
returns c = record {
  of = c.loop-moment.invariant.of;
  plays = subst (λ (l : List Moment). PlaysMoments l c.args.alive c.loop-moment.left c.args.board.now c.loop-moment.board)
      (take_all c.loop-moment.moment-index c.args.moments.now c.loop-moment-test.false) c.loop-moment.invariant.plays;
}
