use Rattle.std.proofs.Common.{take, replicate, None, sym, ap, ◌∙◌, length-take}
use Rattle.std.proofs.Math.Nat.{min_comm}
use Rattle.std.proofs.lemmas.List.{take_min}
use Rattle.strobe_check.specs.History.{most_numbered, numbered}
use Rattle.strobe_check.proofs.HistoryLemmas.{HasSeen-fresh}
use Rattle.strobe_check.proofs.checker.Checker.make.Goals as goal

pub returns : goal.returns
unfolding numbered
returns c =
    let all = c.args.bound.now in
    let least = c.min-signals.ensures ∙ min_comm _ _ in
    let bound = c.in_ok-from_slice.ensures.items ∙ ap (λ n. take n all) least
    ∙ take_min most_numbered all in
    let windows = c.in_ok-make.ensures
    ∙ ap (λ n. replicate n None) (least ∙ sym (length-take most_numbered all)) in
    HasSeen-fresh (take most_numbered all) c.args.keep _ bound windows c.in_ok-new.ensures
