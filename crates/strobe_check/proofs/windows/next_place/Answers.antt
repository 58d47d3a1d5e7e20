use Rattle.std.proofs.Common.{max, ap, ◌∙◌}
use Rattle.strobe_check.proofs.PassLemmas.{Passes-first, some_look}
use Rattle.strobe_check.proofs.windows.next_place.Goals as goal

pub returns-clause-passes : goal.returns-clause-passes
returns-clause-passes c =
    Passes-first c.args.sorted c.args.looks.now c.args.windows.now _ c.from.result c.next-open.result c.args.from c.max.result
    c.if-not-sorted.false (some_look c.args.looks.now c.is_empty.result c.is_empty.ensures c.if-is_empty.false)
    c.from.ensures (c.max.ensures ∙ ap (λ m. max m c.args.from) c.min.ensures) c.next-open.ensures.skipped
