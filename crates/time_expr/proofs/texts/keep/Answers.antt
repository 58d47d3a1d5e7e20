use Rattle.time_expr.proofs.KeptLemmas.{kept-more}
use Rattle.time_expr.proofs.texts.keep.Goals as goal

pub returns : goal.returns
returns c =
    kept-more c.args.exprs.now c.insert.new.self c.args.text.now c.args.expr c.requires.others c.requires.spelled
    (λ other. c.in_ok-insert.ensures.updates.0 (record c.args.text { now = other }))
