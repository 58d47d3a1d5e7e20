use Rattle.std.proofs.Common.{◌∙◌, ap}
use Rattle.text_bytes.specs.Texts.{behind}
use Rattle.lot_plan.proofs.SkewLemmas.{one_site_more}
use Rattle.lot_plan.proofs.skews.all_skews.Goals as goal

pub loop-site-preserved : goal.loop-site-preserved
loop-site-preserved c =
    c.in_ok-push.ensures.items
    ∙ one_site_more c.args.signals.now c.args.rows.now c.loop-site.site (behind c.deref.result.now)
    (behind c.deref-in-loop-site.result.now) c.in_ok-skews_of.field-0 c.loop-site.all.items
    (ap behind c.deref.ensures.value ∙ c.in_ok-skewed.ensures)
    (ap behind c.deref-in-loop-site.ensures.value ∙ c.in_ok-own.ensures) c.in_ok-skews_of.ensures
    c.loop-site.invariant
