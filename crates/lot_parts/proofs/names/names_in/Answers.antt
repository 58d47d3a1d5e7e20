use Rattle.std.proofs.Common.{ℕ, ◌<◌, List, ap, arith, subst, ◌∙◌}
use Rattle.plan_rows.specs.declared.row.Row.{Row}
use Rattle.plan_rows.specs.Judging.{names_at}
use Rattle.plan_parts.proofs.RankLemmas.{number_within}
use Rattle.lot_parts.proofs.SiteNameLemmas.{small_number, next_site, all_sites}
use Rattle.lot_parts.proofs.names.names_in.Goals as goal

pub overflow_cast-number : goal.overflow_cast-number
overflow_cast-number c =
    let within = subst (λ (k : ℕ). c.loop-number.number < k) c.in_part-number-end.ensures c.loop-number-test.true in
    omega (arith, small_number c.args.of.parts c.args.of.part _ c.loop-number.number c.requires.part within c.requires.few)

pub at-site-requires : goal.at-site-requires
at-site-requires c =
    let within = subst (λ (k : ℕ). c.loop-number.number < k) c.in_part-number-end.ensures c.loop-number-test.true in
    (number_within c.args.of.parts c.args.of.part _ c.requires.part c.loop-number.number).0 within

pub loop-number-preserved : goal.loop-number-preserved
loop-number-preserved c =
    next_site c.args.rows.now c.args.sites.now c.args.of.parts c.args.of.part c.loop-number.number c.at-site.result
    c.loop-number.names.items c.push.new.self.items c.in_ok-dies.dies c.requires.sites c.at-site.ensures
    (c.in_ok-dies.ensures ∙ ap (λ (l : List Row). names_at c.at-site.result l) c.as_slice.ensures) c.loop-number.invariant c.in_ok-push.ensures.items

pub returns : goal.returns
returns c =
    all_sites c.args.rows.now c.args.sites.now c.args.of.parts c.args.of.part c.loop-number.number c.in_part-number-end.result
    c.loop-number.names.items c.requires.sites c.in_part-number-end.ensures (omega arith) c.loop-number.invariant
