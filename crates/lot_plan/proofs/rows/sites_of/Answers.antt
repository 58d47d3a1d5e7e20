use Rattle.std.proofs.Common.{◌≡◌, ◌+◌, max, arith, ap, sym, ◌∙◌, drop}
use Rattle.std.specs.Prelude.{fold}
use Rattle.text_bytes.specs.Texts.{behind}
use Rattle.plan_rows.specs.declared.row.DieRow.{DieRow}
use Rattle.text_bytes.proofs.ListLemmas.{drop-item}
use Rattle.lot_plan.proofs.NameLemmas.{site-within}
use Rattle.lot_plan.proofs.rows.sites_of.Goals as goal

pub with_site-sites-requires : goal.with_site-sites-requires
with_site-sites-requires c = site-within c.args.dies.now c.loop-die.die-index c.die-item.result c.requires
    c.loop-die-test.true c.die-item.is

pub loop-die-preserved : goal.loop-die-preserved
loop-die-preserved c =
    let small = site-within c.args.dies.now c.loop-die.die-index c.die-item.result c.requires c.loop-die-test.true
    c.die-item.is in
    let most : c.with_site-sites.result ≡ max c.loop-die.sites (c.die-item.result.now.site + 1) = c.with_site-sites.ensures in
    record {
      few = omega (arith, small, most);
      all = ap (λ m. fold (λ most (d : DieRow). max most (d.site + 1)) m
          (behind (drop (c.loop-die.die-index + 1) c.args.dies.now))) most
          ∙ ap (λ ds. fold (λ most (d : DieRow). max most (d.site + 1)) c.loop-die.sites (behind ds))
          (sym (drop-item c.args.dies.now c.loop-die.die-index c.die-item.result c.loop-die-test.true c.die-item.is))
          ∙ c.loop-die.invariant.all;
    }
