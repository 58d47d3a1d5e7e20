use Rattle.std.proofs.Common.{◌≡◌, ◌+◌, ◌≤◌, drop, max}
use Rattle.std.specs.Prelude.{fold}
use Rattle.text_bytes.specs.Limits.{most_plan_sites}
use Rattle.text_bytes.specs.Texts.{behind}
use Rattle.lot_plan.proofs.rows.sites_of.Given as goal

abbrev pub invariant-loop-die : goal.invariant-loop-die
invariant-loop-die l = record {
  few : l.sites ≤ most_plan_sites;
  all : fold (λ most d. max most (d.site + 1)) l.sites (behind (drop l.die-index l.dies)) ≡ fold
      (λ most d. max most (d.site + 1)) 0 (behind l.dies);
}
