use Rattle.std.proofs.Common.{ap, sym, ◌∙◌, ◌+◌, drop}
use Rattle.std.specs.Prelude.{fold}
use Rattle.text_bytes.specs.Texts.{behind}
use Rattle.plan_rows.specs.declared.row.FaultRow.{FaultRow}
use Rattle.lot_plan.specs.Groups.{put_fault, IsThere}
use Rattle.text_bytes.proofs.ListLemmas.{drop-item}
use Rattle.lot_plan.proofs.NameLemmas.{each-behind}
use Rattle.lot_plan.proofs.GroupLemmas.{there-shape, shape-shape, shape-put_fault}
use Rattle.lot_plan.proofs.groups.add_faults.Goals as goal

pub add_fault-requires : goal.add_fault-requires
add_fault-requires c =
    there-shape c.args.sites.now.items c.loop-fault.sites.items _ _ c.loop-fault.invariant.shape
    (each-behind (λ (f : FaultRow). IsThere c.args.sites.now.items f.site f.die) c.args.faults.now c.loop-fault.fault-index
    c.fault-item.result c.requires c.loop-fault-test.true c.fault-item.is)

pub loop-fault-preserved : goal.loop-fault-preserved
loop-fault-preserved c = record {
  shape = rw c.in_ok-add_fault.ensures
      (shape-shape c.args.sites.now.items c.loop-fault.sites.items (put_fault c.loop-fault.sites.items c.fault-item.result.now)
      c.loop-fault.invariant.shape
      (shape-put_fault c.loop-fault.sites.items c.fault-item.result.now
      (there-shape c.args.sites.now.items c.loop-fault.sites.items _ _ c.loop-fault.invariant.shape
      (each-behind (λ (f : FaultRow). IsThere c.args.sites.now.items f.site f.die) c.args.faults.now c.loop-fault.fault-index
      c.fault-item.result c.requires c.loop-fault-test.true c.fault-item.is))));
  all = ap (λ s. fold put_fault s (behind (drop (c.loop-fault.fault-index + 1) c.args.faults.now))) c.in_ok-add_fault.ensures
      ∙ ap (λ fs. fold put_fault c.loop-fault.sites.items (behind fs))
      (sym (drop-item c.args.faults.now c.loop-fault.fault-index c.fault-item.result c.loop-fault-test.true c.fault-item.is))
      ∙ c.loop-fault.invariant.all;
}
