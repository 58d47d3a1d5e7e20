use Rattle.std.proofs.Common.{◌≡◌, drop}
use Rattle.std.specs.Prelude.{fold}
use Rattle.text_bytes.specs.Texts.{behind}
use Rattle.lot_plan.specs.Groups.{put_fault, HasShape}
use Rattle.lot_plan.proofs.groups.add_faults.Given as goal

abbrev pub invariant-loop-fault : goal.invariant-loop-fault
invariant-loop-fault l = record {
  shape : HasShape l.fn.sites.items l.sites.items;
  all : fold put_fault l.sites.items (behind (drop l.fault-index l.faults)) ≡ fold put_fault l.fn.sites.items (behind l.faults);
}
