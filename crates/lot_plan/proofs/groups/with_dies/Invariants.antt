use Rattle.std.proofs.Common.{◌≡◌, [], length, drop, replicate}
use Rattle.std.specs.Prelude.{fold}
use Rattle.text_bytes.specs.Texts.{behind}
use Rattle.bench_net.specs.Views.{texts}
use Rattle.lot_plan.specs.Groups.{put_die}
use Rattle.lot_plan.proofs.groups.with_dies.Given as goal

abbrev pub invariant-loop-die : goal.invariant-loop-die
invariant-loop-die l = record {
  count : length l.made.items ≡ l.sites;
  all : fold (put_die (texts l.files.keys)) l.made.items (behind (drop l.die-index l.dies))
      ≡ fold (put_die (texts l.files.keys)) (replicate l.sites []) (behind l.dies);
}
