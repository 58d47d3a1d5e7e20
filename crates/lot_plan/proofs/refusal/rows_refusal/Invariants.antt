use Rattle.std.proofs.Common.{◌≡◌, ◌+◌, drop, length, map}
use Rattle.std.specs.List.{list_any}
use Rattle.std.specs.Str.{bytes_eq}
use Rattle.std.specs.Arc.{arc_value}
use Rattle.bench_net.specs.Views.{texts}
use Rattle.lot_plan.specs.Groups.{circuit_in}
use Rattle.lot_plan.specs.Skews.{skew_refusal}
use Rattle.lot_plan.specs.Refusal.{rows_refusal}
use Rattle.lot_plan.proofs.refusal.rows_refusal.Given as goal

abbrev pub invariant-loop-row : goal.invariant-loop-row
invariant-loop-row l = record {
  number : l.number ≡ l.row-index;
  all : rows_refusal (λ name. list_any (bytes_eq name) (texts l.names.keys)) (skew_refusal l.signals l.code.tables) (length l.code.execs)
      (circuit_in l.sites (map arc_value l.nets)) (l.number + 1) (drop l.row-index l.rows)
      ≡ rows_refusal (λ name. list_any (bytes_eq name) (texts l.names.keys)) (skew_refusal l.signals l.code.tables) (length l.code.execs)
      (circuit_in l.sites (map arc_value l.nets)) 1 l.rows;
}
