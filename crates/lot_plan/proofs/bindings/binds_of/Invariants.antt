use Rattle.std.proofs.Common.{◌≡◌, ℕ, false, length, map, drop, slice_index_or}
use Rattle.lot_plan.specs.Binds.{is_driven, binds_from, binds_of}
use Rattle.lot_plan.specs.Views.{needed_by}
use Rattle.lot_plan.proofs.bindings.binds_of.Given as goal

abbrev pub invariant-loop-pin : goal.invariant-loop-pin
invariant-loop-pin l = record {
  count : length l.driven.items ≡ length l.net.net.names;
  driven : (n : ℕ) → slice_index_or l.driven.items n false ≡ is_driven l.binds.items n;
  all : binds_from l.net l.binds.items (map needed_by (drop l.pin-index l.pins)) ≡ binds_of l.net (map needed_by l.pins);
}
