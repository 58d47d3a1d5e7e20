use Rattle.std.proofs.Common.{◌≡◌, ◌^◌, ◌-◌, take, length, min}
use Rattle.std.specs.List.{flat_map}
use Rattle.page_code.proofs.write_fields.size_of_each.Given as goal

abbrev pub invariant-loop-item : goal.invariant-loop-item
invariant-loop-item g l = l.size ≡ min (length (flat_map g.T.Spelled.spelling (take l.item-index l.items))) (2 ^ 64 - 1)
