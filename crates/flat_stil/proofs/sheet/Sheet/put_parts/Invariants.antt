use Rattle.std.proofs.Common.{◌≡◌, take}
use Rattle.std.specs.List.{flat_map}
use Rattle.flat_stil.specs.Working.{part_text, wrote}
use Rattle.flat_stil.proofs.sheet.Sheet.put_parts.Given as goal

abbrev pub invariant-loop-part : goal.invariant-loop-part
invariant-loop-part l = l.self ≡ wrote l.fn.self (flat_map part_text (take l.part-index l.parts))
