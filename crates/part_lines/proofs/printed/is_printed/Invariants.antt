use Rattle.std.proofs.Common.{◌≡◌, ◌++◌, take}
use Rattle.std.specs.List.{flat_map}
use Rattle.tester_types.specs.Printing.{piece_text}
use Rattle.part_lines.proofs.printed.is_printed.Given as goal

abbrev pub invariant-loop-piece : goal.invariant-loop-piece
invariant-loop-piece l = l.line ≡ flat_map piece_text (take l.piece-index l.pieces) ++ l.left
