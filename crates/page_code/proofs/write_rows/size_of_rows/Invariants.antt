use Rattle.std.proofs.Common.{◌≡◌, ◌^◌, ◌-◌, [], take, length, min}
use Rattle.page_code.specs.Spelling.{behind, row}
use Rattle.page_code.proofs.write_rows.size_of_rows.Given as goal

abbrev pub invariant-loop-number : goal.invariant-loop-number
invariant-loop-number l = l.size ≡ min (length (behind (row l.version) [] (take l.number l.rows))) (2 ^ 64 - 1)
