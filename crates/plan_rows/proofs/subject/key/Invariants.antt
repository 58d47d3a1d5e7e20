use Rattle.std.proofs.Common.{◌≡◌, ◌++◌, take}
use Rattle.plan_rows.proofs.subject.key.Given as goal

abbrev pub invariant-loop-byte : goal.invariant-loop-byte
invariant-loop-byte l = l.key.items ≡ l.head ++ take l.byte-index l.text
