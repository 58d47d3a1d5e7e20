use Rattle.std.proofs.Common.{arith, ◌≤◌, ◌*◌, ◌+◌}
use Rattle.std.proofs.lemmas.Nat.{mul-le}
use Rattle.plan_rows.proofs.TallyLemmas.{small_product}
use Rattle.plan_rows.proofs.tally.DieTally.has_room.Goals as goal

pub overflow_mul-kept : goal.overflow_mul-kept
overflow_mul-kept c =
    let p : c.from.result * c.from-2.result ≤ 16711425 = small_product _ _ (omega arith) (omega arith) in omega arith

pub overflow_mul-result : goal.overflow_mul-result
overflow_mul-result c =
    let p : c.from.result * c.from-2.result ≤ 16711425 = small_product _ _ (omega arith) (omega arith) in
    let q : (c.from-dies.result + 1) * (c.from.result * c.from-2.result) ≤ 4096 * 16711425 =
    mul-le (c.from-dies.result + 1) (c.from.result * c.from-2.result) 4096 16711425 (omega arith) p in omega arith
