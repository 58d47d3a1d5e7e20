use Rattle.flat_tree.proofs.LeanLemmas.{next_stays}
use Rattle.flat_tree.proofs.only_last.slot_stays.Goals as goal

pub returns-in-Table : goal.returns-in-Table
returns-in-Table c = rw c.in-Table.is (c.table_stays.ensures c.in-Table.field-0)

pub returns-in-Character : goal.returns-in-Character
returns-in-Character c = rw c.in-Character.is (c.signal_stays.ensures.character c.in-Character.field-0)

pub returns-in-Back : goal.returns-in-Back
returns-in-Back c = rw c.in-Back.is c.signal_stays-in-Back.ensures.back

pub returns-in-Next : goal.returns-in-Next
returns-in-Next c =
    rw (c.in-Next.is, c.forget.ensures) (λ signals kept slots m. next_stays signals c.args.ahead.now kept slots m)
