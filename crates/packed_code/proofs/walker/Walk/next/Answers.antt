use Rattle.std.proofs.Common.{◌≤◌, ◌∷◌, ◌≡◌, subst, sym, ℕ, List}
use Rattle.packed_code.specs.declared.instr.Instr.{Instr}
use Rattle.packed_code.specs.Course.{IsOn, coming}
use Rattle.packed_code.proofs.WalkLemmas.{goes_on_over}
use Rattle.packed_code.proofs.walker.Walk.next.Goals as goal

pub returns-clause-over : goal.returns-clause-over
returns-clause-over c =
    let is = c.instructions.ensures in
    goes_on_over c.args.code.now c.args.self.now c.in_ok-entry.entry c.next_entry.new.course c.from.result c.requires
    (subst (λ (n : ℕ). n ≤ 1000000000000) (sym c.from.ensures) c.table.ensures.period.1)
    (subst (λ (code : List Instr). IsOn code c.next_entry.new.course) is c.in_ok-entry.ensures.on)
    (subst (λ (code : List Instr). coming code c.args.self.now.course ≡ c.in_ok-entry.entry ∷ coming code c.next_entry.new.course) is c.in_ok-entry.ensures.given)
