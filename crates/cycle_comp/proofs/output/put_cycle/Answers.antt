use Rattle.std.proofs.Common.{List, ◌≡◌, ◌++◌, ◌∷◌, [], sym, ap, subst, ◌∙◌}
use Rattle.std.proofs.lemmas.List.{append-nil}
use Rattle.std.proofs.lemmas.Result.{on_ok_weaker}
use Rattle.packed_code.specs.declared.instr.Instr.{Instr}
use Rattle.cycle_comp.specs.Writing.{IsPut}
use Rattle.cycle_comp.specs.Passes.{with_entry}
use Rattle.cycle_comp.proofs.PutLemmas.{put-once}
use Rattle.cycle_comp.proofs.SameLemmas.{with_entry-last}
use Rattle.cycle_comp.proofs.output.put_cycle.Goals as goal

pub returns-in_ok-push-in-None-clause-put : goal.returns-in_ok-push-in-None-clause-put
returns-in_ok-push-in-None-clause-put c =
    let none = c.pop.new.self.items in
    let old : c.args.code.now.items ≡ none = c.in-None.ensures.items ∙ append-nil none in
    let new = c.in_ok-push-in-None.ensures.items ∙ ap (λ (i : Instr). none ++ i ∷ []) c.once.ensures in
    subst (λ (code : List Instr). IsPut c.args.entry code c.push.new.self.items) (sym old)
    (subst (λ (code : List Instr). IsPut c.args.entry none code) (sym new) (put-once c.args.entry none))

pub returns-in-Some-clause-is : goal.returns-in-Some-clause-is
returns-in-Some-clause-is c =
    let front = c.pop.new.self.items in
    on_ok_weaker c.put_behind.result
    (λ is. is ∙ sym (ap (with_entry c.args.entry) c.in-Some.ensures.items ∙ with_entry-last c.args.entry front c.in-Some.last))
    c.put_behind.ensures.is
