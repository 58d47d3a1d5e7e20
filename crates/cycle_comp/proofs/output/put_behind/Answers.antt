use Rattle.std.proofs.Common.{List, ◌≡◌, ◌++◌, ◌∷◌, [], sym, ap, subst, ◌∙◌, append_assoc}
use Rattle.packed_code.specs.declared.instr.Instr.{Instr}
use Rattle.cycle_comp.specs.Writing.{IsPut}
use Rattle.cycle_comp.proofs.PutLemmas.{put-once, put-more}
use Rattle.cycle_comp.proofs.SameLemmas.{more-last, none-last}
use Rattle.cycle_comp.proofs.output.put_behind.Goals as goal

pub returns-in_ok-push-in-Some-clause-put : goal.returns-in_ok-push-in-Some-clause-put
returns-in_ok-push-in-Some-clause-put c =
    let e : c.push.new.self.items ≡ c.args.code.now.items ++ c.in-Some.run' ∷ [] = c.in_ok-push-in-Some.ensures.items in
    subst (λ (code : List Instr). IsPut c.args.entry (c.args.code.now.items ++ c.args.last ∷ []) code) (sym e)
    (put-more c.args.entry c.args.last c.in-Some.run' c.args.code.now.items c.in-Some.ensures.run)

pub returns-in_ok-push-in-Some-clause-is : goal.returns-in_ok-push-in-Some-clause-is
returns-in_ok-push-in-Some-clause-is c =
    c.in_ok-push-in-Some.ensures.items
    ∙ ap (λ (more : List Instr). c.args.code.now.items ++ more)
    (more-last c.args.entry c.args.last c.in-Some.run' c.in-Some.ensures.is)

pub returns-in_ok-push-in-None-2-clause-put : goal.returns-in_ok-push-in-None-2-clause-put
returns-in_ok-push-in-None-2-clause-put c =
    let old = c.args.code.now.items ++ c.args.last ∷ [] in
    let e : c.push-in-None-2.new.self.items ≡ old ++ c.once.result ∷ [] =
    c.in_ok-push-in-None-2.ensures.items
    ∙ ap (λ (code : List Instr). code ++ c.once.result ∷ []) c.in_ok-push-in-None.ensures.items in
    subst (λ (code : List Instr). IsPut c.args.entry old code)
    (sym (e ∙ ap (λ (i : Instr). old ++ i ∷ []) c.once.ensures))
    (put-once c.args.entry old)

pub returns-in_ok-push-in-None-2-clause-is : goal.returns-in_ok-push-in-None-2-clause-is
returns-in_ok-push-in-None-2-clause-is c =
    let front = c.args.code.now.items in
    c.in_ok-push-in-None-2.ensures.items
    ∙ (ap (λ (code : List Instr). code ++ c.once.result ∷ []) c.in_ok-push-in-None.ensures.items
    ∙ (ap (λ (i : Instr). (front ++ c.args.last ∷ []) ++ i ∷ []) c.once.ensures
    ∙ (append_assoc front (c.args.last ∷ []) _
    ∙ ap (λ (more : List Instr). front ++ more) (none-last c.args.entry c.args.last c.in-None.ensures.is))))
