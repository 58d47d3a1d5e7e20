-- One run more rises, and spells the character so often.
use Rattle.std.proofs.Common.{◌≡◌, ℕ, ◌-◌, List, ◌++◌, ap, sym, subst, ◌∙◌, arith, replicate}
use Rattle.stil_ast.specs.Meaning.Arguments.{Entry, given}
use Rattle.macro_expand.specs.Runs.{spelled, end_of, RiseFrom}
use Rattle.macro_expand.specs.declared.characters.CharacterRun.{CharacterRun}
use Rattle.macro_expand.proofs.RunLemmas.{spelled-more, end_of-more, rise-more}
use Rattle.macro_expand.proofs.characters.Characters.push.Goals as goal

pub invariant_of-self-in-Some : goal.invariant_of-self-in-Some
invariant_of-self-in-Some c =
    let runs = c.self.inside.runs.items in
    let run : CharacterRun = record { character = c.args.character; end = c.in-Some.end } in
    let more = sym c.in_ok-push-in-Some.ensures.items in
    let total = c.self.invariant.1 in
    let sum = c.in-Some.ensures in (
      subst (RiseFrom 0) more (rise-more 0 runs run c.self.invariant.0 (omega (arith, total, sum))),
      sym (end_of-more 0 runs run) ∙ ap (end_of 0) more,
    )

pub returns-in_ok-push-in-Some-clause-added : goal.returns-in_ok-push-in-Some-clause-added
returns-in_ok-push-in-Some-clause-added c =
    let runs = c.self.inside.runs.items in
    let run : CharacterRun = record { character = c.args.character; end = c.in-Some.end } in
    let total = c.self.invariant.1 in
    let sum = c.in-Some.ensures in
    let often : c.in-Some.end - end_of 0 runs ≡ c.args.times = omega (arith, total, sum) in
    ap (spelled 0) c.in_ok-push-in-Some.ensures.items
    ∙ (spelled-more 0 runs run
    ∙ (ap (λ (n : ℕ). spelled 0 runs ++ replicate n (given c.args.character)) often
    ∙ ap (λ (es : List Entry). es ++ replicate c.args.times (given c.args.character)) c.self.view_is))
