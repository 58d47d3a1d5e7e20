use Rattle.std.proofs.Common.{◌≡◌, ◌+◌, ◌++◌, ◌∷◌, [], ◌∙◌, ℕ, List, false, true, length, Some, ap, sym, arith}
use Rattle.std.specs.Prelude.{◌&&◌, nat_lt, Vec}
use Rattle.std.specs.declared.alloc.Global.{Global}
use Rattle.tester_types.specs.declared.record.Trial.{Trial}
use Rattle.site_meaning.specs.Part.{Part}
use Rattle.site_meaning.specs.Records.{is_fail}
use Rattle.site_run.specs.Site.{seat_of}
use Rattle.site_run.proofs.SiteLemmas.{ended_by, none_runs}
use Rattle.site_run.proofs.site.Site.finish.Goals as goal

pub returns-then-not-again-clause-ended : goal.returns-then-not-again-clause-ended
returns-then-not-again-clause-ended c = λ part word told same.
    let old = c.args.self.now in
    let trial = c.args.trial in
    let none = none_runs told old.running c.requires.running in
    let len_is : c.len.result ≡ length old.trials.items = omega (arith, c.len.ensures, old.trials.ok.0) in
    let is = c.is_tried_again-again.ensures
    ∙ ap (λ (n : ℕ). is_fail trial.verdict && nat_lt (n + 1) c.tries.result) len_is
    ∙ ap (λ (n : ℕ). is_fail trial.verdict && nat_lt (length old.trials.items + 1) n) c.tries.ensures in
    let trials_is = ap (λ (v : Vec Trial Global). v.items) c.replace-trials.ensures.after ∙ c.new.ensures.items in
    let all_is = c.from_vec.ensures ∙ ap (λ (v : Vec Trial Global). v.items) c.replace-trials.ensures.value ∙ c.in_ok-push.ensures.items in
    let entry_is : c.replace-none.new.dest ≡ Some (record { site = part.site; die = old.die; trials = old.trials.items ++ trial ∷ [] }) =
    c.replace-none.ensures.after
    ∙ ap (λ (l : List Trial). Some (record { site = old.site; die = old.die; trials = l })) all_is
    ∙ ap (λ (p : Part). Some (record { site = p.site; die = old.die; trials = old.trials.items ++ trial ∷ [] })) (sym same) in
    (λ i. record {
      word = word;
      taken = old.state.taken;
      die = old.die + 1;
      trials = trials_is i;
      running = none i;
      waiting = entry_is i;
    })
    ∙ sym (ended_by c.args.plan.now old.site part (seat_of word told old) trial same c.is_tried_again-again.result false is c.if-not-again.true)

pub returns-else-not-again-clause-ended : goal.returns-else-not-again-clause-ended
returns-else-not-again-clause-ended c = λ part word told same.
    let old = c.args.self.now in
    let trial = c.args.trial in
    let none = none_runs told old.running c.requires.running in
    let len_is : c.len.result ≡ length old.trials.items = omega (arith, c.len.ensures, old.trials.ok.0) in
    let is = c.is_tried_again-again.ensures
    ∙ ap (λ (n : ℕ). is_fail trial.verdict && nat_lt (n + 1) c.tries.result) len_is
    ∙ ap (λ (n : ℕ). is_fail trial.verdict && nat_lt (length old.trials.items + 1) n) c.tries.ensures in
    let trials_is = c.in_ok-push.ensures.items in
    (λ i. record {
      word = word;
      taken = old.state.taken;
      die = old.die;
      trials = trials_is i;
      running = none i;
      waiting = old.waiting;
    })
    ∙ sym (ended_by c.args.plan.now old.site part (seat_of word told old) trial same c.is_tried_again-again.result true is c.if-not-again.false)
