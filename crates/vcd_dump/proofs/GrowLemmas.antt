-- What a told tape has of a first try.
use Rattle.std.proofs.Common.{◌≡◌, ℕ, zero, suc, ◌+◌, cond, [], ◌++◌, refl, ap, ◌∙◌, subst}
use Rattle.tester_types.specs.Outside.{HasRisen}
use Rattle.tester_types.specs.declared.record.Trial.{Trial}
use Rattle.tester_types.specs.declared.record.Record.{Record}
use Rattle.die_sim.specs.Socket.{Told}
use Rattle.lot_plan.specs.Bound.{Bound}
use Rattle.site_meaning.specs.Part.{Part, part_of, lot_in}
use Rattle.site_meaning.specs.Trials.{trial, uncut}
use Rattle.site_meaning.specs.Records.{is_fail, cut_at, tries_from, then_again, EndsSo}
use Rattle.cycle_run.specs.Tape.{with_calls}
use Rattle.site_run.specs.Taped.{calls_of_try, calls_of_trial, calls_of_trials, calls_of}
use Rattle.site_run.specs.Touchdown.{IsTouchdown}
use Rattle.vcd_dump.specs.Taken.{tape_of, GrowsBy}

number-trial : (part : Part) → (trial part 0 1 uncut).number ≡ 1
unfolding trial
number-trial part = refl

pub try_is_taped : (plan : Bound) (site : ℕ) (recorded : Trial) → recorded ≡ trial (part_of plan site) 0 1 uncut
    → calls_of_trial (part_of plan site) 0 recorded ≡ tape_of plan site
unfolding tape_of
try_is_taped plan site recorded is =
    let part = part_of plan site in
    ap (λ (t : Trial). calls_of_try part 0 t.number t.cycles) is
    ∙ ap (λ n. calls_of_try part 0 n (trial part 0 1 uncut).cycles) (number-trial part)

-- the tries of a touchdown without cuts
tries_are : (part : Part) (left : ℕ) → tries_from part [] 0 1 (suc left)
    ≡ then_again (trial part 0 1 uncut) (tries_from part [] 0 (1 + 1) left)
unfolding tries_from cut_at
tries_are part left = refl

no_tries : (part : Part) → tries_from part [] 0 1 zero ≡ []
unfolding tries_from
no_tries part = refl

grows : (plan : Bound) (site : ℕ) (tries : ℕ) (told told' : Told) (entry : Record) → entry.die ≡ 0
    → told'.tape ≡ with_calls told.tape (calls_of (part_of plan site) entry) → EndsSo (lot_in (part_of plan site)).tries entry.trials
    → entry.trials ≡ tries_from (part_of plan site) [] 0 1 tries → GrowsBy plan site told.tape told'.tape
grows plan site zero told told' entry die tape ends is =
    absurd (subst (EndsSo (lot_in (part_of plan site)).tries) (is ∙ no_tries (part_of plan site)) ends)
grows plan site (suc left) told told' entry die tape ends is =
    let part = part_of plan site in
    let first = trial part 0 1 uncut in
    let more = tries_from part [] 0 (1 + 1) left in
    let calls : calls_of part entry ≡ tape_of plan site ++ calls_of_trials part 0 (cond (is_fail first.verdict) more []) =
    ap (λ d. calls_of_trials part d entry.trials) die
    ∙ ap (calls_of_trials part 0) (is ∙ tries_are part left)
    ∙ ap (λ c. c ++ calls_of_trials part 0 (cond (is_fail first.verdict) more [])) (try_is_taped plan site first refl) in
    record {
      later = calls_of_trials part 0 (cond (is_fail first.verdict) more []);
      grown = tape ∙ ap (with_calls told.tape) calls;
      alone = λ passes. ap (λ b. calls_of_trials part 0 (cond b more [])) passes;
    }

pub touchdown_is_taped : (plan : Bound) (site : ℕ) (told told' : Told) (entry : Record) → IsTouchdown (part_of plan site) 0 told told' entry
    → (HasRisen told.count told'.count → ⊥) → GrowsBy plan site told.tape told'.tape
touchdown_is_taped plan site told told' entry t quiet =
    let part = part_of plan site in
    grows plan site (lot_in part).tries told told' entry t.of_die (t.tape quiet) t.sound.ending (ap (λ (e : Record). e.trials) (t.uncut quiet))
