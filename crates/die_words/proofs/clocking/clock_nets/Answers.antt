use Rattle.std.proofs.Common.{refl, sym, subst, List, ℕ}
use Rattle.die_words.specs.declared.word.Word.{Word}
use Rattle.die_words.specs.Lane.{IsLane}
use Rattle.die_words.specs.Fits.{GatesWait, RefreshesAll}
use Rattle.die_words.proofs.CaptureLemmas.{captured_keeps}
use Rattle.die_words.proofs.FitLemmas.{FitNets-clocked}
use Rattle.die_words.proofs.clocking.clock_nets.Goals as goal

pub returns-then-keeps-clause-lanes : goal.returns-then-keeps-clause-lanes
returns-then-keeps-clause-lanes c = λ k v own levels held.
    captured_keeps c.args.net.now.net.drivers c.args.was c.args.now c.rise_of-rise.result v own c.args.nets.now.held.items k
    (c.keeps.ensures c.if-keeps.true) c.rise_of-rise.ensures held

pub returns-clause-lanes : goal.returns-clause-lanes
returns-clause-lanes c = λ k v own levels held.
    c.capture_each.ensures.lanes c.args.was c.args.now c.rise_of-rise.ensures k v own
    (subst (λ (w : List Word). IsLane w k v) (sym c.as_slice-3.ensures.value) levels) held

pub returns-clause-fit : goal.returns-clause-fit
returns-clause-fit c =
    let old = c.args.nets.now in
    let held = c.capture_each.new.held.items in
    let new = c.refresh_each.new.words.items in
    let registers = c.args.wired.now.registers in
    FitNets-clocked c.args.net.now old _ registers.nets.items registers.sources.items c.requires.wiring.registers refl refl
    c.capture_each.ensures.count c.refresh_each.ensures.count c.capture_each.ensures.others
    (subst (λ (ns : List ℕ). RefreshesAll old.forces.items held old.words.items new ns) c.as_slice-6.ensures.value
    (subst (λ (h : List Word). RefreshesAll old.forces.items h old.words.items new c.as_slice-6.result.now) c.as_slice-5.ensures.value
    (subst (λ (f : List Word). RefreshesAll f c.as_slice-5.result.now old.words.items new c.as_slice-6.result.now) c.as_slice-4.ensures.value
    c.refresh_each.ensures.fit)))
    (subst (λ (f : List Word). GatesWait c.args.net.now f new c.refresh_each.new.pending) c.as_slice-4.ensures.value c.refresh_each.ensures.waits)
    c.requires.fit
