use Rattle.std.proofs.Common.{◌≡◌, ◌<◌, get_or, length, refl, subst, arith}
use Rattle.std.proofs.lemmas.List.{get_or_read}
use Rattle.tester_types.specs.declared.level.Level.{Level}
use Rattle.die_sim.specs.Moment.{drive_level}
use Rattle.die_words.specs.declared.word.Word.{Word}
use Rattle.die_words.specs.Lane.{nothing, Shows}
use Rattle.die_words.specs.Fits.{FitsOwn}
use Rattle.die_words.proofs.LaneLemmas.{IsLane-set, AreOff-set}
use Rattle.die_words.proofs.FitLemmas.{FitNets-input}
use Rattle.die_words.proofs.drives.put_input.Goals as goal

pub returns-clause-fit : goal.returns-clause-fit
returns-clause-fit c =
    let n = c.args.n in
    let forces = c.args.nets.now.forces.items in
    let inside : n < length forces = let w = c.requires.within in omega (arith, w, c.requires.fit.forces) in
    let force : c.index.result.now ≡ get_or forces n nothing = get_or_read forces n c.index.result.now inside c.index.ensures nothing in
    FitNets-input c.args.net.now c.args.nets.now _ n c.same_everywhere-own.result c.forced-word.result c.is_off.result c.requires.within
    c.requires.input refl refl refl
    (subst (λ (f : Word). FitsOwn f c.same_everywhere-own.result c.forced-word.result) force c.forced-word.ensures.fits)
    c.put_word.ensures.seats c.put_word.ensures.puts c.requires.fit

pub returns-clause-lanes : goal.returns-clause-lanes
returns-clause-lanes c = λ k own within lane.
    let inside : c.args.n < length c.args.nets.now.held.items = let w = c.requires.within in omega (arith, w, c.requires.fit.held) in
    IsLane-set c.args.nets.now.held.items k c.args.n c.same_everywhere-own.result own (drive_level c.args.drive) inside
    (subst (λ (x : Level). Shows c.same_everywhere-own.result k x) c.drive_level.ensures (c.same_everywhere-own.ensures k within)) lane

pub returns-clause-offs : goal.returns-clause-offs
returns-clause-offs c = λ own off.
    let w = c.requires.within in
    let inside : c.args.n < length own = let count = off.count in omega (arith, count, c.requires.fit.offs, w) in
    AreOff-set c.args.nets.now.offs.items own c.args.n c.is_off.result (drive_level c.args.drive) inside c.is_off.ensures off
