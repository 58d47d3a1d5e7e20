use Rattle.std.proofs.Common.{ℕ, ◌+◌, ◌<◌, true, Option, length, set, refl, sym, subst, ◌∙◌, arith, length-set}
use Rattle.std.proofs.lemmas.Result.{err_from_is_err_and}
use Rattle.die_sim.specs.Die.{Device}
use Rattle.cycle_run.specs.Step.{AreLevels, IsCheckedBy}
use Rattle.cycle_run.proofs.SocketLemmas.{some_with, can_sense, levels-more, levels-skips}
use Rattle.cycle_run.proofs.sensing.sense_wanted.Goals as goal

pub sense-requires : goal.sense-requires
sense-requires g c =
    let moment = some_with c.args.looks.now in
    let next = c.in-Some.ensures moment (c.loop-signal.invariant.stands moment refl) in
    can_sense _ c.args.checker.now moment c.in-Some.signal true
    (subst (λ (o : Option Device). IsCheckedBy o c.args.checker.now) (sym c.loop-signal.invariant.loaded) c.requires.checked)
    next.wanted refl

pub loop-signal-preserved : goal.loop-signal-preserved
loop-signal-preserved g c =
    let held = c.args.checker.now in
    let first = g.K.Socket.told c.args.socket.now in
    let now = g.K.Socket.told c.loop-signal.socket in
    let before = c.loop-signal.invariant in
    let items = c.loop-signal.levels.items in
    let signal = c.in-Some.signal in
    let level = c.in_ok-levels.field-0 in
    let some = some_with c.args.looks.now in
    let next = c.in-Some.ensures some (before.stands some refl) in
    let within : signal < length items = omega (arith, next.within, c.requires.wide, before.room) in
    record {
      stands = λ moment its_looks. (c.in-Some.ensures moment (before.stands moment its_looks)).stands;
      within = omega (arith, next.at, next.within);
      levels = λ moment its_looks.
          let skips = (c.in-Some.ensures moment (before.stands moment its_looks)).skips in
          let skipped = levels-skips first held moment c.loop-signal.ahead.signal signal items skips (before.levels moment its_looks) in
          let more = levels-more first now held moment signal items level within before.loaded before.state
          c.in_ok-levels.ensures.shows skipped in
          subst (λ (k : ℕ). AreLevels first held moment k (set items c.from.result level)) (sym next.at)
          (subst (λ (i : ℕ). AreLevels first held moment (signal + 1) (set items i level)) (sym c.from.ensures) more);
      state = c.in_ok-levels.ensures.kept ∙ before.state;
      tape = c.in_ok-levels.ensures.tape ∙ before.tape;
      loaded = c.in_ok-levels.ensures.loaded ∙ before.loaded;
      count = omega (arith, before.count, c.in_ok-levels.ensures.count);
      room = length-set items c.from.result level ∙ before.room;
    }

pub returns-in_err-levels-clause-some : goal.returns-in_err-levels-clause-some
returns-in_err-levels-clause-some g c =
    let p = err_from_is_err_and c.from_residual.result c.from_residual.ensures.1 in
    rw p.1 (λ moment its_looks history seen.
    let next = c.in-Some.ensures moment (c.loop-signal.invariant.stands moment its_looks) in
    (c.in-Some.signal, sym (next.wanted history seen)))

pub index_mut-requires : goal.index_mut-requires
index_mut-requires g c =
    let before = c.loop-signal.invariant in
    let some = some_with c.args.looks.now in
    let next = c.in-Some.ensures some (before.stands some refl) in
    omega (arith, next.within, c.requires.wide, before.room, c.from.ensures, c.loop-signal.levels.ok.0)

pub loop-signal-smaller : goal.loop-signal-smaller
loop-signal-smaller g c =
    let some = some_with c.args.looks.now in
    let next = c.in-Some.ensures some (c.loop-signal.invariant.stands some refl) in
    omega (arith, next.onward, next.at, next.within)
