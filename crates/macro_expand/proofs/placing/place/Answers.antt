use Rattle.std.proofs.Common.{map, ap, ◌∙◌, sym, subst}
use Rattle.macro_expand.specs.Pairs.{taker_of}
use Rattle.macro_expand.specs.Placing.{assign_of, placed}
use Rattle.macro_expand.specs.Refusing.{IsAt, Trouble}
use Rattle.macro_expand.specs.Standings.{standing_in}
use Rattle.macro_expand.specs.Walks.{walked}
use Rattle.macro_expand.proofs.PlaceLemmas.{misplaced_at, width_at, data_at, places}
use Rattle.macro_expand.proofs.placing.place.Goals as goal

pub returns-then-is_misplaced : goal.returns-then-is_misplaced
returns-then-is_misplaced c = λ sc.
    let s = standing_in sc c.args.s.now in
    let a = assign_of c.args.signals.now c.args.runs.now in
    let w = walked c.args.walk.now in
    subst (λ (t : Trouble). IsAt sc.titles (placed sc s c.args.line a w) t) (sym c.trouble.ensures)
    (misplaced_at sc s c.args.line a w (sym (c.if-is_misplaced.ensures sc)))

pub returns-then-not-width_fits : goal.returns-then-not-width_fits
returns-then-not-width_fits c = λ sc.
    let s = standing_in sc c.args.s.now in
    let a = assign_of c.args.signals.now c.args.runs.now in
    let w = walked c.args.walk.now in
    subst (λ (t : Trouble). IsAt sc.titles (placed sc s c.args.line a w) t) (sym c.trouble-then-not-width_fits.ensures)
    (width_at sc s c.args.line a w (sym (c.if-is_misplaced.ensures sc)) (sym c.if-not-width_fits.ensures))

pub returns-then-not-is_there : goal.returns-then-not-is_there
returns-then-not-is_there c = λ sc.
    let s = standing_in sc c.args.s.now in
    let a = assign_of c.args.signals.now c.args.runs.now in
    let w = walked c.args.walk.now in
    subst (λ (t : Trouble). IsAt sc.titles (placed sc s c.args.line a w) t) (sym c.trouble-then-not-is_there.ensures)
    (data_at sc s c.args.line a w (sym (c.if-is_misplaced.ensures sc)) (sym c.if-not-width_fits.ensures)
    (sym (c.if-not-is_there.ensures sc)))

pub returns : goal.returns
returns c = λ sc.
    places sc (standing_in sc c.args.s.now) c.args.line (assign_of c.args.signals.now c.args.runs.now)
    (map taker_of c.as_slice-3.result.now) c.args.walk.now (sym (c.if-is_misplaced.ensures sc))
    (sym c.if-not-width_fits.ensures) (sym (c.if-not-is_there.ensures sc))
    (ap (map taker_of) c.as_slice-3.ensures.value ∙ c.in_ok-pair_up.ensures) c.deal.new.walk c.in_ok-deal.ensures
