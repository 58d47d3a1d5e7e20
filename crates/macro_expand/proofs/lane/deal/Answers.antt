-- One signal more has a lane that fits, and what is dealt to it.
use Rattle.std.proofs.Common.{ℕ, ◌<◌, ap, subst, sym, ◌∙◌, arith, length, get_or, set}
use Rattle.std.specs.List.{All}
use Rattle.std.proofs.lemmas.List.Elements.{All-set}
use Rattle.macro_expand.specs.Lanes.{Fits, no_lane}
use Rattle.macro_expand.specs.declared.lane.Lane.{Lane}
use Rattle.macro_expand.proofs.LaneLemmas.{dealt_lane, dealt-fits, dealt-more}
use Rattle.macro_expand.proofs.lane.deal.Goals as goal

pub loop-place-preserved : goal.loop-place-preserved
loop-place-preserved c =
    λ characters size.
    let signals = c.args.signals.now in
    let lanes = c.loop-place.lanes.items in
    let signal = get_or signals c.loop-place.place 0 in
    let top : ℕ = 18446744073709551615 in
    let width = length signals in
    let end = c.args.end in
    let index = c.loop-place.place in
    let place = c.saturating_add.result in
    let made = λ (p : ℕ) (base : Lane). set lanes signal (record base { width = width; place = p; end = end }) in
    let put = c.put.ensures ∙ ap (λ (base : Lane). made place base) c.empty.ensures in
    let capped = put ∙ ap (λ (p : ℕ). made p no_lane) c.saturating_add.ensures in
    let before = c.loop-place.invariant characters size in
    let inside : index < width = omega arith in
    let lane = dealt_lane width place end in
    let fits = dealt-fits characters width place end (omega arith) size (omega arith) in
    let after = c.put.new.lanes.items in
    let all = All (Fits characters) in (
      λ each. subst all (sym put) (All-set (Fits characters) lanes signal lane fits (before.0 each)),
      dealt-more characters width c.args.from index end top signals 0 lanes after size (omega arith) inside capped
          ∙ before.1,
    )
