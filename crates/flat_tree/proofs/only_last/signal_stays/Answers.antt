use Rattle.std.proofs.Common.{◌∙◌, sym, refl}
use Rattle.flat_tree.specs.declared.flat.Slot.TheVariants.{Character, Back}
use Rattle.flat_tree.proofs.LeanLemmas.{in_front, character_dropped, back_dropped}
use Rattle.flat_tree.proofs.only_last.signal_stays.Goals as goal

pub returns-then-has-clause-character : goal.returns-then-has-clause-character
returns-then-has-clause-character c character signals kept slots m =
    let ahead = c.args.ahead.now in
    in_front signals ahead ahead (Character character c.args.signal) kept kept slots m m.size refl refl
    (λ lean was made. character_dropped signals ahead c.args.signal character _ _ made (sym c.has.ensures ∙ c.if-has.true))

pub returns-then-has-clause-back : goal.returns-then-has-clause-back
returns-then-has-clause-back c signals kept slots m =
    let ahead = c.args.ahead.now in
    in_front signals ahead ahead (Back c.args.signal) kept kept slots m m.size refl refl
    (λ lean was made. back_dropped signals ahead c.args.signal _ _ made (sym c.has.ensures ∙ c.if-has.true))
