-- What is left is led by a character, by the padding behind the characters, or by nothing.
use Rattle.std.proofs.Common.{◌≡◌, ◌+◌, ◌-◌, ◌∷◌, sym, ap, ◌∙◌, refl, arith, get_or, take}
use Rattle.stil_ast.specs.Meaning.Arguments.{padding}
use Rattle.macro_expand.specs.Lanes.{left_of}
use Rattle.macro_expand.proofs.LaneLemmas.{given-first, back-first, none-left, taken_once, none_taken}
use Rattle.macro_expand.proofs.lane.Lane.advanced.Goals as goal

pub returns-then-self-clause-taken : goal.returns-then-self-clause-taken
returns-then-self-clause-taken c =
    λ characters fits.
    let lane = c.args.self in
    let next = record lane { place = c.saturating_add.result; taken = lane.taken + 1 } in
    let entry = get_or (take lane.end characters) lane.place padding in
    let first : left_of characters lane ≡ entry ∷ left_of characters next =
    given-first characters lane 18446744073709551615 fits (omega arith) c.if-self.true (omega arith)
    ∙ ap (λ place. entry ∷ left_of characters (record lane { place = place })) (sym c.saturating_add.ensures) in
    taken_once characters lane next entry first refl

pub returns-then-self-gt0-2-clause-taken : goal.returns-then-self-gt0-2-clause-taken
returns-then-self-gt0-2-clause-taken c =
    λ characters fits.
    let lane = c.args.self in
    let next = record lane { back = lane.back - 1; taken = lane.taken + 1 } in
    taken_once characters lane next padding (back-first characters lane (omega arith) (omega arith) (omega arith)) refl

pub returns-else-self-gt0-2-clause-taken : goal.returns-else-self-gt0-2-clause-taken
returns-else-self-gt0-2-clause-taken c =
    λ characters fits.
    let none = none-left characters c.args.self (omega arith) (omega arith) (omega arith) in
    none_taken characters c.args.self none
