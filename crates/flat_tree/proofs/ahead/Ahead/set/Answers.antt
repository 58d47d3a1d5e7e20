use Rattle.std.proofs.Common.{ℕ, ◌==◌, Bool, true, List, refl, ap, ◌∙◌, map, slice_set, eq-eqb}
use Rattle.std.proofs.lemmas.List.{map-set}
use Rattle.flat_tree.specs.Lean.{Ahead}
use Rattle.flat_tree.proofs.ahead.Ahead.set.Goals as goal

pub returns-then-signal-len : goal.returns-then-signal-len
returns-then-signal-len c =
    let round = c.self.inside.round in
    let marks = c.self.inside.marks.items in
    let told : List Bool → Ahead = λ bs. record { table = c.self.inside.table; signals = bs } in
    let now = λ (m : ℕ). m == round in
    ap told
    (map-set now marks c.args.signal round
    ∙ ap (λ (b : Bool). slice_set (map now marks) c.args.signal b) (eq-eqb round round refl))
    ∙ ap (λ (a : Ahead). record { table = a.table; signals = slice_set a.signals c.args.signal true }) c.self.view_is
