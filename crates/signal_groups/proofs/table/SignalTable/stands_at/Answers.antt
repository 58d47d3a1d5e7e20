use Rattle.std.proofs.Common.{ℕ, ◌-◌, Vec, Global, Some, sym, ap, ◌∙◌, arith}
use Rattle.std.proofs.lemmas.List.{length-map}
use Rattle.signal_groups.specs.Lookup.{place_in}
use Rattle.signal_groups.specs.Memory.{table_in}
use Rattle.signal_groups.specs.Table.{Table}
use Rattle.signal_groups.proofs.PlaceLemmas.{place-group}
use Rattle.signal_groups.proofs.table.SignalTable.stands_at.Goals as goal

pub returns-then-self : goal.returns-then-self
returns-then-self c = λ is.
    let name = c.args.name.now in
    let count = length-map c.self.inside.texts.keys (λ (k : Vec ℕ Global). k.items) in
    sym (ap (λ (t : Table). place_in t name) c.self.view_is)
    ∙ place-group (table_in c.self.inside) name (c.args.place - c.len-then-self.result) (sym c.self.invariant.apart ∙ c.if-self.true)
    (c.stands_at-then-self.ensures is)
    ∙ ap Some (omega (arith, count, c.len.ensures.len, c.len-then-self.ensures.len, c.if-place-len.false))
