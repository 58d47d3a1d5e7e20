use Rattle.std.proofs.Common.{◌≡◌, ℕ, Some, sym, ap, subst, ◌∙◌}
use Rattle.std.specs.Prelude.{slice_get}
use Rattle.std.specs.List.{list_all}
use Rattle.stil_ast.specs.Faults.CodeFaults.{have_waves}
use Rattle.cycle_comp.specs.Known.{Known, has_wave_at}
use Rattle.cycle_comp.proofs.KnownLemmas.{changed_judged}
use Rattle.cycle_comp.proofs.state.State.has_waves.Goals as goal

pub returns-in-Some : goal.returns-in-Some
returns-in-Some c =
    let s = c.args.self.now in
    let tables = c.args.tables.now in
    let characters = s.told.characters in
    let latest : s.latest ≡ Some c.in-Some.latest = ap (λ (k : Known). k.latest) (sym c.self.view_is) ∙ c.in-Some.is in
    c.changed_have_waves.ensures
    ∙ subst (λ (t : ℕ). list_all (has_wave_at tables t characters) s.changed ≡ have_waves (slice_get tables t) 0 characters)
    c.if-latest-table.true (changed_judged tables s c.in-Some.latest latest c.requires)
