use Rattle.std.proofs.Common.{ℕ, Option, Bor, sym, ap, ◌∙◌}
use Rattle.std.specs.Prelude.{slice_get}
use Rattle.tester_types.specs.declared.wave.Wave.{Wave}
use Rattle.stil_ast.specs.Faults.CodeFaults.{has_wave}
use Rattle.cycle_comp.proofs.WaveFound.{wave-defined}
use Rattle.cycle_comp.proofs.waves.has_wave.Goals as goal

pub returns-in-Some : goal.returns-in-Some
returns-in-Some c =
    let tables = c.args.tables.now in
    c.is_some.ensures
    ∙ (wave-defined (λ (w : Bor Wave). w.now) tables c.args.table c.args.signal c.in-Some.character c.wave.result c.wave.ensures
    ∙ ap (λ (character : Option ℕ). has_wave (slice_get tables c.args.table) c.args.signal character) (sym c.in-Some.is))
