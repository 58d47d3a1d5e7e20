use Rattle.std.proofs.Common.{◌≡◌, ◌∙◌, Option, pos, sym, ap, subst}
use Rattle.stil_ast.specs.Faults.Found.{first_in}
use Rattle.stil_ast.specs.Faults.TableFaults.{signal_fault}
use Rattle.stil_ast.specs.declared.fault.StilFault.{StilFault}
use Rattle.wave_tables.specs.Scope.{timed}
use Rattle.wave_tables.specs.Check.{PassesAt, read_fault, wave_fault, reference_fault}
use Rattle.wave_tables.proofs.FirstLemmas.{none_first}
use Rattle.wave_tables.proofs.InLineLemmas.{time_in_line, waves_alike}
use Rattle.wave_tables.proofs.check.check_signal.Goals as goal

pub returns-in-Ok : goal.returns-in-Ok
returns-in-Ok c =
    let t = timed c.args.scope.now in
    let period = pos c.args.period in
    let signals = c.args.signals.now in
    let alike : first_in (read_fault t.place period) c.args.reads.now ≡ first_in (wave_fault t period) signals.waves =
    ap (first_in (read_fault t.place period)) c.requires
    ∙ waves_alike t (time_in_line t.vars c.args.scope.now.vars.now c.args.scope.now.all_vars t.place) period
    signals.waves in
    let behind : signal_fault t period signals ≡ first_in (wave_fault t period) signals.waves =
    none_first (reference_fault t signals) (first_in (wave_fault t period) signals.waves) c.in-Ok.ensures in
    subst (λ (o : Option StilFault). PassesAt t.place o c.check_waves.result) (alike ∙ sym behind)
    (c.check_waves.ensures t.place)
