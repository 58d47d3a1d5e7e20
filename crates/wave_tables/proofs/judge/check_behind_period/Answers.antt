use Rattle.std.proofs.Common.{◌≡◌, ℕ, Some, pos, ap, ◌∙◌}
use Rattle.std.specs.Prelude.{slice_get}
use Rattle.std.specs.Option.{option_map}
use Rattle.std.proofs.lemmas.Option.{slice_get-map, get_or_from_slice_get}
use Rattle.stil_ast.specs.Faults.Found.{first_in}
use Rattle.stil_ast.specs.Faults.TableFaults.{signal_fault, inherited_fault}
use Rattle.wave_tables.specs.Scope.{timed}
use Rattle.wave_tables.specs.ReadWaves.{read_waves}
use Rattle.wave_tables.specs.Check.{count_fault, behind_period, with_waves}
use Rattle.wave_tables.proofs.FirstLemmas.{none_first, judges_same}
use Rattle.wave_tables.proofs.judge.check_behind_period.Goals as goal

pub check_signals-requires : goal.check_signals-requires
check_signals-requires c =
    let t = timed c.args.scope.now in
    let number = c.args.heir.now.number in
    let there : slice_get c.args.reads.now number ≡ Some (read_waves t c.args.table.now) =
    ap (λ l. slice_get l number) c.requires.reads ∙ slice_get-map (read_waves t) t.tables number
    ∙ ap (option_map (read_waves t)) c.requires.at in
    rw c.as_slice.ensures
    (c.as_slice-own.ensures ∙ c.index-reads-heir.is
    ∙ get_or_from_slice_get c.args.reads.now number (read_waves t c.args.table.now) c.index-reads-heir.result there)

pub returns-in-Ok-check_inherited : goal.returns-in-Ok-check_inherited
returns-in-Ok-check_inherited c =
    let t = timed c.args.scope.now in
    let number = c.args.heir.now.number in
    let period = pos c.args.heir.now.period in
    let table = c.args.table.now in
    let own = rw c.as_slice.ensures at c.in-Ok.ensures in
    judges_same t c.args.before number (λ base. count_fault t base (number, table))
    (λ base. behind_period t base (number, table) period) (λ (total : ℕ). total ≡ with_waves t c.args.before number)
    c.check_count.result
    (λ base. none_first (first_in (signal_fault t period) table.waveforms) _ own
    ∙ none_first (inherited_fault t period number) (count_fault t base (number, table))
    c.in-Ok-check_inherited.ensures)
    c.check_count.ensures
