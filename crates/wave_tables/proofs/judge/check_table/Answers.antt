use Rattle.stil_ast.specs.Faults.Found.{first_in}
use Rattle.stil_ast.specs.Faults.TableFaults.{inherit_fault, table_fault}
use Rattle.wave_tables.specs.Scope.{timed}
use Rattle.wave_tables.specs.Check.{behind_names, IsJudged}
use Rattle.wave_tables.proofs.FirstLemmas.{none_first, judges_same}
use Rattle.wave_tables.proofs.TableLemmas.{free_at}
use Rattle.wave_tables.proofs.judge.check_table.Goals as goal
use Rattle.std.proofs.lemmas.Option.{slice_get_within}

pub check_whole-requires-clause-has : goal.check_whole-requires-clause-has
check_whole-requires-clause-has c =
    let t = timed c.args.scope.now in
    let known = rw c.as_slice.ensures at c.in-Ok.ensures in
    c.requires.wholes.have c.args.number c.in-Some.whole.now c.in-Some.ensures
    (free_at t c.args.wholes.now c.args.number c.args.table.now c.requires.wholes
    (slice_get_within t.tables c.args.number c.args.table.now c.requires.at)
    c.requires.at known)

pub returns-in-Some : goal.returns-in-Some
returns-in-Some c =
    let t = timed c.args.scope.now in
    let number = c.args.number in
    let table = c.args.table.now in
    let known = rw c.as_slice.ensures at c.in-Ok.ensures in
    judges_same t c.args.before number (λ base. behind_names t base (number, table))
    (λ base. table_fault t base (number, table)) (λ judged. IsJudged t c.args.before number judged)
    c.check_whole.result
    (λ base. none_first (first_in (inherit_fault t.place t.tables) table.inherits) (behind_names t base (number, table))
    known)
    c.check_whole.ensures
