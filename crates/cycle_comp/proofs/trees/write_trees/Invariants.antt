use Rattle.std.proofs.Common.{take}
use Rattle.stil_ast.specs.Meaning.State.{start_of}
use Rattle.cycle_comp.specs.Known.{IsKnown}
use Rattle.cycle_comp.specs.Writing.{flats_run, flats_measure, Walked}
use Rattle.cycle_comp.specs.Passes.{flats_written, IsExact}
use Rattle.cycle_comp.proofs.trees.write_trees.Given as goal

abbrev pub invariant-loop-number : goal.invariant-loop-number
invariant-loop-number l =
    Walked l.source.tables.now l.source.first (flats_run (take l.number l.trees) (start_of l.signals))
    (flats_measure (take l.number l.trees)) l.fn.code.items l.code.items l.fn.rows l.rows l.state.told
    × IsKnown l.source.tables.now l.rows l.state
    × IsExact l.source.first (λ entry code. flats_written entry (take l.number l.trees) (start_of l.signals) code)
    l.fn.code.items l.code.items l.rows
