use Rattle.std.proofs.Common.{◌≡◌, List, None, sym, subst, ◌∙◌}
use Rattle.stil_ast.specs.Meaning.State.{start_of}
use Rattle.stil_ast.specs.Faults.CodeFaults.{trees_fault}
use Rattle.packed_code.specs.declared.instr.Instr.{Instr}
use Rattle.cycle_comp.specs.Written.{IsWritten}
use Rattle.cycle_comp.specs.Writing.{flats_run, flats_measure, Wrote}
use Rattle.cycle_comp.specs.Passes.{flats_written, IsExact}
use Rattle.cycle_comp.proofs.WriteLemmas.{wrote_trees, stopped_faulty, faulty_refusal, faulty_memory}
use Rattle.cycle_comp.proofs.trees.write.Goals as goal

pub returns-in-Err-clause-fault : goal.returns-in-Err-clause-fault
returns-in-Err-clause-fault c = λ named same.
    stopped_faulty c.args.tables.now c.args.signals named c.args.trees.now c.in-Err.error same c.in-Err.ensures

pub returns-in-Err-clause-only : goal.returns-in-Err-clause-only
returns-in-Err-clause-only c = λ named same none.
    faulty_memory c.args.tables.now c.args.signals named c.in-Err.error none
    (stopped_faulty c.args.tables.now c.args.signals named c.args.trees.now c.in-Err.error same c.in-Err.ensures)

pub returns-in-Err-clause-refused : goal.returns-in-Err-clause-refused
returns-in-Err-clause-refused c = λ named f same first.
    faulty_refusal c.args.tables.now c.args.signals named f c.in-Err.error first
    (stopped_faulty c.args.tables.now c.args.signals named c.args.trees.now c.in-Err.error same c.in-Err.ensures)

pub returns-clause-found : goal.returns-clause-found
returns-clause-found c = λ named same.
    let code = c.write_trees.new.code.items in
    let s = start_of c.args.signals in
    let begun = subst (λ (none : List Instr). Wrote c.args.tables.now c.args.first (flats_run c.args.trees.now s).made
    (flats_measure c.args.trees.now) none code c.args.rows.now c.write_trees.new.rows)
    c.new-code.ensures.items c.in-Ok.ensures.0 in
    let exact = subst (λ (none : List Instr). IsExact c.args.first
    (λ entry old. flats_written entry c.args.trees.now s old) none code c.write_trees.new.rows)
    c.new-code.ensures.items c.in-Ok.ensures.1 in
    let all = wrote_trees c.args.tables.now c.args.first c.args.signals named c.args.trees.now code c.args.rows.now
    c.write_trees.new.rows same begun exact in (
      all.0,
      subst (λ (instrs : List Instr). IsWritten c.args.first c.args.signals named instrs c.args.rows.now c.write_trees.new.rows)
          (sym (c.from_vec.ensures ∙ c.in_ok-push.ensures.items)) all.1,
    )

pub returns-clause-refused : goal.returns-clause-refused
returns-clause-refused c = λ named f same first.
    let none = (returns-clause-found c named same).0 in
    let e : trees_fault c.args.tables.now named (start_of c.args.signals) ≡ None = none in
    absurd cc
