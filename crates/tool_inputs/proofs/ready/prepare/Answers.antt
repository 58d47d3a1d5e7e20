use Rattle.std.proofs.Common.{◌∙◌, ◌≤◌, Option, map, refl, sym, subst, arith}
use Rattle.std.specs.Arc.{arc_value}
use Rattle.std.proofs.lemmas.List.{length-map}
use Rattle.std.proofs.lemmas.Result.{err_from_is_err_and}
use Rattle.tester_types.specs.Outside.{Files}
use Rattle.plan_rows.specs.Rows.{files_of}
use Rattle.tool_inputs.specs.Inputs.{Inputs, IsPlanFile, IsPlanRefused, AreNetsRefused}
use Rattle.tool_inputs.specs.Inputs.AreRefused.{of_program, of_plan, of_nets}
use Rattle.tool_inputs.proofs.InputLemmas.{wide-plan, wide-nets, inputs_are, unbound_refused}
use Rattle.tool_inputs.proofs.NetLemmas.{files_long}
use Rattle.tool_inputs.proofs.ready.prepare.Goals as goal

pub returns-in_err-code-clause-refused : goal.returns-in_err-code-clause-refused
returns-in_err-code-clause-refused g c =
    let p = err_from_is_err_and c.from_residual.result c.from_residual.ensures.1 in
    rw (p.1, p.2) (of_program c.in_err-code.ensures.reads)

pub returns-in_err-plan-clause-refused : goal.returns-in_err-plan-clause-refused
returns-in_err-plan-clause-refused g c =
    let p = err_from_is_err_and c.from_residual-in_err-plan.result c.from_residual-in_err-plan.ensures.1 in
    let told = g.F.Shelf.told c.args.shelf.now in
    let faults = g.F.Shelf.faults in
    rw (p.1, p.2)
    (of_plan c.in_ok-code.code c.in_ok-code.ensures.reads
    (wide-plan told c.args.plan.now (faults c.args.shelf.now) (faults c.read_program.new.shelf) (faults c.read_plan.new.shelf)
    c.in_err-plan.field-0.0 c.in_ok-code.ensures.loads.counts c.in_err-plan.ensures.loads.counts
    (subst (λ (t : Option Files). IsPlanRefused t (faults c.read_program.new.shelf) (faults c.read_plan.new.shelf) c.args.plan.now
    c.in_err-plan.field-0.0) c.in_ok-code.ensures.loads.kept c.in_err-plan.ensures.reads)))

pub returns-in_err-nets-clause-refused : goal.returns-in_err-nets-clause-refused
returns-in_err-nets-clause-refused g c =
    let p = err_from_is_err_and c.from_residual-in_err-nets.result c.from_residual-in_err-nets.ensures.1 in
    let told = g.F.Shelf.told c.args.shelf.now in
    let faults = g.F.Shelf.faults in
    let rows = c.in_ok-plan.plan in
    let before : faults c.args.shelf.now ≤ faults c.read_plan.new.shelf =
    omega (arith, c.in_ok-code.ensures.loads.counts, c.in_ok-plan.ensures.loads.counts) in
    rw (p.1, p.2)
    (of_nets c.in_ok-code.code c.in_ok-code.ensures.reads rows
    (subst (λ (t : Option Files). IsPlanFile t c.args.plan.now rows) c.in_ok-code.ensures.loads.kept c.in_ok-plan.ensures.reads)
    (wide-nets told (files_of rows) (faults c.args.shelf.now) (faults c.read_plan.new.shelf) (faults c.read_nets.new.shelf)
    c.in_err-nets.field-0.0 before c.in_err-nets.ensures.loads.counts
    (subst (λ (t : Option Files). AreNetsRefused t (faults c.read_plan.new.shelf) (faults c.read_nets.new.shelf) (files_of rows)
    c.in_err-nets.field-0.0) (c.in_ok-plan.ensures.loads.kept ∙ c.in_ok-code.ensures.loads.kept) c.in_err-nets.ensures.reads)))

pub bind-requires : goal.bind-requires
bind-requires g c =
    sym (length-map c.in_ok-nets.nets.items arc_value)
    ∙ files_long (g.F.Shelf.told c.read_plan.new.shelf) (files_of c.in_ok-plan.plan) (map arc_value c.in_ok-nets.nets.items)
    c.in_ok-nets.ensures.reads

pub returns-in-Ok-clause-ready : goal.returns-in-Ok-clause-ready
returns-in-Ok-clause-ready g c =
    let inputs : Inputs = record {
      code = c.in_ok-code.code;
      rows = c.in_ok-plan.plan;
      circuits = map arc_value c.in_ok-nets.nets.items;
    } in
    record {
      inputs = inputs;
      are = inputs_are (g.F.Shelf.told c.args.shelf.now) _ _ _ _ inputs c.in_ok-code.ensures.reads c.in_ok-code.ensures.loads.kept
          c.in_ok-plan.ensures.reads c.in_ok-plan.ensures.loads.kept c.in_ok-nets.ensures.reads;
      code_is = refl;
      is = c.in-Ok.ensures.0;
      accepted = c.in-Ok.ensures.1;
    }

pub returns-in-Err-clause-refused : goal.returns-in-Err-clause-refused
returns-in-Err-clause-refused g c =
    let told = g.F.Shelf.told c.args.shelf.now in
    let inputs : Inputs = record {
      code = c.in_ok-code.code;
      rows = c.in_ok-plan.plan;
      circuits = map arc_value c.in_ok-nets.nets.items;
    } in
    let are = inputs_are told _ _ c.args.program.now c.args.plan.now inputs c.in_ok-code.ensures.reads c.in_ok-code.ensures.loads.kept
    c.in_ok-plan.ensures.reads c.in_ok-plan.ensures.loads.kept c.in_ok-nets.ensures.reads in
    unbound_refused told _ _ c.args.program.now c.args.plan.now inputs c.in-Err.fault are
    c.in-Err.ensures
