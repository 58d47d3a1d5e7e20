use Rattle.std.proofs.Common.{◌+◌, ◌<◌, ◌≤◌, length, sym, subst, arith, Option}
use Rattle.stil_ast.specs.Faults.Found.{IsRefusal}
use Rattle.text_bytes.specs.Limits.{most_measure, most_cycles}
use Rattle.stil_ast.specs.Meaning.ExecutiveData.{measure_of, vectors_of}
use Rattle.stil_ast.specs.declared.fault.StilFault.{StilFault}
use Rattle.cycle_comp.proofs.BuildLemmas.{measured, counted, size-many, size-none}
use Rattle.cycle_comp.proofs.sizes.checked_measure.Goals as goal

pub returns-then-cycles_in-gt-MOST_CYCLES : goal.returns-then-cycles_in-gt-MOST_CYCLES
returns-then-cycles_in-gt-MOST_CYCLES c =
    let m = measured c.args.exec.now c.flats.result.now c.measure_in.result c.flats.ensures c.measure_in.ensures in
    let n = counted c.args.signals c.args.exec.now c.flats-2.result.now c.cycles_in.result c.flats-2.ensures c.cycles_in.ensures in
    let few : c.args.before + measure_of c.args.exec.now ≤ most_measure = omega (arith, m, c.if-measure.false) in
    let many : most_cycles < length (vectors_of c.args.signals c.args.exec.now) =
    omega (arith, n, c.if-cycles_in-gt-MOST_CYCLES.true) in
    subst (λ (o : Option StilFault). IsRefusal o c.exec_refusal-then-cycles_in-gt-MOST_CYCLES.result)
    (sym (size-many c.args.before c.args.signals c.args.exec.now few many))
    c.exec_refusal-then-cycles_in-gt-MOST_CYCLES.ensures

pub returns : goal.returns
returns c =
    let m = measured c.args.exec.now c.flats.result.now c.measure_in.result c.flats.ensures c.measure_in.ensures in
    let n = counted c.args.signals c.args.exec.now c.flats-2.result.now c.cycles_in.result c.flats-2.ensures c.cycles_in.ensures in
    let few : c.args.before + measure_of c.args.exec.now ≤ most_measure = omega (arith, m, c.if-measure.false) in
    let short : length (vectors_of c.args.signals c.args.exec.now) ≤ most_cycles =
    omega (arith, n, c.if-cycles_in-gt-MOST_CYCLES.false) in (
      size-none c.args.before c.args.signals c.args.exec.now few short,
      record {
        is = omega (arith, m, c.if-measure.false);
        few = omega (arith, c.if-measure.false);
        cycles = short;
      },
    )
