use Rattle.std.proofs.Common.{◌≡◌, ◌∙◌, length, sym, ap, subst, arith, List, ℕ, []}
use Rattle.std.specs.List.{All}
use Rattle.tester_types.specs.declared.wave.Table.{Table}
use Rattle.stil_ast.specs.Faults.CodeFaults.{compile_faults}
use Rattle.stil_ast.specs.Meaning.ExecutiveData.{Executive, tables_of}
use Rattle.stil_ast.specs.Meaning.Signals.{names_of}
use Rattle.packed_code.specs.Conditions.{IsProgram}
use Rattle.packed_code.specs.Program.{Exec, Program, code_of}
use Rattle.cycle_comp.specs.Compiled.{IsCodeOf}
use Rattle.cycle_comp.specs.Working.{IsFit}
use Rattle.cycle_comp.proofs.CodeLemmas.{few_tables, fits, count_is, built_here, program_is, code_is}
use Rattle.cycle_comp.proofs.compiling.compile.Goals as goal

pub build_all-requires-clause-few : goal.build_all-requires-clause-few
build_all-requires-clause-few c =
    omega (
      arith,
      ap (λ (es : List Executive). length (tables_of es)) c.into_vec.ensures,
      few_tables c.args.signals.now c.args.execs c.requires,
    )

pub build_all-requires-clause-fit : goal.build_all-requires-clause-fit
build_all-requires-clause-fit c =
    subst (λ (es : List Executive). All IsFit es) (sym c.into_vec.ensures) (fits c.args.signals.now c.args.execs c.requires)

pub new-requires : goal.new-requires
new-requires c =
    let p = c.requires in
    let b = c.in_ok-tables.field-0 in
    let built = built_here c.args.signals.now c.args.execs p c.count-count.result c.into_vec.result.items b
    c.count-count.ensures.count c.into_vec.ensures c.in_ok-tables.ensures.1 in
    subst (λ (ts : List Table). IsProgram (code_of c.in_ok-signals.signals ts b.rows c.from_vec.result))
    (sym c.from_vec-tables.ensures)
    (subst (λ (es : List Exec). IsProgram (code_of c.in_ok-signals.signals b.tables.items b.rows es)) (sym c.from_vec.ensures)
    (program_is c.args.signals.now c.args.execs p b built c.in_ok-signals.signals
    (c.in_ok-signals.ensures (names_of p.blocks) p.table_is)))

pub returns-clause-found : goal.returns-clause-found
returns-clause-found c = λ others are.
    let p = c.requires in
    let b = c.in_ok-tables.field-0 in
    let count : c.count-count.result ≡ length others.signals =
    c.count-count.ensures.count ∙ count_is c.args.signals.now c.args.execs p others are in
    let built = built_here c.args.signals.now c.args.execs p c.count-count.result c.into_vec.result.items b
    c.count-count.ensures.count c.into_vec.ensures c.in_ok-tables.ensures.1 in (
      ap (λ (k : ℕ). compile_faults k [] c.args.execs) (sym count)
          ∙ (ap (λ (es : List Executive). compile_faults c.count-count.result [] es) (sym c.into_vec.ensures)
          ∙ c.in_ok-tables.ensures.0),
      subst (λ (code : Program). IsCodeOf others c.args.execs code)
          (sym (c.new.ensures
          ∙ (ap (λ (ts : List Table). code_of c.in_ok-signals.signals ts b.rows c.from_vec.result) c.from_vec-tables.ensures
          ∙ ap (λ (es : List Exec). code_of c.in_ok-signals.signals b.tables.items b.rows es) c.from_vec.ensures)))
          (code_is c.args.signals.now c.args.execs p b built c.in_ok-signals.signals others are
          (c.in_ok-signals.ensures others are)),
    )
