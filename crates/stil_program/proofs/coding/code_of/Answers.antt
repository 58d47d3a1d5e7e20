use Rattle.std.proofs.lemmas.Result.{err_from_is_err_and}
use Rattle.stil_ast.specs.Meaning.Signals.{names_of}
use Rattle.stil_program.proofs.FaultLemmas.{by_fourth, by_fifth, by_sixth}
use Rattle.stil_program.proofs.coding.code_of.Goals as goal

pub returns-in_err-signals : goal.returns-in_err-signals
returns-in_err-signals c =
    let p = err_from_is_err_and c.from_residual.result c.from_residual.ensures.1 in
    rw (p.1, p.2) (by_fourth c.args.blocks.now _ c.in_err-signals.ensures.fault)

pub returns-in_err-execs : goal.returns-in_err-execs
returns-in_err-execs c =
    let p = err_from_is_err_and c.from_residual-in_err-execs.result c.from_residual-in_err-execs.ensures.1 in
    rw (p.1, p.2)
    (by_fifth c.args.blocks.now _ c.in_ok-signals.ensures.found.0 c.in_err-execs.ensures.fault)

pub returns : goal.returns
returns c =
    let names = names_of c.args.blocks.now in
    by_sixth c.args.blocks.now c.compile.result c.in_ok-execs.execs c.in_ok-signals.ensures.found.0
    c.in_ok-execs.ensures.found.0 c.in_ok-execs.ensures.found.1
    (c.compile.ensures.found names c.in_ok-signals.ensures.found.1) (c.compile.ensures.fault names c.in_ok-signals.ensures.found.1)
