use Rattle.std.proofs.Common.{sym, ◌∙◌, arith}
use Rattle.packed_code.proofs.WalkLemmas.{length-cycles}
use Rattle.site_run.proofs.RunLemmas.{next_is, first_here, first_later, first_none}
use Rattle.site_run.proofs.run.next_exec.Goals as goal

pub loop-exec-init : goal.loop-exec-init
loop-exec-init c = next_is c.args.code.now c.args.from

pub returns-then-cycles-gt0-clause-first : goal.returns-then-cycles-gt0-clause-first
returns-then-cycles-gt0-clause-first c =
    sym (first_here c.args.code.now c.loop-exec.exec c.cycles.result c.cycles.ensures (omega arith) (omega arith)) ∙ c.loop-exec.invariant

pub returns-then-cycles-gt0-clause-within : goal.returns-then-cycles-gt0-clause-within
returns-then-cycles-gt0-clause-within c =
    let count = length-cycles c.args.code.now c.loop-exec.exec in
    (omega arith, omega arith, omega (arith, count, c.cycles.ensures))

pub loop-exec-preserved : goal.loop-exec-preserved
loop-exec-preserved c =
    sym (first_later c.args.code.now c.loop-exec.exec c.cycles.result c.cycles.ensures (omega arith) (omega arith)) ∙ c.loop-exec.invariant

pub returns-clause-first : goal.returns-clause-first
returns-clause-first c = sym (first_none c.args.code.now c.loop-exec.exec (omega arith)) ∙ c.loop-exec.invariant
