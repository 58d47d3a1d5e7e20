use Rattle.std.proofs.Common.{List, ◌+◌, sym, subst}
use Rattle.text_bytes.proofs.ListLemmas.{slice_get-there}
use Rattle.stil_ast.specs.Meaning.ExecutiveData.{Executive}
use Rattle.burst_exec.specs.Gathered.{IsGathering}
use Rattle.burst_exec.proofs.GatherLemmas.{is_refused, goes_on}
use Rattle.burst_exec.proofs.building.take_next.Goals as goal

pub returns-in-Err-clause-takes : goal.returns-in-Err-clause-takes
returns-in-Err-clause-takes c =
    let names = c.args.names.now in
    let there = slice_get-there names.executives c.args.exec c.requires.executive in
    is_refused names c.args.exec there.0 c.args.progress.now c.args.execs.now.items c.in-Err.refusal there.1 c.requires.so_far
    (c.in-Err.ensures.taken there.0 there.1)

pub returns-clause-takes : goal.returns-clause-takes
returns-clause-takes c =
    let names = c.args.names.now in
    let there = slice_get-there names.executives c.args.exec c.requires.executive in
    subst (λ (all : List Executive). IsGathering names (c.args.exec + 1) c.exec_behind.new.progress all) (sym c.in_ok-push.ensures.items)
    (goes_on names c.args.exec there.0 c.args.progress.now c.exec_behind.new.progress c.args.execs.now.items c.in-Ok.taken there.1 c.requires.so_far
    (c.in-Ok.ensures.taken there.0 there.1).1)
