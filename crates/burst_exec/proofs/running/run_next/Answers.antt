use Rattle.std.proofs.Common.{[], ◌∷◌, ◌++◌, ap, ◌∙◌}
use Rattle.stil_ast.specs.Data.Places.{Titles}
use Rattle.stil_ast.specs.Meaning.ExecutiveData.{Tree}
use Rattle.pattern_order.specs.Held.{played_by}
use Rattle.burst_exec.specs.Carried.{drafted}
use Rattle.burst_exec.proofs.RunLemmas.{is_refused, runs_next}
use Rattle.burst_exec.proofs.running.run_next.Goals as goal

pub returns-in-Err-clause-runs : goal.returns-in-Err-clause-runs
returns-in-Err-clause-runs c = λ e patterns before rest stands running.
    is_refused c.args.standing.now.blocks.now e patterns before.walked (played_by c.args.played.now) rest
    (drafted c.args.draft.now) c.args.progress.now.walked c.in-Err.refusal running.playing (c.in-Err.ensures.expanded e stands)

pub returns-clause-runs : goal.returns-clause-runs
returns-clause-runs c = λ e patterns before rest stands running.
    let tree : Titles → Tree = λ titles. record { titles = titles; flat = c.in-Ok.flat } in
    runs_next c.args.standing.now.blocks.now e patterns before (played_by c.args.played.now) rest c.args.progress.now
    c.expand_next.new.progress c.args.draft.now c.put.new.self c.in-Ok.flat c.has_stop.result running
    (c.in-Ok.ensures.expanded e stands).1
    (c.in_ok-put.ensures.one_more
    ∙ ap (λ (titles : Titles). drafted c.args.draft.now ++ (tree titles ∷ [])) c.titles_in.ensures)
    c.has_stop.ensures
