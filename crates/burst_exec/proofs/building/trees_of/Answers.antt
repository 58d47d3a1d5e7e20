use Rattle.std.proofs.Common.{◌≡◌, None, List, ap, ◌∙◌, subst}
use Rattle.answers.specs.Answers.{Blames}
use Rattle.stil_ast.specs.Meaning.Bursts.{Played}
use Rattle.stil_ast.specs.Meaning.Chains.{scan_outs}
use Rattle.stil_ast.specs.Meaning.Signals.{names_of}
use Rattle.burst_exec.specs.Carried.{HasRun}
use Rattle.burst_exec.specs.Patterns.{played_fault}
use Rattle.burst_exec.proofs.StagedLemmas.{chains_there}
use Rattle.burst_exec.proofs.building.trees_of.Goals as goal

pub returns-in-Ok-clause-runs : goal.returns-in-Ok-clause-runs
returns-in-Ok-clause-runs c = λ waves e signals outs stage.
    let blocks = c.args.blocks.now in
    let ends = c.as_slice.ensures ∙ c.in_ok-scan_outs.ensures (names_of blocks) signals
    ∙ ap (scan_outs (names_of blocks)) (chains_there blocks e c.args.stage.now.chains stage.chains_are) in
    subst (λ (ps : List Played). (played_fault blocks e ps c.args.progress.now.walked ≡ None)
    × HasRun blocks e ps c.args.progress.now c.run_all.new.progress c.run_all.new.draft)
    (c.as_slice-2.ensures ∙ stage.order_is)
    (c.in-Ok.ensures.runs e (record { signals_are = signals; tables_are = stage.tables_are; outs_are = outs; ends_are = ends }))

pub returns-clause-runs : goal.returns-clause-runs
returns-clause-runs c = λ waves e signals outs stage.
    let blocks = c.args.blocks.now in
    let ends = c.as_slice.ensures ∙ c.in_ok-scan_outs.ensures (names_of blocks) signals
    ∙ ap (scan_outs (names_of blocks)) (chains_there blocks e c.args.stage.now.chains stage.chains_are) in
    subst (λ (ps : List Played). Blames (played_fault blocks e ps c.args.progress.now.walked) c.in-Err.refusal)
    (c.as_slice-2.ensures ∙ stage.order_is)
    (c.in-Err.ensures.runs e (record { signals_are = signals; tables_are = stage.tables_are; outs_are = outs; ends_are = ends }))
