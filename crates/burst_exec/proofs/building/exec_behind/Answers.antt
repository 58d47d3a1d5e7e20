use Rattle.std.proofs.Common.{◌≡◌, List, None, refl, ap, ◌∙◌, subst, get_or}
use Rattle.std.proofs.lemmas.Option.{get_or_from_slice_get}
use Rattle.answers.specs.Answers.{Blames}
use Rattle.signal_groups.specs.Table.{table_of}
use Rattle.stil_ast.specs.Meaning.Resolved.{outs_of}
use Rattle.stil_ast.specs.Meaning.Signals.{names_of}
use Rattle.stil_ast.specs.declared.blocks.Blocks.{Blocks}
use Rattle.stil_ast.specs.declared.executive.ExecDecl.{ExecDecl}
use Rattle.burst_exec.specs.Carried.{HasRun}
use Rattle.burst_exec.specs.Patterns.{played_fault}
use Rattle.burst_exec.specs.Staged.{order_of, IsStageOf}
use Rattle.burst_exec.specs.declared.progress.Progress.{Progress}
use Rattle.burst_exec.proofs.GatherLemmas.{for_stage, for_patterns, taken_found}
use Rattle.burst_exec.proofs.building.exec_behind.Goals as goal

pub returns-in-Err-clause-taken : goal.returns-in-Err-clause-taken
returns-in-Err-clause-taken c = λ e at.
    for_stage c.args.names.now e c.args.progress.now c.in-Err.refusal (c.in-Err.ensures.staged e at)

pub returns-clause-taken : goal.returns-clause-taken
returns-clause-taken c = λ e at.
    let names = c.args.names.now in
    let stage = c.in-Ok.ensures.staged e at in
    for_patterns names e c.args.progress.now c.in-Err-trees_of.refusal stage.0
    (subst (λ (b : Blocks). c.args.signals.now ≡ table_of (names_of b) → c.args.outs.now ≡ outs_of (names_of b)
    → IsStageOf b c.args.progress.now.waves e c.in-Ok.stage
    → Blames (played_fault b e (order_of b e) c.args.progress.now.walked) c.in-Err-trees_of.refusal)
    c.blocks-blocks.ensures (c.in-Err-trees_of.ensures.runs c.args.progress.now.waves e) c.requires.signals c.requires.outs stage.1)

pub returns-in-Ok-trees_of-clause-taken : goal.returns-in-Ok-trees_of-clause-taken
returns-in-Ok-trees_of-clause-taken c = λ e at.
    let names = c.args.names.now in
    let old = c.args.progress.now in
    let begin : Progress = record { macros = old.macros; procedures = old.procedures; scans = c.stage_exec.new.scans; waves = c.in-Ok.stage.waves; walked = old.walked } in
    let stage = c.in-Ok.ensures.staged e at in
    let run = subst (λ (b : Blocks). c.args.signals.now ≡ table_of (names_of b) → c.args.outs.now ≡ outs_of (names_of b)
    → IsStageOf b old.waves e c.in-Ok.stage
    → (played_fault b e (order_of b e) old.walked ≡ None)
    × HasRun b e (order_of b e) begin c.trees_of.new.progress c.in-Ok-trees_of.draft)
    c.blocks-blocks.ensures (c.in-Ok-trees_of.ensures.runs old.waves e) c.requires.signals c.requires.outs stage.1 in
    let decl = c.index-as_slice-exec.result in
    let same : decl ≡ e = c.index-as_slice-exec.is
    ∙ ap (λ (all : List ExecDecl). get_or all c.args.exec decl) (c.as_slice.ensures ∙ ap (λ (b : Blocks). b.executives) c.blocks-blocks.ensures)
    ∙ get_or_from_slice_get names.executives c.args.exec e decl at in
    taken_found names e old begin c.trees_of.new.progress c.in-Ok.stage c.in-Ok-trees_of.draft decl c.held.result same stage run.1 refl refl
    c.held.ensures
