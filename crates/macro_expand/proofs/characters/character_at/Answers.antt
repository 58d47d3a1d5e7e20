-- The run that a search finds is the one in which the place stands.
use Rattle.std.proofs.Common.{◌≡◌, ℕ, ◌-◌, ◌<◌, ap, ◌∙◌, arith, rules, leb, leb-true, get_or}
use Rattle.std.proofs.lemmas.Bool.{leb-false}
use Rattle.std.proofs.lemmas.List.Sorted.{IsPartitionPoint-from_clause, IsPartitionedBy-leb}
use Rattle.stil_ast.specs.Meaning.Arguments.{padding}
use Rattle.macro_expand.specs.Runs.{spelled}
use Rattle.macro_expand.specs.declared.characters.CharacterRun.{CharacterRun}
use Rattle.macro_expand.proofs.RunLemmas.{ends_rise, run-inside, spelled-at}
use Rattle.macro_expand.proofs.characters.character_at.Goals as goal

pub bounds-runs-run : goal.bounds-runs-run
bounds-runs-run c =
    let runs = c.args.runs.now in
    let place = c.args.place in
    let up = ends_rise 0 runs c.requires.rise in
    let parted = IsPartitionedBy-leb (λ (run : CharacterRun). run.end) runs place up in
    let ends = λ (run : CharacterRun). leb run.end place in
    let clause = c.partition_point-run.ensures.partitioned in
    let point = IsPartitionPoint-from_clause ends _ _ clause parted (λ a r q k. search rules) in
    let first : CharacterRun = record { character = 0; end = 0 } in
    run-inside runs c.partition_point-run.result c.args.place first c.requires.rise c.requires.within
    (λ k less. leb-true _ _ (point.0 k first (omega arith) less))

pub returns : goal.returns
returns c =
    let runs = c.args.runs.now in
    let place = c.args.place in
    let run = c.partition_point-run.result in
    let up = ends_rise 0 runs c.requires.rise in
    let parted = IsPartitionedBy-leb (λ (run : CharacterRun). run.end) runs place up in
    let test = λ (run : CharacterRun). leb run.end place in
    let clause = c.partition_point-run.ensures.partitioned in
    let point = IsPartitionPoint-from_clause test _ _ clause parted (λ a r q k. search rules) in
    let first : CharacterRun = record { character = 0; end = 0 } in
    let before =
    λ (k : ℕ) (less : k < run). leb-true (get_or runs k first).end place (point.0 k first (omega arith) less) in
    let inside = run-inside runs run place first c.requires.rise c.requires.within before in
    let ends = leb-false (get_or runs run first).end place (point.1 run first (omega arith) inside) in
    ap (λ (n : ℕ). get_or (spelled 0 runs) n padding) (let e : place ≡ place - 0 = omega arith in e)
    ∙ spelled-at 0 place runs run first padding c.requires.rise (omega arith) inside before ends
