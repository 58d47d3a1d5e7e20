use Rattle.std.proofs.Common.{◌+◌, ◌∙◌, ℕ, ap, arith}
use Rattle.fault_grade.specs.Grade.{first_part}
use Rattle.fault_grade.specs.Run.{cut_at, run_of}
use Rattle.fault_grade.proofs.CutLemmas.{cut-rises, cut-within}
use Rattle.grade_parts.specs.Part.{part_grade}
use Rattle.grade_parts.proofs.part.grade_part.Goals as goal

pub grade_run-requires-clause-order : goal.grade_run-requires-clause-order
grade_run-requires-clause-order c =
    let rises = cut-rises c.fault_count-count.result c.args.parts c.args.part c.requires.some in
    omega (arith, rises, c.cut_at-from.ensures, c.cut_at-to.ensures)

pub grade_run-requires-clause-within : goal.grade_run-requires-clause-within
grade_run-requires-clause-within c =
    let within = cut-within c.fault_count-count.result c.args.parts (c.args.part + 1) (omega (arith, c.requires.part)) in
    omega (arith, within, c.cut_at-to.ensures, c.fault_count-count.ensures.count)

pub returns : goal.returns
unfolding part_grade
returns c =
    let count = c.fault_count-count.ensures.count in
    let from = c.cut_at-from.ensures ∙ ap (λ (n : ℕ). cut_at n c.args.parts c.args.part) count in
    let to = c.cut_at-to.ensures ∙ ap (λ (n : ℕ). cut_at n c.args.parts (c.args.part + 1)) count in
    let faults = c.in_ok-faults.ensures ∙ (λ i. run_of (first_part c.args.plan.now) (from i) (to i)) in
    λ i. record { good = c.in_ok-good.ensures i; faults = faults i }
