-- The padding that is missing stands at the end of an Out signal's data, and else in front.
use Rattle.std.proofs.Common.{ℕ, ◌-◌, sym, ap, ◌∙◌}
use Rattle.stil_ast.specs.Meaning.Shift.{column}
use Rattle.macro_expand.specs.Lanes.{left_of}
use Rattle.macro_expand.proofs.LaneLemmas.{padded-back, padded-front}
use Rattle.macro_expand.proofs.lane.Lane.padded.Goals as goal

pub returns-then-is_out-clause-column : goal.returns-then-is_out-clause-column
returns-then-is_out-clause-column c =
    λ characters fits.
    let missing = c.saturating_sub-missing.result in
    let short = c.saturating_sub-missing.ensures ∙ ap (λ (n : ℕ). c.args.count - n) c.len.ensures in
    padded-back characters c.args.self c.args.count missing fits short
    ∙ ap (λ is_out. column is_out c.args.count (left_of characters c.args.self)) (sym c.if-is_out.true)

pub returns-else-is_out-clause-column : goal.returns-else-is_out-clause-column
returns-else-is_out-clause-column c =
    λ characters fits.
    let missing = c.saturating_sub-missing.result in
    let short = c.saturating_sub-missing.ensures ∙ ap (λ (n : ℕ). c.args.count - n) c.len.ensures in
    padded-front characters c.args.self c.args.count missing fits short
    ∙ ap (λ is_out. column is_out c.args.count (left_of characters c.args.self)) (sym c.if-is_out.false)
