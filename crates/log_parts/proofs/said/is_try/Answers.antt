use Rattle.std.proofs.Common.{ℕ, List, ◌++◌, ap, ◌∙◌}
use Rattle.std.specs.Prelude.{codes, decimal}
use Rattle.std.proofs.lemmas.Bool.{false≢true}
use Rattle.std.proofs.lemmas.List.{append-nil}
use Rattle.log_parts.proofs.SaidLemmas.{no_fails, no_cycles, try_shown}
use Rattle.log_parts.proofs.said.is_try.Goals as goal

pub returns-in_default : goal.returns-in_default
returns-in_default c =
    (λ h. absurd (false≢true h), λ is. absurd (no_fails c.args.number c.args.line.now c.in_default.ensures is))

pub returns-in_default-before_number : goal.returns-in_default-before_number
returns-in_default-before_number c = (
  λ h. absurd (false≢true h),
  λ is. absurd (no_cycles c.args.number c.args.line.now c.in-Some.front.now c.in-Some.ensures
      c.in_default-before_number.ensures is),
)

pub returns : goal.returns
returns c =
    try_shown c.args.number c.args.line.now c.in-Some.front.now c.in-Some-before_number.head.now _ c.is_printed.result
    c.in-Some.ensures c.in-Some-before_number.ensures
    (ap (λ (l : List ℕ). codes "try " ++ l) (append-nil (decimal c.from.result))
    ∙ ap (λ (n : ℕ). codes "try " ++ decimal n) c.from.ensures)
    c.is_printed.ensures
