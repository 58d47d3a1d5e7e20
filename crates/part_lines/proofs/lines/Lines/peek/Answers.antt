use Rattle.std.proofs.Common.{ap, sym, ◌∙◌, subst, ℕ, List, take}
use Rattle.part_lines.specs.Lines.{is_one_line}
use Rattle.part_lines.specs.Reading.{IsNext}
use Rattle.part_lines.proofs.ReadingLemmas.{next_found, none_found}
use Rattle.part_lines.proofs.lines.Lines.peek.Goals as goal

pub returns-in_err-len-clause-none : goal.returns-in_err-len-clause-none
returns-in_err-len-clause-none c =
    rw c.from_residual.ensures
    (ap is_one_line (sym c.left-left.ensures) ∙ none_found c.left-left.result.now (sym c.line_len.ensures ∙ c.in_err-len.was))

pub returns-clause-found : goal.returns-clause-found
returns-clause-found c =
    subst (λ (text : List ℕ). IsNext text (take c.in_ok-len.len c.left-left.result.now)) c.left-left.ensures
    (next_found c.left-left.result.now c.in_ok-len.len (sym c.line_len.ensures ∙ c.in_ok-len.was))
