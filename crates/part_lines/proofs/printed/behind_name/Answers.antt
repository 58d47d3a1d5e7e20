use Rattle.part_lines.proofs.PrintedLemmas.{behind_printed, printed_other, printed_empty}
use Rattle.part_lines.proofs.printed.behind_name.Goals as goal
use Rattle.part_lines.proofs.printed.behind_name.Goals.{else-not-is_empty-via-then-not-is_empty+else-is_bare_name, else-not-is_empty-via-else-not-is_empty}

pub returns-else-not-is_empty : goal.returns-else-not-is_empty
returns-else-not-is_empty c =
    elim c.else-not-is_empty.branch [
      | else-not-is_empty-via-then-not-is_empty+else-is_bare_name w ↦
          behind_printed c.args.text.now c.args.name.now c.behind_quoted.result (printed_other c.args.name.now w.if-is_bare_name.ensures) c.behind_quoted.ensures
      | else-not-is_empty-via-else-not-is_empty w ↦
          behind_printed c.args.text.now c.args.name.now c.behind_quoted.result (printed_empty c.args.name.now w.if-not-is_empty.ensures) c.behind_quoted.ensures
    ]
