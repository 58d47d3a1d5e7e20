use Rattle.std.proofs.Common.{◌∙◌, ap, [], arith, length, take, get_or}
use Rattle.std.proofs.lemmas.List.{length-append}
use Rattle.page_code.specs.Spelling.{behind, row}
use Rattle.page_code.proofs.SavingLemmas.{behind_more}
use Rattle.page_code.proofs.write_rows.size_of_rows.Goals as goal

pub loop-number-preserved : goal.loop-number-preserved
loop-number-preserved c =
    let rows = c.args.rows.now in
    let number = c.loop-number.number in
    let spell = row c.args.version in
    let more = ap length (behind_more spell rows number [] (omega arith))
    ∙ length-append (behind spell [] (take number rows)) (spell (take number rows) (get_or rows number [])) in
    omega (arith, more, c.loop-number.invariant, c.size_of_row.ensures)
