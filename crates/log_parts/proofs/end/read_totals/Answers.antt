use Rattle.std.proofs.Common.{◌≡◌, ℕ, ◌-◌, List, ◌++◌, subst, arith}
use Rattle.std.proofs.lemmas.Result.{err_from_is_err_and}
use Rattle.datalog.specs.DatalogText.{total_line, totals_text}
use Rattle.part_lines.specs.Reading.{HasRead, FaultFrom}
use Rattle.part_lines.proofs.HasReadLemmas.{read_as}
use Rattle.log_parts.specs.Step.{IsText, totals_from}
use Rattle.log_parts.proofs.TotalLemmas.{totals_whole}
use Rattle.log_parts.proofs.ReadSiteLemmas.{totals_stop, total_read}
use Rattle.log_parts.proofs.end.read_totals.Goals as goal

pub returns-in_err-read_total : goal.returns-in_err-read_total
returns-in_err-read_total c =
    let p = err_from_is_err_and c.from_residual.result c.from_residual.ensures.1 in
    let bin = c.loop-bin.bin in
    let stops = subst (λ (d : ℕ). (back : List ℕ) → FaultFrom (IsText (total_line bin d ++ back)) c.loop-bin.lines c.in_err-read_total.field-0.0)
    c.count_of.ensures c.in_err-read_total.ensures in
    rw (p.1, p.2)
    (totals_stop c.args.bins.now bin c.args.lines.now c.loop-bin.lines c.in_err-read_total.field-0.0 (omega arith) (omega arith)
    c.loop-bin.invariant stops)

pub loop-bin-preserved : goal.loop-bin-preserved
loop-bin-preserved c =
    let bin = c.loop-bin.bin in
    total_read c.args.bins.now bin c.args.lines.now c.loop-bin.lines c.read_total.new.lines (omega arith) c.loop-bin.invariant
    (subst (λ (d : ℕ). HasRead c.loop-bin.lines c.read_total.new.lines (total_line bin d)) c.count_of.ensures c.in_ok-read_total.ensures)

pub returns : goal.returns
returns c =
    let last : c.loop-bin.bin ≡ 100 = omega arith in
    read_as c.args.lines.now c.loop-bin.lines (totals_from c.args.bins.now 1 (c.loop-bin.bin - 1)) (totals_text c.args.bins.now)
    (totals_whole c.args.bins.now c.loop-bin.bin last) c.loop-bin.invariant
