use Rattle.std.proofs.Common.{◌≡◌, ℕ, List, sym, subst}
use Rattle.std.specs.Prelude.{sum_by}
use Rattle.std.specs.List.{flat_map}
use Rattle.std.proofs.lemmas.Result.{err_from_is_err_and}
use Rattle.part_lines.specs.Lines.{ended}
use Rattle.tester_types.specs.Outside.{GainsFront, Puts}
use Rattle.tester_types.proofs.OutsideLemmas.{first_stops, second_stops, third_ends}
use Rattle.grade_parts.specs.Step.{counts_text, fault_lines, count_of, found_of}
use Rattle.grade_parts.proofs.MergeLemmas.{merged_at}
use Rattle.grade_parts.proofs.merge.put_merged_grade.Goals as goal

pub returns-in_err-put_good-clause-puts : goal.returns-in_err-put_good-clause-puts
returns-in_err-put_good-clause-puts g c = λ first later e.
    let p = err_from_is_err_and c.from_residual.result c.from_residual.ensures.1 in
    let logs = c.args.logs.now in
    let good = c.good.result.now in
    let is = merged_at logs later first c.index-logs-0.result good e c.index-logs-0.is c.good.ensures.line in
    rw p.1
    (subst (λ (t : List ℕ). GainsFront (g.K.Sink.told c.args.sink.now) t (g.K.Sink.told c.put_good.new.sink)) (sym is)
    (first_stops _ _ (ended good) (flat_map fault_lines logs) (counts_text (sum_by count_of logs) (sum_by found_of logs))
    c.in_err-put_good.ensures.puts))

pub returns-in_err-put_faults-clause-puts : goal.returns-in_err-put_faults-clause-puts
returns-in_err-put_faults-clause-puts g c = λ first later e.
    let p = err_from_is_err_and c.from_residual-in_err-put_faults.result c.from_residual-in_err-put_faults.ensures.1 in
    let logs = c.args.logs.now in
    let good = c.good.result.now in
    let is = merged_at logs later first c.index-logs-0.result good e c.index-logs-0.is c.good.ensures.line in
    rw p.1
    (subst (λ (t : List ℕ). GainsFront (g.K.Sink.told c.args.sink.now) t (g.K.Sink.told c.put_faults.new.sink)) (sym is)
    (second_stops _ (g.K.Sink.told c.put_good.new.sink) _ (ended good) (flat_map fault_lines logs)
    (counts_text (sum_by count_of logs) (sum_by found_of logs)) c.in_ok-put_good.ensures.puts c.in_err-put_faults.ensures.puts))

pub returns-clause-puts : goal.returns-clause-puts
returns-clause-puts g c = λ first later e.
    let logs = c.args.logs.now in
    let good = c.good.result.now in
    let is = merged_at logs later first c.index-logs-0.result good e c.index-logs-0.is c.good.ensures.line in
    let counts : counts_text c.count_all.result c.found_all.result ≡ counts_text (sum_by count_of logs) (sum_by found_of logs) =
    λ i. counts_text (c.count_all.ensures i) (c.found_all.ensures i) in
    subst (λ (t : List ℕ). Puts (g.K.Sink.told c.args.sink.now) t c.put_counts.result (g.K.Sink.told c.put_counts.new.sink)) (sym is)
    (third_ends _ (g.K.Sink.told c.put_good.new.sink) (g.K.Sink.told c.put_faults.new.sink) _ (ended good)
    (flat_map fault_lines logs) (counts_text (sum_by count_of logs) (sum_by found_of logs)) _
    c.in_ok-put_good.ensures.puts c.in_ok-put_faults.ensures.puts
    (subst (λ (t : List ℕ). Puts (g.K.Sink.told c.put_faults.new.sink) t c.put_counts.result (g.K.Sink.told c.put_counts.new.sink))
    counts c.put_counts.ensures.puts))
