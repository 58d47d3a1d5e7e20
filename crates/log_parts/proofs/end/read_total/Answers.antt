use Rattle.std.proofs.Common.{ℕ, ◌≤◌, List, sym, subst, arith}
use Rattle.std.proofs.lemmas.Result.{MatchResult-from_both, MatchResult-weaker}
use Rattle.part_lines.specs.Reading.{HasRead}
use Rattle.log_parts.specs.Step.{ReadsLine}
use Rattle.log_parts.proofs.TotalLemmas.{total_there}
use Rattle.log_parts.proofs.ReadSiteLemmas.{total_stops, total_only}
use Rattle.log_parts.proofs.end.read_total.Goals as goal

pub returns : goal.returns
returns c =
    let some : 1 ≤ c.args.dies = omega arith in
    MatchResult-weaker c.expect.result
    (total_only (λ w. ReadsLine c.args.lines.now c.expect.new.self w c.expect.result) c.args.bin c.from.result c.args.dies c.from.ensures
    (MatchResult-from_both c.expect.result _ _ c.expect.ensures.found c.expect.ensures.fault))
    (λ done read. subst (λ (t : List ℕ). HasRead c.args.lines.now c.expect.new.self t) (sym (total_there c.args.bin c.args.dies some)) read)
    (λ e h. total_stops c.args.bin c.args.dies c.args.lines.now e some h.0 h.1)
