use Rattle.std.proofs.Common.{codes}
use Rattle.tester_types.specs.Printing.{printed_name}
use Rattle.std.proofs.lemmas.Result.{MatchResult-from_both}
use Rattle.log_parts.specs.Step.{ReadsLine}
use Rattle.log_parts.proofs.ReadDieLemmas.{words_only}
use Rattle.log_parts.proofs.die.expect_die.Goals as goal

pub returns : goal.returns
returns c =
    words_only (λ w. ReadsLine c.args.lines.now c.expect.new.self w c.expect.result) (codes "die ") (printed_name c.args.name.now)
    (MatchResult-from_both c.expect.result _ _ c.expect.ensures.found c.expect.ensures.fault)
