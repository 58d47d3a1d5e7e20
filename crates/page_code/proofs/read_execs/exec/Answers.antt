use Rattle.std.proofs.Common.{◌&&◌, ltb, leb}
use Rattle.std.specs.Int.{w32}
use Rattle.std.proofs.lemmas.Bool.{and_parts, ltb-true}
use Rattle.page_code.specs.Fields.{number_at}
use Rattle.page_code.proofs.ReaderLaws.{checked_test}
use Rattle.page_code.proofs.read_execs.exec.Goals as goal

pub new-requires : goal.new-requires
new-requires c =
    c.in_ok-instrs.ensures.whole
    (ltb-true 0 c.in_ok-count-2.count
    (and_parts (ltb 0 c.in_ok-count-2.count) (leb c.in_ok-count-2.count 4194305)
    (checked_test (number_at w32) (λ n. ltb 0 n && leb n 4194305) c.in_ok-chains.rest.now c.in_ok-count-2.count c.in_ok-count-2.rest.now c.in_ok-count-2.ensures)).0)
