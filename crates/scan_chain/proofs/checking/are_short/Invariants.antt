use Rattle.std.proofs.Common.{◌≡◌, drop, length}
use Rattle.std.specs.Prelude.{nat_le}
use Rattle.std.specs.List.{list_all}
use Rattle.text_bytes.specs.Limits.{longest_name}
use Rattle.stil_ast.specs.Data.Texts.{indices, indexed}
use Rattle.scan_chain.proofs.checking.are_short.Given as goal

abbrev pub invariant-loop-place : goal.invariant-loop-place
invariant-loop-place l =
    list_all (λ i. nat_le (length (indexed l.fn.name i)) longest_name)
    (drop l.place (indices l.fn.range))
    ≡ list_all (λ i. nat_le (length (indexed l.fn.name i)) longest_name) (indices l.fn.range)
