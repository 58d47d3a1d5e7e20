use Rattle.std.proofs.Common.{◌≡◌, ◌++◌, map}
use Rattle.std.specs.Prelude.{replicate}
use Rattle.stil_ast.specs.Meaning.Arguments.{padding, entry_of}
use Rattle.scan_chain.proofs.shift.add_padding.Given as goal

abbrev pub invariant-loop : goal.invariant-loop
invariant-loop l =
    map entry_of l.entries.items ≡ map entry_of l.fn.entries.items ++ replicate l.counter padding
