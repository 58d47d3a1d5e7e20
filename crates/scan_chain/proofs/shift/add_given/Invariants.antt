use Rattle.std.proofs.Common.{◌≡◌, ◌++◌, map, drop}
use Rattle.stil_ast.specs.Meaning.Arguments.{given, entry_of}
use Rattle.scan_chain.proofs.shift.add_given.Given as goal

abbrev pub invariant-loop-character : goal.invariant-loop-character
invariant-loop-character l =
    map entry_of l.entries.items ++ map given (drop l.character-index l.left)
    ≡ map entry_of l.fn.entries.items ++ map given l.left
