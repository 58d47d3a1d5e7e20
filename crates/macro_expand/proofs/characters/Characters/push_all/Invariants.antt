use Rattle.std.proofs.Common.{◌≡◌, ◌++◌, take}
use Rattle.stil_ast.specs.Data.Items.{items_of}
use Rattle.stil_ast.specs.Meaning.Arguments.{entries_of}
use Rattle.macro_expand.proofs.characters.Characters.push_all.Given as goal

-- the characters of the runs so far stand behind those that were there
abbrev pub invariant-loop-run : goal.invariant-loop-run
invariant-loop-run l = l.self ≡ l.fn.self ++ entries_of (items_of (take l.run-index l.runs))
