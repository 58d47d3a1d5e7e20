use Rattle.std.proofs.Common.{◌≡◌, ◌++◌, map, take}
use Rattle.stil_ast.specs.Meaning.Statements.{a_character}
use Rattle.pat_read.proofs.data.push_characters.Given as goal

-- the characters so far stand behind what was there
abbrev pub invariant-loop-byte : goal.invariant-loop-byte
invariant-loop-byte l = l.items ≡ l.fn.items ++ map a_character (take l.byte-index l.word)
