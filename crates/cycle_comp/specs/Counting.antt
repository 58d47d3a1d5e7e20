-- How many vectors a flat tree runs, without running it.
use Rattle.std.specs.Prelude.{ℕ, ◌+◌, ◌*◌}
use Rattle.stil_ast.specs.Meaning.Flat.{Flat, done, table, character, back, cycle, repeat, save}

-- each body once, however often its loop runs it
abbrev pub vector_count : Flat → ℕ
vector_count done = 0
vector_count (table t rest) = vector_count rest
vector_count (character signal c rest) = vector_count rest
vector_count (back signal rest) = vector_count rest
vector_count (cycle mark spot rest) = 1 + vector_count rest
vector_count (repeat count body rest) = count * vector_count body + vector_count rest
vector_count (save putting body rest) = vector_count body + vector_count rest
