-- How much stands in a flat tree.
use Rattle.std.specs.Prelude.{ℕ, ◌+◌}
use Rattle.stil_ast.specs.Meaning.Flat.{Flat, done, table, character, back, cycle, repeat, save}

-- how many items stand at the top of a flat tree
abbrev pub item_count : Flat → ℕ
item_count done = 0
item_count (table t rest) = 1 + item_count rest
item_count (character signal c rest) = 1 + item_count rest
item_count (back signal rest) = 1 + item_count rest
item_count (cycle mark spot rest) = 1 + item_count rest
item_count (repeat count body rest) = 1 + item_count rest
item_count (save putting body rest) = 1 + item_count rest

-- how many bodies of loops and saves stand in a flat tree, at any depth
abbrev pub body_count : Flat → ℕ
body_count done = 0
body_count (table t rest) = body_count rest
body_count (character signal c rest) = body_count rest
body_count (back signal rest) = body_count rest
body_count (cycle mark spot rest) = body_count rest
body_count (repeat count body rest) = body_count body + 1 + body_count rest
body_count (save putting body rest) = body_count body + 1 + body_count rest
