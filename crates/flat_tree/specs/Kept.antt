-- What a call leaves in a flat tree: nothing where its body has neither a vector nor a Loop.
use Rattle.std.specs.Prelude.{◌||◌, Bool, true, false, if◌then◌else◌}
use Rattle.stil_ast.specs.Meaning.Flat.{Flat, done, table, character, back, cycle, repeat, save}
use Rattle.stil_ast.specs.Meaning.Flattening.{joined}

-- whether a vector stands in a flat tree, at any depth
abbrev pub has_vector : Flat → Bool
has_vector done = false
has_vector (table t rest) = has_vector rest
has_vector (character signal c rest) = has_vector rest
has_vector (back signal rest) = has_vector rest
has_vector (cycle mark spot rest) = true
has_vector (repeat count body rest) = has_vector body || has_vector rest
has_vector (save putting body rest) = has_vector body || has_vector rest

-- its loops alone, in running order, with their loops alone in them
abbrev pub loops_in : Flat → Flat
loops_in done = done
loops_in (table t rest) = loops_in rest
loops_in (character signal c rest) = loops_in rest
loops_in (back signal rest) = loops_in rest
loops_in (cycle mark spot rest) = loops_in rest
loops_in (repeat count body rest) = repeat count (loops_in body) (loops_in rest)
loops_in (save putting body rest) = joined (loops_in body) (loops_in rest)

-- what a call of a body leaves in front of what comes: a save where the body has a vector, else its loops alone, which
-- count in the measure
abbrev pub call_front : Flat → Flat → Flat
call_front body rest = if has_vector body then save true body rest else joined (loops_in body) rest

-- a flat tree in which each call leaves no more than that
abbrev pub kept : Flat → Flat
kept done = done
kept (table t rest) = table t (kept rest)
kept (character signal c rest) = character signal c (kept rest)
kept (back signal rest) = back signal (kept rest)
kept (cycle mark spot rest) = cycle mark spot (kept rest)
kept (repeat count body rest) = repeat count (kept body) (kept rest)
kept (save true body rest) = call_front (kept body) (kept rest)
kept (save false body rest) = save false (kept body) (kept rest)
