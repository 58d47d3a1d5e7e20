-- Characters as runs, each with the number of the characters up to its end.
use Rattle.std.specs.Prelude.{ℕ, ◌-◌, ◌≤◌, List, [], ◌∷◌, ◌++◌, replicate}
use Rattle.stil_ast.specs.Meaning.Arguments.{Entry, given}
use Rattle.macro_expand.specs.declared.characters.CharacterRun.{CharacterRun}

-- the characters of runs, the first of which begins behind so many characters
abbrev pub spelled : ℕ → List CharacterRun → List Entry
spelled from [] = []
spelled from (run ∷ runs) = replicate (run.end - from) (given run.character) ++ spelled run.end runs

-- where the last of them ends
abbrev pub end_of : ℕ → List CharacterRun → ℕ
end_of from [] = from
end_of from (run ∷ runs) = end_of run.end runs

-- each run ends where the one before it ends, or behind that
abbrev pub RiseFrom : ℕ → List CharacterRun → Type 0
RiseFrom from [] = Unit {0}
RiseFrom from (run ∷ runs) = (from ≤ run.end) × RiseFrom run.end runs
