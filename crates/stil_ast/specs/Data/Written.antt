-- Statements as they are written, with names in place of numbers (IEEE 1450-1999, clauses 22 to 24).
use Rattle.std.specs.Prelude.{ℕ, ◌+◌}
use Rattle.stil_ast.specs.declared.body.Step.{Step}

-- statements in order, each with its line: one without statements in it, a Loop with how often it runs, a Shift; each
-- holds those behind it
pub data Written : Type 0 where
  no_more : Written
  single : ℕ → Step → Written → Written
  looped : ℕ → ℕ → Written → Written → Written
  shifted : ℕ → Written → Written → Written

-- how many bodies stand in them, at any depth
abbrev pub written_size : Written → ℕ
written_size no_more = 0
written_size (single line plain rest) = written_size rest
written_size (looped line times body rest) = written_size body + 1 + written_size rest
written_size (shifted line body rest) = written_size body + 1 + written_size rest

-- how many statements they are, without those in bodies
abbrev pub statement_count : Written → ℕ
statement_count no_more = 0
statement_count (single line plain rest) = 1 + statement_count rest
statement_count (looped line times body rest) = 1 + statement_count rest
statement_count (shifted line body rest) = 1 + statement_count rest
